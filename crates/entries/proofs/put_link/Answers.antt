-- `entries::put_link` meets its contract.
use mathlib.Core.Path.{◌≡◌}
use Rattle.meaning.specs.Rules.{◌⇒◌∣◌}
use Rattle.payloads.specs.Payload.{named, shaped}
use Rattle.entries.proofs.Entries.{pair-wrote}
use Rattle.entries.proofs.put_link.Goals as goal
use Rattle.entries.proofs.put_link.Goals.{then-is_shaped, else-is_shaped, then-is_named, else-is_named}

pub returns : goal.returns
returns c = let a = c.args in
    let m : c.if-is_shaped.put_two ≡ (shaped a.kind ⇒ a.target ∣ λ _. 0) =
    elim c.if-is_shaped.branch [
      | then-is_shaped w ↦ rw (← c.is_shaped.ensures, w.if-is_shaped.true) w.put_two-is
      | else-is_shaped w ↦ rw (← c.is_shaped.ensures, w.if-is_shaped.false) w.put_two-is
    ] in
    let n : c.if-is_named.put_two ≡ (named a.kind ⇒ a.k ∣ λ _. 0) =
    elim c.if-is_named.branch [
      | then-is_named w ↦ rw (← c.is_named.ensures, w.if-is_named.true) w.put_two-is
      | else-is_named w ↦ rw (← c.is_named.ensures, w.if-is_named.false) w.put_two-is
    ] in
    rw (← m, ← n) (pair-wrote _ _ _ _ _ _ c.requires.2 c.put_two.ensures c.put_two-2.ensures)
