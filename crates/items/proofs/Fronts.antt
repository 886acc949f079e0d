-- A window within a part: what lies whole in a window `&s[..end]` of a part s lies whole in the part, up to that end.
-- Assumes nothing.
use mathlib.Core.Path.{◌≡◌, sym, ap, ◌∙◌}
use mathlib.Core.List.{List, ◌++◌}
use Prim.Native.Nat.{ℕ, ◌≤◌}
use native.Mathlib.Omega.{arith}
use lib.ListN.{length, take, drop, take-append-drop}
use lib.Seq.{length-take-le, drop-append-le}
use Rattle.std.specs.Prelude.{Ok}
use Rattle.leaves.proofs.Fronts.{get-front}
use Rattle.byte_steps.specs.Automaton.{Run, fed}
use Rattle.byte_steps.specs.declared.modes.Items.{Items}
use Rattle.byte_steps.proofs.Fed.{fed-parts}
use Rattle.items.specs.declared.Item.{Item}
use Rattle.items.specs.declared.Run as Taken
use Rattle.items.specs.Fed.{ShapeFed, RunFed}

module _ (s : List ℕ) (end : ℕ) (k : end ≤ length s) where
  -- the bytes from a place of the window on are those left in it and those after it
  split : (at : ℕ) → at ≤ end → drop at s ≡ drop at (take end s) ++ drop end s
  split at h = ap (drop at) (sym (take-append-drop end s)) ∙ drop-append-le at (take end s) (drop end s) (rw (length-take-le end s k) h)

  -- what is fed with the window's bytes is fed with the bytes after it
  fed-front : (p q : Run) (at next : ℕ) → at ≤ end → next ≤ end → fed p (drop at (take end s)) ≡ fed q (drop next (take end s)) → fed p (drop at s) ≡ fed q (drop next s)
  fed-front p q at next h i e =
      rw (split at h, split next i, ← fed-parts p (drop at (take end s)) (drop end s), ← fed-parts q (drop next (take end s)) (drop end s)) (ap (λ r. fed r (drop end s)) e)

  -- A shape that lies whole in the window.
  pub shape-window : (at n deepest : ℕ) (item : Item) → ShapeFed (take end s) (length (take end s)) at n deepest (Ok item) → ShapeFed s end at n deepest (Ok item)
  shape-window at n deepest item f =
      let z : length (take end s) ≡ end = length-take-le end s k in
      let h = rw z at f in (
        h.0,
        h.1,
        λ l ls top count whole e i j.
            fed-front _ _ at item.next (omega (arith, h.0, h.1)) h.1 (rw (get-front s end at (omega (arith, h.0, h.1))) at (h.2 l ls top count whole e i j)),
      )

  -- Items that do.
  pub run-window : {items : Items} {at n due deepest : ℕ} {r : Taken.Run} → at ≤ end → RunFed items (take end s) (length (take end s)) at n due deepest r → RunFed items s end at n due deepest r
  run-window {at = at} {r = r} b f =
      let z : length (take end s) ≡ end = length-take-le end s k in
      let h = rw z at f in
      record {
        from = h.from;
        inside = h.inside;
        fewer = h.fewer;
        same = λ l ls from stop count whole e i j. fed-front _ _ at r.i b (omega (arith, h.inside)) (h.same l ls from stop count whole e i j);
      }
