-- `tables::put_node` meets its contract.
use mathlib.Core.Path.{◌≡◌, ◌∙◌, ap}
use mathlib.Core.List.{List, [], ◌∷◌, ◌++◌}
use Prim.Native.Nat.{ℕ, ◌+◌, ◌≤◌}
use native.Mathlib.Omega.{arith}
use lib.ListN.{length}
use Rattle.meaning.specs.Numbers.{two_bytes}
use Rattle.buffers.specs.Written.{written}
use Rattle.buffers.proofs.Written.{written_after}
use Rattle.tables.specs.Places.{node_bytes}
use Rattle.tables.proofs.put_node.Goals as goal

-- What is written right after joins what was written.
joins : (d e f : List ℕ) (to : ℕ) (x y : List ℕ) → to + length x ≤ length d → e ≡ written d to x → f ≡ written e (to + length x) y → f ≡ written d to (x ++ y)
joins d e f to x y room p q = q ∙ ap (λ (u : List ℕ). written u (to + length x) y) p ∙ written_after d to x y room

node-written : (d e f g o : List ℕ) (to kind a b : ℕ) → to + 6 ≤ length d
    → e ≡ written d to (kind ∷ []) → f ≡ written e (to + 1) (0 ∷ []) → g ≡ written f (to + 2) (two_bytes a) → o ≡ written g (to + 4) (two_bytes b)
    → o ≡ written d to (node_bytes kind a b)
node-written d e f g o to kind a b room p q r s =
    let two = joins d e f to (kind ∷ []) (0 ∷ []) (omega arith) p q in
    let four = joins d f g to (kind ∷ 0 ∷ []) (two_bytes a) (omega arith) two r in
    joins d g o to (kind ∷ 0 ∷ two_bytes a) (two_bytes b) (omega arith) four s

pub returns : goal.returns
returns c = let a = c.args in node-written a.out.now _ _ _ _ a.to a.kind a.a a.b c.requires.0
    c.put_byte.ensures c.put_byte-2.ensures c.put_two.ensures c.put_two-2.ensures
