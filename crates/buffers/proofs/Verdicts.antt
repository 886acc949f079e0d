-- A verdict is what the shape comes to whose length and depth it was given.
--     comes     the length and the depth are each the shape's own, or over their limit as the shape's is
-- Assumes nothing.
use Prim.Native.Nat.{ℕ, ◌+◌, ◌<◌, ◌≤◌, min}
use mathlib.Core.Path.{◌≡◌, refl}
use native.Mathlib.Omega.{arith}
use lib.Dec.{ltb}
use lib.ListN.{length}
use borrow.Author.Tests.{ltb-true, ltb-false}
use Rattle.meaning.specs.Limits.{max_bytes, max_levels}
use Rattle.meaning.specs.Shape.{Shape, depth}
use Rattle.meaning.specs.Encode.{encode}
use Rattle.meaning.specs.Answers.{answered, refused, in_room, made}
use Rattle.meaning.proofs.Rules.{rule, tests}
use Rattle.std.specs.Prelude.{Result, Ok, Err}
use Rattle.leaves.specs.Faults.{number_of}
use Rattle.leaves.specs.declared.refusals.Refusal.{Refusal}
use Rattle.buffers.specs.Verdicts.{verdict_of}

-- what is answered of a shape, by the verdict; one that is written fits
abbrev pub Comes : Shape → ℕ → Result ℕ Refusal → Type 0
Comes s room (Ok n) = (made 0 s (in_room room (encode s)) ≡ answered (encode s)) × (n ≡ length (encode s)) × (n ≤ room) × (n ≤ max_bytes)
Comes s room (Err r) = made 0 s (in_room room (encode s)) ≡ refused (number_of r.fault) r.place

pub comes : (s : Shape) (l d room : ℕ) → min l (max_bytes + 1) ≡ min (length (encode s)) (max_bytes + 1) → min d (max_levels + 1) ≡ min (depth s) (max_levels + 1)
    → {r : Result ℕ Refusal} → r ≡ verdict_of l d room → Comes s room r
unfolding verdict_of made in_room
comes s l d room b v e =
    rw e
    (rule (Comes s room) (ltb max_levels d) _ _ (λ e. let h : max_levels < depth s = omega (arith, ltb-true max_levels d e) in search tests) λ e.
    let h : depth s ≤ max_levels = omega (arith, ltb-false max_levels d e) in
    rule (Comes s room) (ltb max_bytes l) _ _ (λ f. let k : max_bytes < length (encode s) = omega (arith, ltb-true max_bytes l f) in search tests) λ f.
    let k : length (encode s) ≤ max_bytes = omega (arith, ltb-false max_bytes l f) in let m : l ≡ length (encode s) = omega (arith, ltb-false max_bytes l f) in
    rw m
    (rule (Comes s room) (ltb room (length (encode s))) _ _ (λ g. let t = ltb-true room (length (encode s)) g in search tests) λ g.
    let t = ltb-false room (length (encode s)) g in (search tests, refl, t, k)))
