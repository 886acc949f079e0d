-- What a first byte says: the reader's words for it, and what a Fold makes of a shape of one byte.
-- Assumes nothing.
use mathlib.Core.Path.{◌≡◌, refl, sym, ap}
use mathlib.Core.Bool.{true, false}
use Prim.Native.Nat.{ℕ, ◌+◌, ◌*◌, ◌-◌, ◌/◌, ◌%◌, ◌≤◌}
use native.Mathlib.Omega.{arith}
use lib.Dec.{eqb, ltb}
use borrow.Author.Tests.{eqb-true, ltb-true, ltb-false}
use Rattle.meaning.specs.Shape.{Tree, shape, prim, blank, array_of, map_of}
use Rattle.meaning.specs.FirstByte.{code, prim_of, Kind, array, map, rec, function, symbol, variable, Class, whole, packed, long, unassigned, class_of}
use Rattle.meaning.specs.Encode.{as_prim}
use Rattle.meaning.specs.Reading.{some?}
use Rattle.meaning.proofs.Rules.{facts, rule}
use Rattle.meaning.proofs.Sound.{code-prim}
use Rattle.payloads.specs.declared.first.First.{First}
use Rattle.payloads.specs.declared.first.First.TheVariants.{Unassigned, Short, Long}
use Rattle.payloads.specs.First.{kind_said, first_said}
use Rattle.payloads.specs.Payload.{primitive}
use Rattle.reader.specs.Walk.{Fold}
use Rattle.reader.proofs.Folding.{array_by, map_by, fold}

-- a byte, what the reader says of it and its class: what is made of a shape of one byte, and whether the byte is a primitive
pub data ToldFirst {X A : Type 0} (F : Fold X A) (b : ℕ) : First → Class → Type 0 where
  none : ToldFirst F b Unassigned unassigned
  one : (t : Tree shape) → F.short b 1 ≡ fold F t → some? (as_prim t) ≡ primitive b → ToldFirst F b (Short 1) (whole t)
  two : (t : Tree shape) → F.short b 2 ≡ fold F t → some? (as_prim t) ≡ false → primitive b ≡ false → ToldFirst F b (Short 2) (packed t)
  more : (k : Kind) → primitive b ≡ false → ToldFirst F b (Long (kind_said k)) (long k)

pub first-told : {X A : Type 0} (F : Fold X A) (b : ℕ) → ToldFirst F b (first_said (class_of b)) (class_of b)
unfolding class_of as_prim fold array_by map_by
first-told F b =
    rule T (ltb b 32) _ _ (λ p. one (blank b) (rw p) (rw p)) λ p1.
    rule T (ltb b 37) _ _ (λ p.
    let z : 32 + code (prim_of (b - 32)) ≡ b = omega (arith, code-prim (b - 32) (omega (arith, facts)), ltb-false b 32 p1) in
    one (prim (prim_of (b - 32))) (ap (λ n. F.short n 1) (sym z)) (rw (p1, p))) λ p2.
    rule T (eqb b 64) _ _ (λ p. more array (kind 64 p refl)) λ _.
    rule T (eqb b 65) _ _ (λ p. more map (kind 65 p refl)) λ _.
    rule T (eqb b 66) _ _ (λ p. more rec (kind 66 p refl)) λ _.
    rule T (eqb b 67) _ _ (λ p. more function (kind 67 p refl)) λ _.
    rule T (eqb b 68) _ _ (λ p. more symbol (kind 68 p refl)) λ _.
    rule T (eqb b 69) _ _ (λ p. more variable (kind 69 p refl)) λ _.
    rule T (ltb b 96) _ _ (λ p. none) λ pa.
    rule T (ltb b 101) _ _ (λ p.
    let z : 96 + code (prim_of (b - 96)) ≡ b = omega (arith, code-prim (b - 96) (omega (arith, ltb-true b 101 p)), ltb-false b 96 pa) in
    two (array_of (prim (prim_of (b - 96)))) (ap (λ n. F.short n 2) (sym z)) refl (rw (p1, p2))) λ pb.
    rule T (ltb b 126) _ _ (λ p.
    let lo : 101 ≤ b = ltb-false b 101 pb in
    let z : 101 + 5 * code (prim_of ((b - 101) / 5)) + code (prim_of ((b - 101) % 5)) ≡ b = omega (arith, code-prim ((b - 101) / 5) (omega (arith, ltb-true b 126 p)), code-prim ((b - 101) % 5) (omega arith)) in
    two (map_of (prim (prim_of ((b - 101) / 5))) (prim (prim_of ((b - 101) % 5)))) (ap (λ n. F.short n 2) (sym z)) refl (rw (p1, p2))) λ _.
    none
  where
    T : Class → Type 0
    T c = ToldFirst F b (first_said c) c

    kind : (n : ℕ) → eqb b n ≡ true → primitive n ≡ false → primitive b ≡ false
    kind n p h = rw (eqb-true b n p) h
