-- Laws of faults and their numbers.
--     fault-number     the fault of a fault's number is that fault
--     fault-some       a fault has a number that is not 0
--     fault-small      and is no more than the paper's last
--     number-fault     the number of a number's fault is that number, of each number that a refusal carries
-- Assumes nothing.
use Prim.Native.Nat.{ℕ, ◌≤◌, ◌<◌}
use mathlib.Core.Path.{◌≡◌, refl}
use native.Mathlib.Omega.{arith}
use lib.Dec.{eqb}
use Rattle.meaning.specs.Refusals.{cut_short, not_assigned, size_wrong, unfinished, not_utf8, long_form, too_deep, input_too_long, section_broken, node_broken, name_broken, buffer_short, sheet_broken, second_broken, made_too_deep, made_too_long, joined_too_large, no_such_part}
use Rattle.meaning.proofs.Rules.{facts, rule}
use Rattle.leaves.specs.Faults.{number_of, fault_of}
use Rattle.leaves.specs.declared.refusals.Fault.{Fault}
use Rattle.leaves.specs.declared.refusals.Fault.TheVariants.{CutShort, NotAssigned, SizeWrong, NumberWrong, NotUtf8, LongForm, TooDeep, InputTooLong, SectionBroken, NodeBroken, NameBroken, BufferShort, SheetBroken, SecondBroken, MadeTooDeep, MadeTooLong, JoinedTooLarge, NoSuchPart}

pub fault-number : (f : Fault) → fault_of (number_of f) ≡ f
fault-number CutShort = refl
fault-number NotAssigned = refl
fault-number SizeWrong = refl
fault-number NumberWrong = refl
fault-number NotUtf8 = refl
fault-number LongForm = refl
fault-number TooDeep = refl
fault-number InputTooLong = refl
fault-number SectionBroken = refl
fault-number NodeBroken = refl
fault-number NameBroken = refl
fault-number BufferShort = refl
fault-number SheetBroken = refl
fault-number SecondBroken = refl
fault-number MadeTooDeep = refl
fault-number MadeTooLong = refl
fault-number JoinedTooLarge = refl
fault-number NoSuchPart = refl

pub number-fault : (n : ℕ) → 0 < n → n ≤ no_such_part → number_of (fault_of n) ≡ n
number-fault n s l =
    rule is (eqb n cut_short) _ _ (λ p. omega (arith, facts)) λ q1.
    rule is (eqb n not_assigned) _ _ (λ p. omega (arith, facts)) λ q2.
    rule is (eqb n size_wrong) _ _ (λ p. omega (arith, facts)) λ q3.
    rule is (eqb n unfinished) _ _ (λ p. omega (arith, facts)) λ q4.
    rule is (eqb n not_utf8) _ _ (λ p. omega (arith, facts)) λ q5.
    rule is (eqb n long_form) _ _ (λ p. omega (arith, facts)) λ q6.
    rule is (eqb n too_deep) _ _ (λ p. omega (arith, facts)) λ q7.
    rule is (eqb n input_too_long) _ _ (λ p. omega (arith, facts)) λ q8.
    rule is (eqb n section_broken) _ _ (λ p. omega (arith, facts)) λ q9.
    rule is (eqb n node_broken) _ _ (λ p. omega (arith, facts)) λ q10.
    rule is (eqb n name_broken) _ _ (λ p. omega (arith, facts)) λ q11.
    rule is (eqb n buffer_short) _ _ (λ p. omega (arith, facts)) λ q12.
    rule is (eqb n sheet_broken) _ _ (λ p. omega (arith, facts)) λ q13.
    rule is (eqb n second_broken) _ _ (λ p. omega (arith, facts)) λ q14.
    rule is (eqb n made_too_deep) _ _ (λ p. omega (arith, facts)) λ q15.
    rule is (eqb n made_too_long) _ _ (λ p. omega (arith, facts)) λ q16.
    rule is (eqb n joined_too_large) _ _ (λ p. omega (arith, facts)) λ q17.
    omega (arith, facts)
  where
    is : Fault → Type 0
    is f = number_of f ≡ n

pub fault-some : (f : Fault) → 0 < number_of f
fault-some CutShort = omega arith
fault-some NotAssigned = omega arith
fault-some SizeWrong = omega arith
fault-some NumberWrong = omega arith
fault-some NotUtf8 = omega arith
fault-some LongForm = omega arith
fault-some TooDeep = omega arith
fault-some InputTooLong = omega arith
fault-some SectionBroken = omega arith
fault-some NodeBroken = omega arith
fault-some NameBroken = omega arith
fault-some BufferShort = omega arith
fault-some SheetBroken = omega arith
fault-some SecondBroken = omega arith
fault-some MadeTooDeep = omega arith
fault-some MadeTooLong = omega arith
fault-some JoinedTooLarge = omega arith
fault-some NoSuchPart = omega arith

pub fault-small : (f : Fault) → number_of f ≤ no_such_part
fault-small CutShort = omega arith
fault-small NotAssigned = omega arith
fault-small SizeWrong = omega arith
fault-small NumberWrong = omega arith
fault-small NotUtf8 = omega arith
fault-small LongForm = omega arith
fault-small TooDeep = omega arith
fault-small InputTooLong = omega arith
fault-small SectionBroken = omega arith
fault-small NodeBroken = omega arith
fault-small NameBroken = omega arith
fault-small BufferShort = omega arith
fault-small SheetBroken = omega arith
fault-small SecondBroken = omega arith
fault-small MadeTooDeep = omega arith
fault-small MadeTooLong = omega arith
fault-small JoinedTooLarge = omega arith
fault-small NoSuchPart = omega arith
