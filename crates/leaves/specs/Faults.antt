-- What the code's faults say: this paper's number for each of them, and the fault for each number. To be believed.
use Rattle.std.specs.Prelude.{ℕ, eqb}
use Rattle.meaning.specs.Rules.{◌⇒◌∣◌}
use Rattle.meaning.specs.Refusals.{cut_short, not_assigned, size_wrong, unfinished, not_utf8, long_form, too_deep, input_too_long, section_broken, node_broken, name_broken, buffer_short, sheet_broken, second_broken, made_too_deep, made_too_long, joined_too_large, no_such_part}
use Rattle.leaves.specs.declared.refusals.Fault.{Fault}
use Rattle.leaves.specs.declared.refusals.Fault.TheVariants.{CutShort, NotAssigned, SizeWrong, NumberWrong, NotUtf8, LongForm, TooDeep, InputTooLong, SectionBroken, NodeBroken, NameBroken, BufferShort, SheetBroken, SecondBroken, MadeTooDeep, MadeTooLong, JoinedTooLarge, NoSuchPart}
use Rattle.leaves.specs.declared.refusals.Refusal.{Refusal}

abbrev pub number_of : Fault → ℕ
number_of CutShort = cut_short
number_of NotAssigned = not_assigned
number_of SizeWrong = size_wrong
number_of NumberWrong = unfinished
number_of NotUtf8 = not_utf8
number_of LongForm = long_form
number_of TooDeep = too_deep
number_of InputTooLong = input_too_long
number_of SectionBroken = section_broken
number_of NodeBroken = node_broken
number_of NameBroken = name_broken
number_of BufferShort = buffer_short
number_of SheetBroken = sheet_broken
number_of SecondBroken = second_broken
number_of MadeTooDeep = made_too_deep
number_of MadeTooLong = made_too_long
number_of JoinedTooLarge = joined_too_large
number_of NoSuchPart = no_such_part

-- the fault of a number; that it is the one which has the number holds of each number that a refusal carries (proofs/Faults.antt)
abbrev pub fault_of : ℕ → Fault
fault_of n =
    eqb n cut_short ⇒ CutShort ∣ λ _.
    eqb n not_assigned ⇒ NotAssigned ∣ λ _.
    eqb n size_wrong ⇒ SizeWrong ∣ λ _.
    eqb n unfinished ⇒ NumberWrong ∣ λ _.
    eqb n not_utf8 ⇒ NotUtf8 ∣ λ _.
    eqb n long_form ⇒ LongForm ∣ λ _.
    eqb n too_deep ⇒ TooDeep ∣ λ _.
    eqb n input_too_long ⇒ InputTooLong ∣ λ _.
    eqb n section_broken ⇒ SectionBroken ∣ λ _.
    eqb n node_broken ⇒ NodeBroken ∣ λ _.
    eqb n name_broken ⇒ NameBroken ∣ λ _.
    eqb n buffer_short ⇒ BufferShort ∣ λ _.
    eqb n sheet_broken ⇒ SheetBroken ∣ λ _.
    eqb n second_broken ⇒ SecondBroken ∣ λ _.
    eqb n made_too_deep ⇒ MadeTooDeep ∣ λ _.
    eqb n made_too_long ⇒ MadeTooLong ∣ λ _.
    eqb n joined_too_large ⇒ JoinedTooLarge ∣ λ _.
    NoSuchPart

-- a fault at a place, and a refusal by its number and place
abbrev pub fault_at : Fault → ℕ → Refusal
fault_at fault place = record { fault = fault; place = place }

abbrev pub refusal : ℕ → ℕ → Refusal
refusal number place = fault_at (fault_of number) place
