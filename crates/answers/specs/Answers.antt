-- What a call says, in four numbers: number 0 is an answer, and a field that a call does not use is 0; otherwise number and place are the paper's,
-- and length and extra are 0. To be believed.
use Rattle.std.specs.Prelude.{ℕ, ◌<◌, Result, Ok, Err}
use Rattle.leaves.specs.Faults.{number_of}
use Rattle.leaves.specs.declared.refusals.Refusal.{Refusal}
use Rattle.reader.specs.declared.Accepted.{Accepted}
use Rattle.parts.specs.declared.FoundChild.{FoundChild}
use Rattle.parts.specs.declared.FoundChild.TheVariants.{Part, Primitive}
use Rattle.parts.specs.declared.FoundName.{FoundName}
use Rattle.sheets.specs.declared.Sound.{Sound}
use Rattle.answers.specs.declared.Answer.{Answer}

abbrev pub answered : ℕ → ℕ → ℕ → Answer
answered place length extra = record { number = 0; place = place; length = length; extra = extra }

abbrev pub refused : ℕ → ℕ → Answer
refused number place = record { number = number; place = place; length = 0; extra = 0 }

-- each number fits 32 bits
abbrev pub Fits : Answer → Type 0
Fits a = (a.number < 4294967296) × (a.place < 4294967296) × (a.length < 4294967296) × (a.extra < 4294967296)

-- the reader: length and depth
abbrev pub accepted_put : Accepted → Answer
accepted_put shape = answered 0 shape.length shape.depth

-- a child with bytes: its place and length, extra 0; a packed parent's child: the primitive's number as place, length 0, extra 1
abbrev pub child_put : FoundChild → Answer
child_put (Part place length) = answered place length 0
child_put (Primitive number) = answered number 0 1

-- a name: its text's place and length, extra 0
abbrev pub name_put : FoundName → Answer
name_put name = answered name.place name.length 0

-- a sheet: how many bytes of encodings it has, and how many entries
abbrev pub sound_put : Sound → Answer
sound_put sheet = answered 0 sheet.bytes sheet.entries

-- a call that writes: how many bytes were written
abbrev pub written_put : ℕ → Answer
written_put length = answered 0 length 0

-- what was said is put into numbers as it is; what was refused, by its number and place
abbrev pub result_put : {T E : Type 0} → (T → Answer) → (E → ℕ) → (E → ℕ) → Result T E → Answer
result_put put number place (Ok it) = put it
result_put put number place (Err r) = refused (number r) (place r)

-- a refusal has its number and place
abbrev pub said_put : {T : Type 0} → (T → Answer) → Result T Refusal → Answer
said_put put = result_put put (λ r. number_of r.fault) (λ r. r.place)
