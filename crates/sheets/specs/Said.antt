-- What the answer of the sheet check says: this paper's number and values for each of its cases. To be believed.
use Rattle.std.specs.Prelude.{ℕ, length, Result, Ok, Err}
use Rattle.meaning.specs.Reading.{Reading, got, bad}
use Rattle.meaning.specs.Sheet.{Sheet, encodings}
use Rattle.leaves.specs.Faults.{refusal}
use Rattle.leaves.specs.declared.refusals.Refusal.{Refusal}
use Rattle.sheets.specs.declared.Sound.{Sound}

abbrev pub sound : ℕ → ℕ → Sound
sound entries bytes = record { entries = entries; bytes = bytes }

-- a sheet is sound with how many entries and how many bytes of encodings it has; a fault is refused with its number and place
abbrev pub checked : Reading Sheet → Result Sound Refusal
checked (got σ left) = Ok (sound (length σ) (length (encodings σ)))
checked (bad number place) = Err (refusal number place)
