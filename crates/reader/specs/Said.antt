-- What an answer of the reader says: this paper's number and values for each of its cases. To be believed.
use Rattle.std.specs.Prelude.{ℕ, length, Result, Ok, Err}
use Rattle.meaning.specs.Shape.{Shape, depth}
use Rattle.meaning.specs.Encode.{encode}
use Rattle.meaning.specs.Reading.{Reading, got, bad}
use Rattle.leaves.specs.Faults.{refusal}
use Rattle.leaves.specs.declared.refusals.Refusal.{Refusal}
use Rattle.reader.specs.declared.Accepted.{Accepted}

abbrev pub accepted : ℕ → ℕ → Accepted
accepted length depth = record { length = length; depth = depth }

-- a shape is accepted with its length and its depth; a fault is refused with its number and place
abbrev pub said : Reading Shape → Result Accepted Refusal
said (got s left) = Ok (accepted (length (encode s)) (depth s))
said (bad number place) = Err (refusal number place)
