-- What the answer of a call that writes into a lent buffer says: this paper's number and values for each of its cases. To be believed.
use Rattle.std.specs.Prelude.{ℕ, length, Result, Ok, Err}
use Rattle.meaning.specs.Answers.{Answer, answered, refused}
use Rattle.leaves.specs.Faults.{refusal}
use Rattle.leaves.specs.declared.refusals.Refusal.{Refusal}

-- an answer is its bytes, written, and says how many they are; a refusal has its number and place
abbrev pub made_said : Answer → Result ℕ Refusal
made_said (answered w) = Ok (length w)
made_said (refused number place) = Err (refusal number place)
