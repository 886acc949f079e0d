-- What the three calls say of a state. NOT TO BE BELIEVED: the promises over runs (promises/proofs/Pieces.antt) hold whatever a state is.
use Rattle.std.specs.Prelude.{ℕ, ◌+◌, ◌-◌, ◌<◌, ◌≤◌, ◌≡◌, List, length, Result, Ok, Err}
use Rattle.std.proofs.Math.Seq.{slice}
use Rattle.meaning.specs.Limits.{max_bytes}
use Rattle.meaning.specs.Utf8.{well_formed}
use Rattle.meaning.specs.Shape.{Shape, depth}
use Rattle.meaning.specs.Encode.{encode}
use Rattle.meaning.specs.Reading.{Reading, got, bad}
use Rattle.reader.specs.Walk.{Out, came, stopped}
use Rattle.reader.specs.Said.{accepted}
use Rattle.reader.specs.declared.Accepted.{Accepted}
use Rattle.pieces.specs.declared.Faulty.{Faulty}
use Rattle.byte_steps.specs.Automaton.{fed, start}
use Rattle.states.specs.declared.State.{State}
use Rattle.states.specs.declared.Word.{Word}
use Rattle.states.specs.Kept.{state_of, word_with}

-- a state that was finished
abbrev pub closed_of : State → State
closed_of s = record { next = s.next; count = s.count; whole = s.whole; used = s.used; deepest = s.deepest; kinds = s.kinds; top = s.top; closed = 1; levels = s.levels }

-- the one state that the bytes u lead to, in whatever parts they came
abbrev pub led_to : List ℕ → State
led_to u = state_of (fed start u)

-- a fault by its number and place
abbrev pub faulty : ℕ → ℕ → Faulty
faulty number place = record { number = number; place = place }

-- what the automaton says at its finish, as the answer
abbrev pub judged_out : Out ℕ → Result Accepted Faulty
judged_out (came length depth) = Ok (accepted length depth)
judged_out (stopped number place) = Err (faulty number place)

-- what reading means, as the answer: a shape is accepted with its length and its depth, a fault is refused with its number and place
abbrev pub finish_said : Reading Shape → Result Accepted Faulty
finish_said (got s left) = Ok (accepted (length (encode s)) (depth s))
finish_said (bad number place) = Err (faulty number place)

-- each number of an answer fits two bytes
abbrev pub Small : Result Accepted Faulty → Type 0
Small (Ok a) = (a.length < 65536) × (a.depth < 65536)
Small (Err f) = (f.number < 65536) × (f.place < 65536)

-- a part of size bytes that is letters of one text to its end, and the text goes on
pub record LettersOnly (part : List ℕ) (next : Word) (count closed size : ℕ) : Type 0 where
  pub text : next.code ≡ 7
  pub between : next.more ≡ 0
  pub going : closed ≡ 0
  pub all : size ≡ length part
  pub more : size < next.b
  pub few : count + size ≤ max_bytes
  pub well : size ≡ well_formed (slice 0 size part)

-- a text after so many of its letters
abbrev pub lettered : Word → ℕ → Word
lettered next size = word_with 7 next.a (next.b - size) 0 0 0
