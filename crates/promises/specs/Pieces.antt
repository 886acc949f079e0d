-- What the promises on the reader that is fed with parts are said in (W-203), by what its three calls did: a start gave a state, a part took a state to
-- a state, the finish of a state gave an end, whatever a state is. To be believed.
use Rattle.std.specs.Prelude.{ℕ, List, [], ◌∷◌, ◌++◌}
use Rattle.states.specs.declared.State.{State}
use Rattle.board.specs.declared.PiecesEnd.{PiecesEnd}

-- its state "is at most 512 bytes"
abbrev pub max_state_bytes : ℕ
max_state_bytes = 512

-- "the parts joined"
abbrev pub joined : List (List ℕ) → List ℕ
joined [] = []
joined (part ∷ parts) = part ++ joined parts

-- the parts, the first one first, take a state to another
pub data Fed (Part : State → List ℕ → State → Type 0) : State → List (List ℕ) → State → Type 0 where
  none : {s : State} → Fed Part s [] s
  one : {s t r : State} {part : List ℕ} {parts : List (List ℕ)} → Part s part t → Fed Part t parts r → Fed Part s (part ∷ parts) r

-- "states that its start and its parts lead to"
pub record Reached (Start : State → Type 0) (Part : State → List ℕ → State → Type 0) (parts : List (List ℕ)) (s : State) : Type 0 where
  pub first : State
  pub begun : Start first
  pub fed : Fed Part first parts s

-- parts and finishes, as many as may be and in any order, take a state to another
pub data AnyCalls (Part : State → List ℕ → State → Type 0) (Finish : State → PiecesEnd → Type 0) : State → State → Type 0 where
  no_more : {s : State} → AnyCalls Part Finish s s
  a_part : {s t r : State} {part : List ℕ} → Part s part t → AnyCalls Part Finish t r → AnyCalls Part Finish s r
  a_finish : {s r : State} {e : PiecesEnd} → Finish s e → AnyCalls Part Finish e.state r → AnyCalls Part Finish s r
