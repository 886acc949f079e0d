-- W-203, over the exported calls: "a reader fed with parts of whatever length, also of none, which answers at the finish only, and then exactly as the
-- whole reader does for the parts joined: same number, same place, same length and depth. .. A part given after the finish changes nothing and the
-- finish repeats its answer. Only states that its start and its parts lead to are meant". A state is whatever a run gave: nothing here says what it
-- holds. (That no call asks anything stands where the calls are: board/proofs/Asks.antt.)
--     board-pieces-start-runs, board-pieces-part-runs, board-pieces-finish-runs
--                               there is a run, whatever the state and the part, and four numbers that fit 32 bits each
--     board-pieces-reach        every list of parts leads to a state
--     board-pieces-whole        the finish says what `shiulbart_read` says of the parts joined
--     board-pieces-read         so what is promised of a run of `shiulbart_read` holds of what the finish says
--     board-pieces-tells, board-pieces-numbers, board-pieces-exact
--                               when it refuses, with which numbers, and what it accepts
--     board-pieces-empty        an empty part changes nothing
--     board-pieces-cut          the same bytes lead to the same state, however they are cut
--     board-pieces-start-once, board-pieces-part-once, board-pieces-finish-once
--                               one outcome, by the bytes that led to the state
--     board-pieces-closed       a part changes nothing of a state that is marked as finished
--     board-pieces-still        after the finish, parts and finishes, as many as may be, change nothing
--     board-pieces-again        and the finish repeats its answer
--     board-pieces-size         a state has 512 bytes at most
-- Assumes nothing.
use Prim.Native.Nat.{ℕ, ◌≤◌, ◌<◌}
use mathlib.Core.Path.{◌≡◌, refl, sym, ◌∙◌, ap, ap₂, subst}
use mathlib.Core.List.{List, [], ◌∷◌, ◌++◌, append-nil, append_assoc, Memᴰ as OneOf}
use mathlib.Core.Logic.{◌↔◌}
use native.Mathlib.Omega.{arith}
use contract.Lifetimes.{Lfts}
use denote.Signature.{type_at}
use mir.Syntax.{Ty}
use prog.Memory.{size}
use lib.ListN.{length}
use lib.Dec.{ltb}
use borrow.Author.Tests.{lt-ltb, ltb-true}
use Rattle.meaning.specs.Rules.{◌⇒◌∣◌}
use Rattle.meaning.specs.Shape.{Shape, depth}
use Rattle.meaning.specs.Within.{Bytes}
use Rattle.meaning.specs.Reading.{bad, reading}
use Rattle.meaning.proofs.Rules.{rule}
use Rattle.meaning.proofs.Window.{bytes-append}
use Rattle.std.specs.Prelude.{Result}
use Rattle.reader.specs.declared.Accepted.{Accepted}
use Rattle.pieces.specs.declared.Faulty.{Faulty}
use Rattle.states.specs.declared.State.{State}
use Rattle.pieces.specs.Led.{closed_of, led_to}
use Rattle.pieces.proofs.Led.{part-can, finish-can}
use Rattle.answers.specs.declared.Answer.{Answer}
use Rattle.answers.specs.Answers.{answered, Fits}
use Rattle.board.specs.declared.PiecesEnd.{PiecesEnd}
use Rattle.answers.specs.Calls.{read_answer}
use Rattle.answers.proofs.Small.{exported}
use Rattle.board.proofs.Small.{finish_put, finish-put}
use Rattle.board.specs.contracts.shiulbart_pieces_start as start
use Rattle.promises.specs.Order.{read_numbers}
use Rattle.promises.specs.Told.{IsShape, Tells}
use Rattle.promises.specs.Pieces.{max_state_bytes, joined, Fed, none, one, Reached, AnyCalls, no_more, a_part, a_finish}
use Rattle.promises.proofs.Calls.{BoardRead, BoardPiecesStart, BoardPiecesPart, BoardPiecesFinish}
use Rattle.promises.proofs.Demand1.{given-fits, lent_slice, some1, board-read-runs, board-read-once, board-read-tells, board-read-numbers}
use Rattle.promises.proofs.Demand2.{board-read-exact}

-- a start and the parts led to a state
abbrev pub After : (parts : List (List ℕ)) → State → Type 0
After = Reached BoardPiecesStart BoardPiecesPart

-- parts and finishes led from a state to another
abbrev pub Later : State → State → Type 0
Later = AnyCalls BoardPiecesPart BoardPiecesFinish

abbrev end : State → Answer → PiecesEnd
end s a = record { state = s; answer = a }

-- What the runs of a part and of the finish say of the state that they were given.
part-led : {s t : State} {part : List ℕ} → BoardPiecesPart s part t → (u : List ℕ) → s ≡ led_to u → t ≡ led_to (u ++ part)
part-led c u e = c.allowed.1 u (c.given ∙ e) ∙ rw c.lent

finish-state : {s : State} {e : PiecesEnd} → BoardPiecesFinish s e → e.state ≡ closed_of s
finish-state c = c.allowed.0 ∙ ap closed_of c.given

finish-said : {s : State} {e : PiecesEnd} → BoardPiecesFinish s e → (u : List ℕ) → Bytes u → closed_of s ≡ closed_of (led_to u) → e.answer ≡ read_answer (reading u)
finish-said c u b h = c.allowed.1 u b (ap closed_of c.given ∙ h)

-- The parts lead to the one state of the parts joined,
fed-led : {s t : State} {parts : List (List ℕ)} → Fed BoardPiecesPart s parts t → (u : List ℕ) → s ≡ led_to u → t ≡ led_to (u ++ joined parts)
fed-led none u e = e ∙ ap led_to (sym (append-nil u))
fed-led (one {part = part} {parts = parts} c f) u e = fed-led f (u ++ part) (part-led c u e) ∙ ap led_to (append_assoc u part (joined parts))

led-is : {s : State} {parts : List (List ℕ)} → After parts s → s ≡ led_to (joined parts)
led-is l = fed-led l.fed [] l.begun.allowed

-- which are bytes.
fed-bytes : {s t : State} {parts : List (List ℕ)} → Fed BoardPiecesPart s parts t → Bytes (joined parts)
fed-bytes none = tt
fed-bytes (one {part = part} {parts = parts} c f) = bytes-append part (joined parts) c.small (fed-bytes f)

-- What the finish says, a run of `shiulbart_read` says of the parts joined.
pub board-pieces-read : {parts : List (List ℕ)} {s : State} {e : PiecesEnd} → After parts s → BoardPiecesFinish s e → BoardRead (joined parts) e.answer
board-pieces-read {parts} l c =
    let b = fed-bytes l.fed in let run = board-read-runs (joined parts) b in
    subst (BoardRead (joined parts)) (run.1.allowed ∙ rw run.1.lent (sym (finish-said c (joined parts) b (ap closed_of (led-is l))))) run.1

-- The whole sentence: after a start and the parts, the finish says what `shiulbart_read` says of the parts joined.
pub board-pieces-whole : {parts : List (List ℕ)} {s : State} {e : PiecesEnd} {r : Answer} → After parts s → BoardPiecesFinish s e → BoardRead (joined parts) r → e.answer ≡ r
board-pieces-whole l c = board-read-once (board-pieces-read l c)

module _ {parts : List (List ℕ)} {s : State} {e : PiecesEnd} (l : After parts s) (c : BoardPiecesFinish s e) where
  -- It refuses with a number at a place exactly when reading the parts joined does,
  pub board-pieces-tells : Tells e.answer (λ n p. reading (joined parts) ≡ bad n p)
  board-pieces-tells = board-read-tells (board-pieces-read l c)

  -- with one of the reader's numbers,
  pub board-pieces-numbers : 0 < e.answer.number → OneOf e.answer.number read_numbers
  board-pieces-numbers = board-read-numbers (board-pieces-read l c)

  -- and accepts exactly the encodings of the shapes within the limits, with their length and depth.
  pub board-pieces-exact : (n d : ℕ) → (e.answer ≡ answered 0 n d) ↔ ((t : Shape) × IsShape (joined parts) t × (n ≡ length (joined parts)) × (d ≡ depth t))
  board-pieces-exact = board-read-exact (board-pieces-read l c)

-- An empty part changes nothing.
pub board-pieces-empty : {s t : State} {parts : List (List ℕ)} → After parts s → BoardPiecesPart s [] t → t ≡ s
board-pieces-empty {parts = parts} l c = part-led c (joined parts) (led-is l) ∙ ap led_to (append-nil (joined parts)) ∙ sym (led-is l)

module _ {s t : State} {parts parts' : List (List ℕ)} (l : After parts s) (k : After parts' t) (same : joined parts ≡ joined parts') where
  -- The same bytes lead to the same state, however they are cut.
  pub board-pieces-cut : s ≡ t
  board-pieces-cut = led-is l ∙ ap led_to same ∙ sym (led-is k)

  -- One outcome, by the bytes that led to the state: of one more part,
  pub board-pieces-part-once : {part : List ℕ} {r r' : State} → BoardPiecesPart s part r → BoardPiecesPart t part r' → r ≡ r'
  board-pieces-part-once {part} c d = part-led c (joined parts) (led-is l) ∙ ap (λ (u : List ℕ). led_to (u ++ part)) same ∙ sym (part-led d (joined parts') (led-is k))

  -- of the finish,
  pub board-pieces-finish-once : {e e' : PiecesEnd} → BoardPiecesFinish s e → BoardPiecesFinish t e' → e ≡ e'
  board-pieces-finish-once c d =
      ap₂ end (finish-state c ∙ ap closed_of board-pieces-cut ∙ sym (finish-state d)) (board-pieces-whole l c (rw same (board-pieces-read k d)))

-- and of the start.
pub board-pieces-start-once : {s t : State} → BoardPiecesStart s → BoardPiecesStart t → s ≡ t
board-pieces-start-once c d = c.allowed ∙ sym d.allowed

-- A part changes nothing of a state that is marked as finished, whatever led to it.
pub board-pieces-closed : {s t : State} {part : List ℕ} → BoardPiecesPart s part t → 0 < s.closed → t ≡ s
board-pieces-closed c h = rw c.given at c.allowed.0 h

finish-closed : {s : State} {e : PiecesEnd} → BoardPiecesFinish s e → e.state ≡ closed_of e.state
finish-closed c = finish-state c ∙ ap closed_of (sym (finish-state c))

-- After the finish of any state, parts and finishes, as many as may be, change nothing.
closed-still : {s t : State} → Later s t → s ≡ closed_of s → t ≡ s
closed-still no_more h = refl
closed-still (a_part c f) h = let z = ap (λ (x : State). x.closed) h in let e = board-pieces-closed c (omega arith) in rw e at (closed-still f) h
closed-still (a_finish c f) h = closed-still f (finish-closed c) ∙ finish-state c ∙ sym h

pub board-pieces-still : {s t : State} {e : PiecesEnd} → BoardPiecesFinish s e → Later e.state t → t ≡ e.state
board-pieces-still c f = closed-still f (finish-closed c)

-- And the finish repeats its state and its answer.
pub board-pieces-again : {s t : State} {parts : List (List ℕ)} {e e' : PiecesEnd} → After parts s → BoardPiecesFinish s e → Later e.state t → BoardPiecesFinish t e' → e' ≡ e
board-pieces-again {s} {t} {parts} l c f d =
    let b = fed-bytes l.fed in let q = board-pieces-still c f in let led : closed_of s ≡ closed_of (led_to (joined parts)) = ap closed_of (led-is l) in
    ap₂ end
    (finish-state d ∙ ap closed_of q ∙ sym (finish-closed c))
    (finish-said d (joined parts) b (ap closed_of (q ∙ finish-state c) ∙ led) ∙ sym (finish-said c (joined parts) b led))

-- There is a run, whatever the state and the part.
pub board-pieces-start-runs : (s : State) × BoardPiecesStart s
board-pieces-start-runs = (_, record { κs = tt; a = tt; s = tt; allowed = refl })

pub board-pieces-part-runs : (s : State) (part : List ℕ) → Bytes part → (t : State) × BoardPiecesPart s part t
board-pieces-part-runs s part b = let r = part-can s part in (r.0, record { κs = some1; a = (s, (lent_slice part, tt)); s = (s, (lent_slice part, tt)); allowed = (r.1, r.2); given = refl; lent = refl; small = b })

-- Four numbers that fit, the same where they fit already.
abbrev fitted : ℕ → ℕ
fitted n = ltb n 4294967296 ⇒ n ∣ λ _. 0

fitted-fits : (n : ℕ) → fitted n < 4294967296
fitted-fits n = rule (λ m. m < 4294967296) (ltb n 4294967296) _ _ (λ p. ltb-true _ _ p) (λ _. omega arith)

abbrev all_fitted : Answer → Answer
all_fitted a = record { number = fitted a.number; place = fitted a.place; length = fitted a.length; extra = fitted a.extra }

all-fitted : (a : Answer) → Fits a → all_fitted a ≡ a
all-fitted a f = rw (lt-ltb a.number 4294967296 f.0, lt-ltb a.place 4294967296 f.1, lt-ltb a.length 4294967296 f.2, lt-ltb a.extra 4294967296 f.3)

pub board-pieces-finish-runs : (s : State) → (e : PiecesEnd) × BoardPiecesFinish s e × Fits e.answer
board-pieces-finish-runs s = (
  end (closed_of s) (all_fitted a),
  record { κs = tt; a = (s, tt); s = (s, tt); allowed = (refl, λ u b h. ap (λ (m : Result Accepted Faulty). all_fitted (finish_put m)) ((finish-can s).1 u b h) ∙ ap all_fitted (finish-put (reading u)) ∙ all-fitted _ (given-fits (exported u b))); given = refl },
  (fitted-fits a.number, fitted-fits a.place, fitted-fits a.length, fitted-fits a.extra),
)
  where
    a : Answer
    a = finish_put (finish-can s).0

-- Every list of parts leads to a state.
bytes-split : (s t : List ℕ) → Bytes (s ++ t) → Bytes s × Bytes t
bytes-split [] t b = (tt, b)
bytes-split (x ∷ s) t b = let h = bytes-split s t b.1 in ((b.0, h.0), h.1)

led_on : (parts : List (List ℕ)) → Bytes (joined parts) → (s : State) → (t : State) × Fed BoardPiecesPart s parts t
led_on [] b s = (s, none)
led_on (part ∷ parts) b s =
    let h = bytes-split part (joined parts) b in let c = board-pieces-part-runs s part h.0 in let f = led_on parts h.1 c.0 in
    (f.0, one c.1 f.1)

pub board-pieces-reach : (parts : List (List ℕ)) → Bytes (joined parts) → (s : State) × After parts s
board-pieces-reach parts b = let c = board-pieces-start-runs in let f = led_on parts b c.0 in (f.0, record { first = c.0; begun = c.1; fed = f.1 })

-- A state has 512 bytes at most: what `shiulbart_pieces_start` gives is one value, of a type of so many bytes.
pub board-pieces-size : (κs : Lfts 0) → (τ : Ty) × ((type_at (start.signature).result κs).mir ≡ τ ∷ []) × (size τ ≤ max_state_bytes)
board-pieces-size κs = (_, refl, omega arith)
