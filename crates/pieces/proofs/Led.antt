-- What the bytes u lead to: the state stands for the automaton's run over u, so a part leads on and the finish says what reading means.
--     Fair                          a run that waits for a byte, with an entry for each level that is open or about to open
--     mode-in                       what waits for a byte, as numbers and back
--     led-fair, led-run             what bytes lead to is such a run, and its state stands for it
--     led-room, led-open            it has room, and is not finished
--     part-led, letters-led         a part leads on; one that is letters of a text alone
--     finish-led                    the finish says what reading means, also of a state that was finished
--     finish-small                  what it says fits two bytes a number, whatever the state
--     part-can, finish-can          of any state there is an outcome that the calls' contracts allow
-- Assumes nothing.
use mathlib.Core.Path.{◌≡◌, refl, ap, sym, ◌∙◌}
use mathlib.Core.Bool.{true, not, false≢true}
use mathlib.Core.List.{List, [], ◌∷◌, ◌++◌}
use Prim.Native.Nat.{ℕ, zero, suc, ◌+◌, ◌-◌, ◌≤◌, ◌<◌}
use native.Mathlib.Omega.{arith}
use lib.ListN.{length, get_or, length-set, drop_of_length-le}
use lib.Dec.{ltb, leb, eqb}
use borrow.Author.Tests.{lt-ltb}
use Rattle.meaning.specs.Rules.{◌⇒◌∣◌}
use Rattle.meaning.specs.Limits.{max_bytes, max_levels}
use Rattle.meaning.specs.Refusals.{cut_short}
use Rattle.meaning.specs.Within.{Bytes}
use Rattle.meaning.specs.Shape.{Shape}
use Rattle.meaning.specs.Reading.{Reading, got, bad, reading}
use Rattle.meaning.proofs.Rules.{rule}
use Rattle.payloads.specs.declared.first.Kind.{Kind}
use Rattle.payloads.specs.declared.first.Kind.TheVariants.{Array, Map, Record, Function, Symbol, Variable}
use Rattle.std.specs.Prelude.{Result}
use Rattle.reader.specs.declared.Accepted.{Accepted}
use Rattle.pieces.specs.declared.Faulty as Answer
use Rattle.reader.specs.Walk.{Out, came, stopped}
use Rattle.byte_steps.specs.declared.modes.Items.{Items}
use Rattle.byte_steps.specs.declared.modes.Items.TheVariants.{Plain, Bare, Fields, Texts}
use Rattle.byte_steps.specs.declared.modes.Level.{Level}
use Rattle.states.specs.declared.State.{State}
use Rattle.byte_steps.specs.declared.modes.Mode.{Mode}
use Rattle.byte_steps.specs.declared.modes.Mode.TheVariants.{Head, SizeLow, SizeHigh, Opening, Count, CountMore, Length, LengthMore, Letters, BlankLow, BlankHigh, Between, Done, Faulty}
use Rattle.byte_steps.specs.Automaton.{plain, item_due, shape_due, length_due, count_due, level_of, whole_of, taken, settle, opened, entered, step, fed, start, verdict, finish, Run, run}
use Rattle.turns.specs.Moves.{resting, sized}
use Rattle.states.specs.Kept.{entry_of, kinds_of, kind_number, kind_in, word_of, mode_in, mode_high, stack_of, laid_out, run_of, state_with, state_of}
use Rattle.pieces.specs.Led.{closed_of, finish_said, judged_out, led_to, LettersOnly, lettered, Small}
use Rattle.byte_steps.proofs.Fed.{read_out, fed-parts, fed-said}
use Rattle.items.proofs.Inside.{letters-on}
use Rattle.turns.proofs.Moving.{fair-taken}
use Rattle.states.proofs.Keeping.{stack_push, high-digits, level_in_lem, letters-in}

-- a run that waits for a byte, with an entry for each level that is open or about to open
pub record Fair (r : Run) : Type 0 where
  pub rests : resting r.mode ≡ true
  pub room : length r.stack + sized r.mode ≤ max_levels

-- a mode that waits, and is not of a payload that is about to open
abbrev Calm : Mode → Type 0
Calm m = (resting m ≡ true) × (sized m ≡ 0)

item-calm : (items : Items) (top : Level) (at : ℕ) → Calm (item_due items top at)
unfolding shape_due length_due
item-calm Plain top at = rule Calm (leb top.stop at) _ _ (λ _. (refl, refl)) (λ _. (refl, refl))
item-calm Bare top at = rule Calm (leb top.stop at) _ _ (λ _. (refl, refl)) (λ _. (refl, refl))
item-calm Fields top at = rule Calm (leb top.stop at) _ _ (λ _. (refl, refl)) (λ _. (refl, refl))
item-calm Texts top at = rule Calm (leb top.stop at) _ _ (λ _. (refl, refl)) (λ _. (refl, refl))

count-calm : (stop at : ℕ) → Calm (count_due stop at)
unfolding count_due
count-calm stop at = rule Calm (leb stop at) _ _ (λ _. (refl, refl)) (λ _. (refl, refl))

module _ (at whole deepest : ℕ) where
  calm-fair : (stack : List Level) (top : Level) (m : Mode) → length stack ≤ max_levels → Calm m → Fair (run stack top m at whole deepest)
  calm-fair stack top m h c = record { rests = c.0; room = omega (arith, c.1) }

  settle-fair : (stack : List Level) (top : Level) → length stack ≤ max_levels → Fair (settle stack top at whole deepest)
  unfolding settle
  settle-fair [] top h = calm-fair [] top Done h (refl, refl)
  settle-fair (l ∷ ls) top h =
      rule Fair (ltb 0 top.due) _ _ (λ _. calm-fair (l ∷ ls) _ _ h (item-calm top.items top at)) λ _.
      rule Fair (not (eqb at top.stop)) _ _ (λ _. calm-fair (l ∷ ls) top _ h (refl, refl)) λ _.
      rule Fair (plain top.items) _ _ (λ _. calm-fair (l ∷ ls) top _ h (refl, refl)) λ _.
      settle-fair ls l (omega arith)

opened-fair : (kind : Kind) (stack : List Level) (top : Level) (from stop at whole deepest : ℕ) → length stack + 1 ≤ max_levels → Fair (opened kind stack top from stop at whole deepest)
unfolding opened
opened-fair Array stack top from stop at whole deepest h = settle-fair at whole _ (top ∷ stack) (level_of Array from stop) (omega arith)
opened-fair Map stack top from stop at whole deepest h = settle-fair at whole _ (top ∷ stack) (level_of Map from stop) (omega arith)
opened-fair Record stack top from stop at whole deepest h = calm-fair at whole _ (top ∷ stack) _ _ (omega arith) (count-calm stop at)
opened-fair Function stack top from stop at whole deepest h = calm-fair at whole _ (top ∷ stack) _ _ (omega arith) (count-calm stop at)
opened-fair Symbol stack top from stop at whole deepest h = calm-fair at whole _ (top ∷ stack) _ _ (omega arith) (count-calm stop at)
opened-fair Variable stack top from stop at whole deepest h =
    rule Fair (eqb stop (at + 2)) _ _ (λ _. calm-fair at whole deepest stack top _ (omega arith) (refl, refl)) (λ _. calm-fair at whole deepest stack top _ (omega arith) (refl, refl))

entered-fair : (m : Mode) (stack : List Level) (top : Level) (at whole deepest : ℕ) → length stack + sized m ≤ max_levels → Fair (entered m stack top at whole deepest)
unfolding entered
entered-fair (Opening kind from stop) stack top at whole deepest h = opened-fair kind stack top from stop at (whole_of stack stop whole) deepest h
entered-fair Between stack top at whole deepest h = settle-fair at whole deepest stack top (omega arith)
entered-fair Head stack top at whole deepest h = record { rests = refl; room = h }
entered-fair (SizeLow kind from) stack top at whole deepest h = record { rests = refl; room = h }
entered-fair (SizeHigh kind from low) stack top at whole deepest h = record { rests = refl; room = h }
entered-fair Count stack top at whole deepest h = record { rests = refl; room = h }
entered-fair (CountMore from low) stack top at whole deepest h = record { rests = refl; room = h }
entered-fair Length stack top at whole deepest h = record { rests = refl; room = h }
entered-fair (LengthMore from low) stack top at whole deepest h = record { rests = refl; room = h }
entered-fair (Letters from left m low high) stack top at whole deepest h = record { rests = refl; room = h }
entered-fair (BlankLow from) stack top at whole deepest h = record { rests = refl; room = h }
entered-fair (BlankHigh from low) stack top at whole deepest h = record { rests = refl; room = h }
entered-fair Done stack top at whole deepest h = record { rests = refl; room = h }
entered-fair (Faulty number place) stack top at whole deepest h = record { rests = refl; room = h }

step-fair : (r : Run) (b : ℕ) → Fair r → Fair (step r b)
unfolding step
step-fair r b f =
    rule Fair (leb max_bytes r.count) _ _ (λ _. record { rests = f.rests; room = f.room }) λ _.
    entered-fair (taken r.mode r.top (length r.stack) r.deepest r.count b).mode r.stack _ _ _ _ (fair-taken r.mode r.top (length r.stack) r.deepest r.count b f.room)

pub fed-fair : (w : List ℕ) (r : Run) → Fair r → Fair (fed r w)
unfolding fed
fed-fair [] r f = f
fed-fair (b ∷ w) r f = fed-fair w (step r b) (step-fair r b f)

pub led-fair : (u : List ℕ) → Fair (fed start u)
unfolding start
led-fair u = fed-fair u start (record { rests = refl; room = omega arith })

-- A run that is fair, as numbers and back.
kind-in : (k : Kind) → kind_in (kind_number k) ≡ k
kind-in Array = refl
kind-in Map = refl
kind-in Record = refl
kind-in Function = refl
kind-in Symbol = refl
kind-in Variable = refl

pub mode-in : (m : Mode) → resting m ≡ true → mode_in (word_of m) ≡ m
unfolding mode_in mode_high word_of
mode-in Head h = refl
mode-in (SizeLow kind from) h = ap (λ k. SizeLow k from) (kind-in kind)
mode-in (SizeHigh kind from low) h = ap (λ k. SizeHigh k from low) (kind-in kind)
mode-in (Opening kind from stop) h = absurd (false≢true h)
mode-in Count h = refl
mode-in (CountMore from low) h = refl
mode-in Length h = refl
mode-in (LengthMore from low) h = refl
mode-in (Letters from left m low high) h = refl
mode-in (BlankLow from) h = refl
mode-in (BlankHigh from low) h = refl
mode-in Between h = absurd (false≢true h)
mode-in Done h = refl
mode-in (Faulty number place) h = refl

pub laid-length : (ls : List Level) → length (laid_out ls) ≡ max_levels
unfolding laid_out
laid-length [] = refl
laid-length (l ∷ ls) = length-set (laid_out ls) (length ls) (entry_of l) ∙ laid-length ls

stack-back : (ls : List Level) → length ls ≤ max_levels → stack_of (laid_out ls) (kinds_of ls) (length ls) ≡ ls
unfolding laid_out stack_of kinds_of
stack-back [] h = refl
stack-back (l ∷ ls) h =
    stack_push (laid_out ls) (entry_of l) (kinds_of (l ∷ ls)) (length ls) (rw (laid-length ls) (omega arith))
    ∙ rw (level_in_lem l (kinds_of ls), high-digits (kinds_of ls) l.items, stack-back ls (omega arith))

run-back : (r : Run) → Fair r → run_of (state_of r) ≡ r
unfolding kinds_of
run-back r f = rw (high-digits (kinds_of r.stack) r.top.items, stack-back r.stack (omega (arith, f.room)), level_in_lem r.top (kinds_of r.stack), mode-in r.mode f.rests)

-- The state that bytes lead to stands for the run over them.
pub led-run : (u : List ℕ) → run_of (led_to u) ≡ fed start u
led-run u = run-back (fed start u) (led-fair u)

-- It has an entry for each level that is open or about to open, and is not finished.
pub led-room : (u : List ℕ) (s : State) → s ≡ led_to u → s.used + sized (mode_in s.next) ≤ max_levels
led-room u s e = rw (e, mode-in (fed start u).mode (led-fair u).rests) (led-fair u).room

pub led-open : (u : List ℕ) (s : State) → s ≡ led_to u → s.closed ≡ 0
led-open u s e = ap (λ (y : State). y.closed) e

-- A part leads on.
pub part-led : (u v : List ℕ) (r : Run) → fed (fed start u) v ≡ r → state_of r ≡ led_to (u ++ v)
part-led u v r e = ap state_of (sym e ∙ fed-parts start u v)

-- One that is letters of a text alone leaves the text that much shorter.
letters-fed : (r : Run) (v : List ℕ) (size closed : ℕ) → Fair r → 0 < size → LettersOnly v (word_of r.mode) r.count closed size
    → state_with r.stack r.top (lettered (word_of r.mode) size) (r.count + size) r.whole r.deepest ≡ state_of (fed r v)
unfolding word_of fed
letters-fed r v size closed f p h =
    let w = word_of r.mode in
    ap state_of {x = run r.stack r.top (Letters w.a (w.b - size) 0 0 0) (r.count + size) r.whole r.deepest} (sym (
    ap (λ x. fed (run r.stack r.top x r.count r.whole r.deepest) v) (sym (mode-in r.mode f.rests) ∙ letters-in w h.text h.between)
    ∙ letters-on v r.stack r.top r.whole r.deepest 0 size w.a w.b w.low w.high r.count size (omega arith) (omega (arith, h.all)) (omega (arith, h.few)) h.well p h.more
    ∙ rw (drop_of_length-le v {i = 0 + size} (omega (arith, h.all)))
    ))

pub letters-led : (u v : List ℕ) (s : State) (size : ℕ) → s ≡ led_to u → 0 < size → LettersOnly v s.next s.count s.closed size
    → record { next = lettered s.next size; count = s.count + size; whole = s.whole; used = s.used; deepest = s.deepest; kinds = s.kinds; top = s.top; closed = s.closed; levels = s.levels } ≡ led_to (u ++ v)
letters-led u v s size e p h = rw e (letters-fed (fed start u) v size 0 (led-fair u) p (rw e at h) ∙ part-led u v (fed (fed start u) v) refl)

-- The finish says what reading means,
judged-same : (r : Reading Shape) → judged_out (read_out r) ≡ finish_said r
judged-same (got t w) = refl
judged-same (bad n p) = refl

byte_at : (u : List ℕ) → Bytes u → (i : ℕ) → get_or u i 0 < 256
byte_at [] b i = omega arith
byte_at (x ∷ u) b zero = b.0
byte_at (x ∷ u) b (suc i) = byte_at u b.1 i

-- also of a state that was finished: whether it was is no part of what it stands for.
pub finish-led : (u : List ℕ) (s : State) → Bytes u → closed_of s ≡ closed_of (led_to u) → judged_out (finish (run_of s)) ≡ finish_said (reading u)
finish-led u s b e = ap (λ (x : State). judged_out (finish (run_of x))) e ∙ ap (λ x. judged_out (finish x)) (led-run u) ∙ ap judged_out (fed-said u (byte_at u b)) ∙ judged-same (reading u)

-- What it says of any state whose numbers fit two bytes fits them.
module _ (s : State) (a : s.next.a < 65536) (b : s.next.b < 65536) (count : s.count < 65536) (whole : s.whole < 65536) (deepest : s.deepest < 65536) where
  abbrev SmallOut : Out ℕ → Type 0
  SmallOut o = Small (judged_out o)

  abbrev SmallIn : Mode → Type 0
  SmallIn m = SmallOut (verdict m s.count s.whole s.deepest)

  cut : SmallOut (stopped cut_short 0)
  cut = (omega arith, omega arith)

  mode_small : SmallIn (mode_in s.next)
  unfolding mode_in mode_high verdict
  mode_small =
      rule SmallIn (eqb s.next.code 0) _ _ (λ _. cut) λ _.
      rule SmallIn (eqb s.next.code 1) _ _ (λ _. cut) λ _.
      rule SmallIn (eqb s.next.code 2) _ _ (λ _. cut) λ _.
      rule SmallIn (eqb s.next.code 3) _ _ (λ _. cut) λ _.
      rule SmallIn (eqb s.next.code 4) _ _ (λ _. cut) λ _.
      rule SmallIn (eqb s.next.code 5) _ _ (λ _. cut) λ _.
      rule SmallIn (eqb s.next.code 6) _ _ (λ _. cut) λ _.
      rule SmallIn (eqb s.next.code 7) _ _ (λ _. cut) λ _.
      rule SmallIn (eqb s.next.code 8) _ _ (λ _. cut) λ _.
      rule SmallIn (eqb s.next.code 9) _ _ (λ _. cut) λ _.
      rule SmallIn (eqb s.next.code 10) _ _ (λ _. rule SmallOut (ltb s.whole s.count) _ _ (λ _. (omega arith, whole)) (λ _. (count, deepest))) λ _.
      (a, b)

  pub finish-small : Small (judged_out (finish (run_of s)))
  unfolding finish
  finish-small =
      rule SmallOut (ltb max_bytes s.count) _ _ (λ _. (omega arith, omega arith)) λ _.
      rule SmallOut (ltb s.count s.whole) _ _ (λ _. cut) λ _.
      mode_small

-- Of any state there is an outcome that the contracts allow.
pub part-can : (s : State) (v : List ℕ) → (r : State) × (0 < s.closed → r ≡ s) × ((u : List ℕ) → s ≡ led_to u → r ≡ led_to (u ++ v))
part-can s v = (
  (ltb 0 s.closed ⇒ s ∣ λ _. state_of (fed (run_of s) v)),
  (λ h. rw (lt-ltb 0 s.closed h)),
  λ u e. rw (e, led-run u) (part-led u v (fed (fed start u) v) refl),
)

pub finish-can : (s : State) → (a : Result Accepted Answer.Faulty) × ((u : List ℕ) → Bytes u → closed_of s ≡ closed_of (led_to u) → a ≡ finish_said (reading u))
finish-can s = (judged_out (finish (run_of s)), λ u. finish-led u s)
