-- What the code does without a byte is what the automaton does.
--     enter-rest                       a mode that waits
--     between-moves, opening-moves     a step without a byte
--     between-light, opening-light     it is lighter, and keeps room for the payload that is about to open
--     fair-taken                       so does a byte
-- Assumes nothing.
use mathlib.Core.Path.{◌≡◌, refl, sym}
use mathlib.Core.Bool.{Bool, true, false, not, false≢true}
use mathlib.Core.List.{List, [], ◌∷◌}
use Prim.Native.Nat.{ℕ, zero, suc, ◌+◌, ◌*◌, ◌-◌, ◌%◌, ◌≤◌, ◌<◌}
use native.Mathlib.Omega.{arith}
use lib.ListN.{length}
use lib.Dec.{ltb, leb, eqb}
use borrow.Author.Tests.{leb-false, le-leb, ne_eqb, eqb-false}
use Rattle.meaning.specs.Rules.{◌⇒◌∣◌}
use Rattle.meaning.specs.Limits.{max_bytes, max_levels}
use Rattle.meaning.specs.Refusals.{size_wrong, long_form}
use Rattle.meaning.specs.FirstByte.{class_of, short_blanks}
use Rattle.meaning.proofs.Rules.{rule, both}
use Rattle.payloads.specs.First.{first_said}
use Rattle.payloads.specs.declared.first.Kind.{Kind}
use Rattle.payloads.specs.declared.first.Kind.TheVariants.{Array, Map, Record, Function, Symbol, Variable}
use Rattle.payloads.specs.declared.first.First.{First}
use Rattle.payloads.specs.declared.first.First.TheVariants as By
use Rattle.byte_steps.specs.declared.modes.Items.{Items}
use Rattle.byte_steps.specs.declared.modes.Items.TheVariants.{Plain, Bare, Fields, Texts}
use Rattle.byte_steps.specs.declared.modes.Level.{Level}
use Rattle.std.specs.Prelude.{Option, Some, None}
use Rattle.byte_steps.specs.declared.Asked.{Asked}
use Rattle.byte_steps.specs.declared.modes.Mode.{Mode}
use Rattle.byte_steps.specs.declared.modes.Mode.TheVariants.{Head, SizeLow, SizeHigh, Opening, Count, CountMore, Length, LengthMore, Letters, BlankLow, BlankHigh, Between, Done, Faulty}
use Rattle.turns.specs.declared.moves.Act.{Act}
use Rattle.turns.specs.declared.moves.Act.TheVariants.{Rest, Stay, Push, Pop}
use Rattle.turns.specs.declared.moves.Moved.{Moved}
use Rattle.byte_steps.specs.declared.Took.{Took}
use Rattle.byte_steps.specs.Automaton.{plain, taken, first_taken, size_taken, count_taken, count_more, length_taken, length_more, text_taken, text_due, text_done, blank_taken, leb_first, leb_second, settle, opened, entered, step, fed, run, Run, whole_of, shape_due, length_due, item_due, count_due, with_due}
use Rattle.turns.specs.Moves.{moved, resting, sized, between_moved, opening_moved, blank_due}
use Rattle.turns.specs.Leads.{last_of, before_last, weight}

-- a mode that waits, and is not of a payload that is about to open
abbrev Quiet : Mode → Type 0
Quiet m = (resting m ≡ true) × (sized m ≡ 0)

shape-quiet : (top : Level) (at : ℕ) → Quiet (shape_due top at)
unfolding shape_due
shape-quiet top at = rule Quiet (leb top.stop at) _ _ (λ _. (refl, refl)) (λ _. (refl, refl))

length-quiet : (top : Level) (at : ℕ) → Quiet (length_due top at)
unfolding length_due
length-quiet top at = rule Quiet (leb top.stop at) _ _ (λ _. (refl, refl)) (λ _. (refl, refl))

item-quiet : (items : Items) (top : Level) (at : ℕ) → Quiet (item_due items top at)
item-quiet Plain top at = shape-quiet top at
item-quiet Bare top at = shape-quiet top at
item-quiet Fields top at = length-quiet top at
item-quiet Texts top at = length-quiet top at

count-quiet : (stop at : ℕ) → Quiet (count_due stop at)
unfolding count_due
count-quiet stop at = rule Quiet (leb stop at) _ _ (λ _. (refl, refl)) (λ _. (refl, refl))

blank-quiet : (from stop at : ℕ) → Quiet (blank_due from stop at)
unfolding blank_due
blank-quiet from stop at = rule Quiet (eqb stop (at + 2)) _ _ (λ _. (refl, refl)) (λ _. (refl, refl))

pub enter-rest : (m : Mode) (stack : List Level) (top : Level) (at whole deepest : ℕ) → resting m ≡ true → entered m stack top at whole deepest ≡ run stack top m at whole deepest
unfolding entered
enter-rest Head stack top at whole deepest h = refl
enter-rest (SizeLow kind from) stack top at whole deepest h = refl
enter-rest (SizeHigh kind from low) stack top at whole deepest h = refl
enter-rest (Opening kind from stop) stack top at whole deepest h = absurd (false≢true h)
enter-rest Count stack top at whole deepest h = refl
enter-rest (CountMore from low) stack top at whole deepest h = refl
enter-rest Length stack top at whole deepest h = refl
enter-rest (LengthMore from low) stack top at whole deepest h = refl
enter-rest (Letters from left n low high) stack top at whole deepest h = refl
enter-rest (BlankLow from) stack top at whole deepest h = refl
enter-rest (BlankHigh from low) stack top at whole deepest h = refl
enter-rest Between stack top at whole deepest h = absurd (false≢true h)
enter-rest Done stack top at whole deepest h = refl
enter-rest (Faulty number place) stack top at whole deepest h = refl

-- what the automaton does after a step without a byte
abbrev pub go_on : Moved → List Level → Level → ℕ → Act → Run
go_on m stack top at Rest = entered m.mode stack m.top at m.whole m.deepest
go_on m stack top at Stay = entered m.mode stack m.top at m.whole m.deepest
go_on m stack top at Push = entered m.mode (top ∷ stack) m.top at m.whole m.deepest
go_on m stack top at Pop = entered m.mode (before_last stack) (last_of stack top) at m.whole m.deepest

-- a step without a byte
abbrev pub Moves : List Level → Level → ℕ → Run → Moved → Type 0
Moves stack top at r m = r ≡ go_on m stack top at m.act

pub between-moves : (stack : List Level) (top : Level) (at whole deepest : ℕ) → Moves stack top at (settle stack top at whole deepest) (between_moved top (length stack) at whole deepest)
unfolding settle between_moved entered
between-moves [] top at whole deepest = refl
between-moves (l ∷ ls) top at whole deepest =
    rw (ne_eqb (suc (length ls)) 0 (λ q. absurd (omega arith)))
    (both (Moves (l ∷ ls) top at) (ltb 0 top.due) _ _ _ _ (λ _. sym (enter-rest (item_due top.items top at) (l ∷ ls) (with_due top (top.due - 1)) at whole deepest (item-quiet top.items top at).0)) λ _.
    go (eqb at top.stop) (plain top.items))
  where
    go : (t q : Bool) → Moves (l ∷ ls) top at
        (not t ⇒ run (l ∷ ls) top (Faulty size_wrong top.at) at whole deepest ∣ λ _. q ⇒ run (l ∷ ls) top (Faulty long_form top.at) at whole deepest ∣ λ _. settle ls l at whole deepest)
        (t ⇒ (q ⇒ moved (Faulty long_form top.at) top whole deepest Stay ∣ λ _. moved Between top whole deepest Pop) ∣ λ _. moved (Faulty size_wrong top.at) top whole deepest Stay)
    go true true = refl
    go true false = refl
    go false q = refl

whole_is : (stack : List Level) (stop whole : ℕ) → whole_of stack stop whole ≡ (eqb (length stack) 0 ⇒ stop ∣ λ _. whole)
whole_is [] stop whole = refl
whole_is (l ∷ ls) stop whole = rw (ne_eqb (suc (length ls)) 0 (λ q. absurd (omega arith)))

pub opening-moves : (kind : Kind) (from stop : ℕ) (stack : List Level) (top : Level) (at whole deepest : ℕ)
    → Moves stack top at (opened kind stack top from stop at (whole_of stack stop whole) deepest) (opening_moved kind from stop top (length stack) at whole deepest)
unfolding opened opening_moved entered blank_due
opening-moves Array from stop stack top at whole deepest = rw (whole_is stack stop whole)
opening-moves Map from stop stack top at whole deepest = rw (whole_is stack stop whole)
opening-moves Record from stop stack top at whole deepest = rw (whole_is stack stop whole) (sym (enter-rest (count_due stop at) _ _ at _ _ (count-quiet stop at).0))
opening-moves Function from stop stack top at whole deepest = rw (whole_is stack stop whole) (sym (enter-rest (count_due stop at) _ _ at _ _ (count-quiet stop at).0))
opening-moves Symbol from stop stack top at whole deepest = rw (whole_is stack stop whole) (sym (enter-rest (count_due stop at) _ _ at _ _ (count-quiet stop at).0))
opening-moves Variable from stop stack top at whole deepest = rw (whole_is stack stop whole) (both (λ r m. r ≡ entered m stack top at (eqb (length stack) 0 ⇒ stop ∣ λ _. whole) deepest) (eqb stop (at + 2)) _ _ _ _ (λ _. refl) (λ _. refl))

pub weight-most : (m : Mode) (n : ℕ) → weight m n ≤ n + 3
weight-most Head n = omega arith
weight-most (SizeLow kind from) n = omega arith
weight-most (SizeHigh kind from low) n = omega arith
weight-most (Opening kind from stop) n = omega arith
weight-most Count n = omega arith
weight-most (CountMore from low) n = omega arith
weight-most Length n = omega arith
weight-most (LengthMore from low) n = omega arith
weight-most (Letters from left k low high) n = omega arith
weight-most (BlankLow from) n = omega arith
weight-most (BlankHigh from low) n = omega arith
weight-most Between n = omega arith
weight-most Done n = omega arith
weight-most (Faulty number place) n = omega arith

pub weight-rest : (m : Mode) (n : ℕ) → resting m ≡ true → weight m n ≡ 0
weight-rest Head n h = refl
weight-rest (SizeLow kind from) n h = refl
weight-rest (SizeHigh kind from low) n h = refl
weight-rest (Opening kind from stop) n h = absurd (false≢true h)
weight-rest Count n h = refl
weight-rest (CountMore from low) n h = refl
weight-rest Length n h = refl
weight-rest (LengthMore from low) n h = refl
weight-rest (Letters from left k low high) n h = refl
weight-rest (BlankLow from) n h = refl
weight-rest (BlankHigh from low) n h = refl
weight-rest Between n h = absurd (false≢true h)
weight-rest Done n h = refl
weight-rest (Faulty number place) n h = refl

-- a step without a byte is lighter, and there is a place for a level that is laid by, or one to take up
abbrev pub Light : Mode → ℕ → Mode → Act → Type 0
Light m n d Rest = ⊥
Light m n d Stay = (weight d n < weight m n) × (n + sized d ≤ max_levels)
Light m n d Push = (n < max_levels) × (weight d (n + 1) < weight m n) × (n + 1 + sized d ≤ max_levels)
Light m n d Pop = (0 < n) × (weight d (n - 1) < weight m n) × (n - 1 + sized d ≤ max_levels)

abbrev pub Lights : Mode → ℕ → Moved → Type 0
Lights m n d = Light m n d.mode d.act

quiet-stay : (m d : Mode) (n : ℕ) → Quiet d → 0 < weight m n → n ≤ max_levels → Light m n d Stay
quiet-stay m d n q h k = let w = weight-rest d n q.0 in (omega arith, omega (arith, q.1))

quiet-push : (m d : Mode) (n : ℕ) → Quiet d → 0 < weight m n → n < max_levels → Light m n d Push
quiet-push m d n q h k = let w = weight-rest d (n + 1) q.0 in (k, omega arith, omega (arith, q.1))

pub between-light : (top : Level) (n at whole deepest : ℕ) → n ≤ max_levels → Lights Between n (between_moved top n at whole deepest)
unfolding between_moved
between-light top n at whole deepest h =
    rule (Lights Between n) (eqb n 0) _ _ (λ _. (omega arith, omega arith)) λ p.
    rule (Lights Between n) (ltb 0 top.due) _ _ (λ _. quiet-stay Between (item_due top.items top at) n (item-quiet top.items top at) (omega arith) h) λ _.
    rule (Lights Between n) (eqb at top.stop) _ _ (λ _. rule (Lights Between n) (plain top.items) _ _ (λ _. (omega arith, omega arith)) λ _. let z : 0 < n = pos n p in (z, omega arith, omega arith)) λ _.
    (omega arith, omega arith)
  where
    pos : (n : ℕ) → eqb n 0 ≡ false → 0 < n
    pos zero p = absurd (eqb-false 0 0 p refl)
    pos (suc n) p = omega arith

pub opening-light : (kind : Kind) (from stop : ℕ) (top : Level) (n at whole deepest : ℕ) → n + 1 ≤ max_levels → Lights (Opening kind from stop) n (opening_moved kind from stop top n at whole deepest)
unfolding opening_moved
opening-light Array from stop top n at whole deepest h = (omega arith, omega arith, omega arith)
opening-light Map from stop top n at whole deepest h = (omega arith, omega arith, omega arith)
opening-light Record from stop top n at whole deepest h = quiet-push (Opening Record from stop) (count_due stop at) n (count-quiet stop at) (omega arith) (omega arith)
opening-light Function from stop top n at whole deepest h = quiet-push (Opening Function from stop) (count_due stop at) n (count-quiet stop at) (omega arith) (omega arith)
opening-light Symbol from stop top n at whole deepest h = quiet-push (Opening Symbol from stop) (count_due stop at) n (count-quiet stop at) (omega arith) (omega arith)
opening-light Variable from stop top n at whole deepest h = quiet-stay (Opening Variable from stop) (blank_due from stop at) n (blank-quiet from stop at) (omega arith) (omega arith)

-- a byte keeps room for a payload that is about to open
pub record Ok (n : ℕ) (m : Mode) : Type 0 where
  pub room : n + sized m ≤ max_levels

calm : (n : ℕ) {m : Mode} → n ≤ max_levels → sized m ≡ 0 → Ok n m
calm n h z = record { room = omega arith }

quiet_ok : (n : ℕ) (m : Mode) → n ≤ max_levels → Quiet m → Ok n m
quiet_ok n m h q = record { room = omega (arith, q.1) }

pub done_ok : (n : ℕ) (items : Items) (top : Level) (at : ℕ) → n ≤ max_levels → Ok n (text_done items top at)
done_ok n Plain top at h = quiet_ok n (shape_due top at) h (shape-quiet top at)
done_ok n Bare top at h = quiet_ok n (shape_due top at) h (shape-quiet top at)
done_ok n Fields top at h = quiet_ok n (shape_due top at) h (shape-quiet top at)
done_ok n Texts top at h = calm n h refl

due-ok : (n : ℕ) (top : Level) (at from size : ℕ) → n ≤ max_levels → Ok n (text_due top at from size)
unfolding text_due
due-ok n top at from size h =
    rule (Ok n) (ltb top.stop (from + size)) _ _ (λ _. calm n h refl) λ _.
    rule (Ok n) (eqb size 0) _ _ (λ _. done_ok n top.items top from h) λ _. calm n h refl

leb-ok : (n : ℕ) (top : Level) (at b : ℕ) (over going : Mode) → n ≤ max_levels → Ok n over → Ok n going → Ok n (leb_first top at b over going)
unfolding leb_first
leb-ok n top at b over going h o g = rule (Ok n) (ltb b 128) _ _ (λ _. o) λ _. rule (Ok n) (leb top.stop (at + 1)) _ _ (λ _. calm n h refl) λ _. g

second-ok : (n at c : ℕ) (over : Mode) → n ≤ max_levels → Ok n over → Ok n (leb_second at c over)
unfolding leb_second
second-ok n at c over h o = rule (Ok n) (leb 128 c) _ _ (λ _. calm n h refl) λ _. rule (Ok n) (eqb c 0) _ _ (λ _. calm n h refl) λ _. o

first-ok : (top : Level) (n deepest at b : ℕ) (f : First) → n ≤ max_levels → Ok n (first_taken top n deepest at b f).mode
unfolding first_taken
first-ok top n deepest at b By.Unassigned h = calm n h refl
first-ok top n deepest at b (By.Short levels) h = rule (λ (t : Took). Ok n t.mode) (ltb max_levels (n + levels)) _ _ (λ _. calm n h refl) (λ _. calm n h refl)
first-ok top n deepest at b (By.Long kind) h =
    rule (λ (t : Took). Ok n t.mode) (leb max_levels n) _ _ (λ _. calm n h refl) λ p.
    rule (λ (t : Took). Ok n t.mode) (ltb top.stop (at + 3)) _ _ (λ _. calm n h refl) λ _. record { room = omega (arith, leb-false max_levels n p) }

letter-ok : (top : Level) (n from left next : ℕ) (c : Option Asked) → n ≤ max_levels → Ok n (text_taken top from left next c)
unfolding text_taken
letter-ok top n from left next None h = calm n h refl
letter-ok top n from left next (Some c) h = rule (Ok n) (leb left 1) _ _ (λ _. rule (Ok n) (eqb c.more 0) _ _ (λ _. done_ok n top.items top next h) (λ _. calm n h refl)) (λ _. calm n h refl)

taken-ok : (m : Mode) (top : Level) (n deepest at b : ℕ) → n + sized m ≤ max_levels → Ok n (taken m top n deepest at b).mode
unfolding taken size_taken count_taken count_more length_taken length_more blank_taken
taken-ok Head top n deepest at b h₀ = let h : n ≤ max_levels = omega arith in first-ok top n deepest at b (first_said (class_of b)) h
taken-ok (SizeLow kind from) top n deepest at b h = record { room = h }
taken-ok (SizeHigh kind from low) top n deepest at b h = rule (Ok n) (ltb top.stop (at + 1 + (low + 256 * b))) _ _ (λ _. record { room = omega arith }) (λ _. record { room = h })
taken-ok (Opening kind from stop) top n deepest at b h = record { room = h }
taken-ok Count top n deepest at b h₀ = let h : n ≤ max_levels = omega arith in leb-ok n top at b Between (CountMore at b) h (calm n h refl) (calm n h refl)
taken-ok (CountMore from low) top n deepest at b h₀ = let h : n ≤ max_levels = omega arith in second-ok n from b Between h (calm n h refl)
taken-ok Length top n deepest at b h₀ = let h : n ≤ max_levels = omega arith in leb-ok n top at b (text_due top at (at + 1) b) (LengthMore at b) h (due-ok n top at (at + 1) b h) (calm n h refl)
taken-ok (LengthMore from low) top n deepest at b h₀ = let h : n ≤ max_levels = omega arith in second-ok n from b (text_due top from (at + 1) (low % 128 + 128 * b)) h (due-ok n top from (at + 1) (low % 128 + 128 * b) h)
taken-ok (Letters from left k low high) top n deepest at b h₀ = let h : n ≤ max_levels = omega arith in letter-ok top n from left (at + 1) _ h
taken-ok (BlankLow from) top n deepest at b h₀ = let h : n ≤ max_levels = omega arith in calm n h refl
taken-ok (BlankHigh from low) top n deepest at b h₀ = let h : n ≤ max_levels = omega arith in rule (Ok n) (eqb b 0) _ _ (λ _. rule (Ok n) (ltb low short_blanks) _ _ (λ _. calm n h refl) (λ _. calm n h refl)) (λ _. calm n h refl)
taken-ok Between top n deepest at b h₀ = let h : n ≤ max_levels = omega arith in calm n h refl
taken-ok Done top n deepest at b h₀ = let h : n ≤ max_levels = omega arith in calm n h refl
taken-ok (Faulty number place) top n deepest at b h₀ = let h : n ≤ max_levels = omega arith in calm n h refl

pub fair-taken : (m : Mode) (top : Level) (n deepest at b : ℕ) → n + sized m ≤ max_levels → n + sized (taken m top n deepest at b).mode ≤ max_levels
fair-taken m top n deepest at b h = (taken-ok m top n deepest at b h).room

-- an input that is too long stays so
pub fed-over : (r : Run) (b : ℕ) (w : List ℕ) → max_bytes ≤ r.count → fed r (b ∷ w) ≡ run r.stack r.top r.mode (max_bytes + 1) r.whole r.deepest
unfolding fed step
fed-over r b [] h = rw (le-leb max_bytes r.count h)
fed-over r b (c ∷ w) h = rw (le-leb max_bytes r.count h) (fed-over (run r.stack r.top r.mode (max_bytes + 1) r.whole r.deepest) c w (omega arith))
