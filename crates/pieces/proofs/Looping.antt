-- The loop over a part's bytes: what holds at each of its turns, and what its end leads to.
--     Held, Inv                        what holds
--     inv-start                        before the first turn
--     inv-stay, inv-push, inv-pop      after a turn, by what becomes of the levels
--     stay-less, push-less, pop-less   less is left to be done then
--     rest-led                         at the part's end
-- Assumes nothing.
use mathlib.Core.Path.{◌≡◌, refl, ap, sym, ◌∙◌, subst}
use mathlib.Core.List.{List, [], ◌∷◌, ◌++◌}
use Prim.Native.Nat.{ℕ, zero, suc, ◌+◌, ◌-◌, ◌/◌, ◌≤◌, ◌<◌}
use native.Mathlib.Omega.{arith}
use lib.ListN.{length, get_or, set, drop, drop_of_length-le, replicate}
use lib.Seq.{get_or-set_same, get_or-set_other, set-get_or, set-set}
use Rattle.meaning.specs.Limits.{max_levels}
use Rattle.byte_steps.specs.declared.modes.Level.{Level}
use Rattle.byte_steps.specs.declared.modes.Mode.{Mode}
use Rattle.states.specs.declared.Entry.{Entry}
use Rattle.states.specs.declared.State.{State}
use Rattle.turns.specs.declared.moves.Act.{Act}
use Rattle.turns.specs.declared.moves.Act.TheVariants.{Rest, Stay, Push, Pop}
use Rattle.turns.specs.declared.Turned.{Turned}
use Rattle.byte_steps.specs.Automaton.{entered, fed, start, run}
use Rattle.turns.specs.Moves.{sized}
use Rattle.turns.specs.Leads.{Leads, to_do, onward, Lighter}
use Rattle.states.specs.Kept.{entry_of, level_in, kinds_of, kinds_with, laid_out, no_entry, word_of, mode_in}
use Rattle.pieces.specs.Led.{led_to}
use Rattle.turns.proofs.Moving.{enter-rest}
use Rattle.states.proofs.Keeping.{high-digits, level_in_lem, kinds-with}
use Rattle.pieces.proofs.Led.{mode-in, led-fair, laid-length, part-led}

-- The loop over the bytes s is at i, and began with the state that the bytes u lead to: these are the levels laid by.
pub record Held (u s : List ℕ) (es : List Entry) (kinds : ℕ) (m : Mode) (top : Level) (n count whole deepest i : ℕ) : Type 0 where
  pub stack : List Level
  pub high : length stack ≡ n
  pub levels : es ≡ laid_out stack
  pub digits : kinds ≡ kinds_of stack
  pub same : fed (fed start u) s ≡ fed (entered m stack top count whole deepest) (drop i s)

-- It is at i, and began with a state that was given.
pub record Inv (s : List ℕ) (given : State) (es : List Entry) (kinds : ℕ) (m : Mode) (top : Level) (n count whole deepest i : ℕ) : Type 0 where
  pub fair : n + sized m ≤ max_levels
  pub within : i ≤ length s
  pub led : (u : List ℕ) → given ≡ led_to u → Held u s es kinds m top n count whole deepest i

held_start : (u s : List ℕ) → Held u s (led_to u).levels ((led_to u).kinds / 4) (mode_in (led_to u).next) (level_in (led_to u).top (led_to u).kinds) (led_to u).used (led_to u).count (led_to u).whole (led_to u).deepest 0
unfolding kinds_of
held_start u s =
    let r = fed start u in let f = led-fair u in
    record {
      stack = r.stack;
      high = refl;
      levels = refl;
      digits = high-digits (kinds_of r.stack) r.top.items;
      same = rw (level_in_lem r.top (kinds_of r.stack), mode-in r.mode f.rests, enter-rest r.mode r.stack r.top r.count r.whole r.deepest f.rests);
    }

pub inv-start : (s : List ℕ) (given : State) → given.used + sized (mode_in given.next) ≤ max_levels
    → Inv s given given.levels (given.kinds / 4) (mode_in given.next) (level_in given.top given.kinds) given.used given.count given.whole given.deepest 0
inv-start s given f = record {
  fair = f;
  within = omega arith;
  led = λ u e. subst (λ (g : State). Held u s g.levels (g.kinds / 4) (mode_in g.next) (level_in g.top g.kinds) g.used g.count g.whole g.deepest 0) (sym e) (held_start u s);
}

-- an entry above those in use is empty
empty-at : (m k : ℕ) → get_or (replicate m no_entry) k no_entry ≡ no_entry
empty-at zero k = refl
empty-at (suc m) zero = refl
empty-at (suc m) (suc k) = empty-at m k

tidy : (ls : List Level) (k : ℕ) → length ls ≤ k → get_or (laid_out ls) k no_entry ≡ no_entry
unfolding laid_out
tidy [] k h = empty-at max_levels k
tidy (l ∷ ls) k h = get_or-set_other (laid_out ls) (length ls) k (entry_of l) no_entry (λ q. omega arith) ∙ tidy ls k (omega arith)

-- without the level laid by last
laid-down : (l : Level) (ls : List Level) → set (laid_out (l ∷ ls)) (length ls) no_entry ≡ laid_out ls
unfolding laid_out
laid-down l ls =
    set-set (laid_out ls) (length ls) (entry_of l) no_entry
    ∙ ap (set (laid_out ls) (length ls)) (sym (tidy ls (length ls) (omega arith)))
    ∙ set-get_or (laid_out ls) (length ls) no_entry

-- and that level
laid-last : (l : Level) (ls : List Level) (z : Entry) → length ls < max_levels → get_or (laid_out (l ∷ ls)) (length ls) z ≡ entry_of l
unfolding laid_out
laid-last l ls z h = get_or-set_same (laid_out ls) (length ls) (entry_of l) z (rw (laid-length ls) h)

module _ {s : List ℕ} {given : State} {es : List Entry} {kinds : ℕ} {m : Mode} {top : Level} {n count whole deepest i : ℕ} (inv : Inv s given es kinds m top n count whole deepest i)
    {t : Turned} (lead : Leads s i m top n count whole deepest t) where
  light : (a : Act) → t.act ≡ a → Lighter s i m n t a
  light a e = subst (λ x. Lighter s i m n t x) e lead.lighter

  on : (a : Act) → t.act ≡ a → {u : List ℕ} (h : Held u s es kinds m top n count whole deepest i) → fed (fed start u) s ≡ fed (onward t h.stack top a) (drop t.i s)
  on a e h = h.same ∙ lead.same h.stack h.high ∙ ap (λ x. fed (onward t h.stack top x) (drop t.i s)) e

  pub stay-less : t.act ≡ Stay → to_do s t.i t.mode n < to_do s i m n
  stay-less e = (light Stay e).0

  pub inv-stay : t.act ≡ Stay → Inv s given es kinds t.mode t.top n t.count t.whole t.deepest t.i
  inv-stay e = record {
    fair = (light Stay e).1;
    within = lead.within;
    led = λ u g. let h = inv.led u g in record { stack = h.stack; high = h.high; levels = h.levels; digits = h.digits; same = on Stay e h };
  }

  pub push-room : t.act ≡ Push → n < max_levels
  push-room e = (light Push e).0

  pub push-less : t.act ≡ Push → to_do s t.i t.mode (n + 1) < to_do s i m n
  push-less e = (light Push e).1

  push-held : t.act ≡ Push → {u : List ℕ} → Held u s es kinds m top n count whole deepest i → Held u s (set es n (entry_of top)) (kinds_with kinds top) t.mode t.top (n + 1) t.count t.whole t.deepest t.i
  unfolding laid_out
  push-held e h =
      let l = push-room e in
      record {
        stack = top ∷ h.stack;
        high = omega (arith, h.high);
        levels = rw (h.levels, ← h.high);
        digits = rw h.digits (kinds-with h.stack top (omega (arith, h.high)));
        same = on Push e h;
      }

  pub inv-push : t.act ≡ Push → Inv s given (set es n (entry_of top)) (kinds_with kinds top) t.mode t.top (n + 1) t.count t.whole t.deepest t.i
  inv-push e = record {
    fair = (light Push e).2;
    within = lead.within;
    led = λ u g. push-held e (inv.led u g);
  }

  pub pop-some : t.act ≡ Pop → 0 < n
  pop-some e = (light Pop e).0

  pub pop-less : t.act ≡ Pop → to_do s t.i t.mode (n - 1) < to_do s i m n
  pop-less e = (light Pop e).1

  pop-held : t.act ≡ Pop → (z : Entry) {u : List ℕ} (ls : List Level) → length ls ≡ n → es ≡ laid_out ls → kinds ≡ kinds_of ls → fed (fed start u) s ≡ fed (onward t ls top Pop) (drop t.i s)
      → Held u s (set es (n - 1) no_entry) (kinds / 4) t.mode (level_in (get_or es (n - 1) z) kinds) (n - 1) t.count t.whole t.deepest t.i
  unfolding kinds_of
  pop-held e z [] high levels digits same = absurd (omega (arith, pop-some e))
  pop-held e z (l ∷ ls) high levels digits same =
      let f = inv.fair in let k : n - 1 ≡ length ls = omega arith in
      record {
        stack = ls;
        high = sym k;
        levels = rw (levels, k) (laid-down l ls);
        digits = rw digits (high-digits (kinds_of ls) l.items);
        same = rw (levels, k, laid-last l ls z (omega arith), digits, level_in_lem l (kinds_of ls)) same;
      }

  pub inv-pop : t.act ≡ Pop → (z : Entry) → Inv s given (set es (n - 1) no_entry) (kinds / 4) t.mode (level_in (get_or es (n - 1) z) kinds) (n - 1) t.count t.whole t.deepest t.i
  inv-pop e z = record {
    fair = (light Pop e).2;
    within = lead.within;
    led = λ u g. let h = inv.led u g in pop-held e z h.stack h.high h.levels h.digits (on Pop e h);
  }

  -- At the part's end: if the loop began with the state that the bytes u lead to, this is the state that u and the part lead to.
  pub rest-led : t.act ≡ Rest → (u : List ℕ) → given ≡ led_to u
      → record { next = word_of t.mode; count = t.count; whole = t.whole; used = n; deepest = t.deepest; kinds = kinds_with kinds t.top; top = entry_of t.top; closed = 0; levels = es } ≡ led_to (u ++ s)
  unfolding fed
  rest-led e u g =
      let h = inv.led u g in let l = light Rest e in let f = inv.fair in
      rw (h.levels, h.digits, ← h.high, kinds-with h.stack t.top (omega (arith, h.high)))
      (part-led u s (run h.stack t.top t.mode t.count t.whole t.deepest)
      (on Rest e h ∙ rw (drop_of_length-le s {i = t.i} l.1) (enter-rest t.mode h.stack t.top t.count t.whole t.deepest l.0)))
