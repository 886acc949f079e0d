-- The turns of the loop over a part's bytes.
--     stay-leads        bytes are taken, and the levels laid by stay
--     byte-leads        one byte
--     wait-leads        no byte can be taken
--     skip-leads        nothing is read any more
--     between-leads, opening-leads     a step without a byte
--     items-leads       items that lie whole in the part
--     shape-leads       a shape that does
--     letters-go, letters-end     well-formed characters of a text
-- Assumes nothing.
use mathlib.Core.Path.{◌≡◌, refl, ap, sym, ◌∙◌}
use mathlib.Core.Bool.{Bool, true, false, false≢true}
use mathlib.Core.List.{List, [], ◌∷◌}
use Prim.Native.Nat.{ℕ, zero, suc, ◌+◌, ◌-◌, ◌≤◌, ◌<◌}
use native.Mathlib.Omega.{arith}
use native.Mathlib.Numerals.{add-one}
use lib.ListN.{length, get_or, drop, drop_of_length-le, length-drop}
use lib.Seq.{drop-cons, slice}
use lib.Dec.{ltb, leb, eqb}
use borrow.Author.Tests.{lt-leb, lt-ltb, le-ltb, ltb-true, ltb-false, leb-true, leb-false}
use Rattle.meaning.specs.Limits.{max_bytes, max_levels}
use Rattle.meaning.specs.Utf8.{char_size, chars_size, well_formed}
use Rattle.meaning.proofs.Rules.{rule}
use Rattle.meaning.proofs.Utf8.{char-le}
use Rattle.meaning.proofs.Window.{window-length}
use Rattle.payloads.specs.declared.first.Kind.{Kind}
use Rattle.byte_steps.specs.declared.modes.Items.{Items}
use Rattle.byte_steps.specs.declared.modes.Items.TheVariants.{Plain, Bare, Fields, Texts}
use Rattle.byte_steps.specs.declared.modes.Level.{Level}
use Rattle.byte_steps.specs.declared.modes.Mode.{Mode}
use Rattle.byte_steps.specs.declared.modes.Mode.TheVariants.{Head, SizeLow, SizeHigh, Opening, Count, CountMore, Length, LengthMore, Letters, BlankLow, BlankHigh, Between, Done, Faulty}
use Rattle.byte_steps.specs.declared.Took.{Took}
use Rattle.turns.specs.declared.moves.Act.{Act}
use Rattle.turns.specs.declared.moves.Act.TheVariants.{Rest, Stay, Push, Pop}
use Rattle.turns.specs.declared.moves.Moved.{Moved}
use Rattle.std.specs.Prelude.{Ok}
use Rattle.items.specs.declared.Item.{Item}
use Rattle.items.specs.declared.Run as Taken
use Rattle.byte_steps.specs.Automaton.{bare, named, taken, entered, step, fed, run, after_child, with_due, text_done, settle}
use Rattle.turns.specs.Moves.{resting, sized, between_moved, opening_moved}
use Rattle.items.specs.Fed.{item_mode, WindowEnd, ShapeFed, RunFed}
use Rattle.turns.specs.Leads.{idle, counted_to, turned, stayed, rested, waited, onward, Lighter, Leads}
use Rattle.items.proofs.Inside.{letters-on, letters-out}
use Rattle.turns.proofs.Moving.{enter-rest, Moves, Lights, Light, between-moves, opening-moves, between-light, opening-light, weight-most, go_on, fair-taken, fed-over, done_ok}

step-few : (stack : List Level) (top : Level) (m : Mode) (count whole deepest b : ℕ) (t : Took) → count < max_bytes → t ≡ taken m top (length stack) deepest count b
    → step (run stack top m count whole deepest) b ≡ entered t.mode stack t.top (count + 1) whole t.deepest
unfolding step
step-few stack top m count whole deepest b t k e = rw (lt-leb max_bytes count k, e)

-- a mode in which nothing is read any more waits for a byte
idle-rests : (m : Mode) → idle m ≡ true → (resting m ≡ true) × (sized m ≡ 0)
idle-rests Head h = absurd (false≢true h)
idle-rests (SizeLow kind from) h = absurd (false≢true h)
idle-rests (SizeHigh kind from low) h = absurd (false≢true h)
idle-rests (Opening kind from stop) h = absurd (false≢true h)
idle-rests Count h = absurd (false≢true h)
idle-rests (CountMore from low) h = absurd (false≢true h)
idle-rests Length h = absurd (false≢true h)
idle-rests (LengthMore from low) h = absurd (false≢true h)
idle-rests (Letters from left n low high) h = absurd (false≢true h)
idle-rests (BlankLow from) h = absurd (false≢true h)
idle-rests (BlankHigh from low) h = absurd (false≢true h)
idle-rests Between h = absurd (false≢true h)
idle-rests Done h = (refl, refl)
idle-rests (Faulty number place) h = (refl, refl)

idle-taken : (m : Mode) (top : Level) (n deepest at b : ℕ) → idle m ≡ true → taken m top n deepest at b ≡ record { mode = m; top = top; deepest = deepest }
unfolding taken
idle-taken Head top n deepest at b h = absurd (false≢true h)
idle-taken (SizeLow kind from) top n deepest at b h = absurd (false≢true h)
idle-taken (SizeHigh kind from low) top n deepest at b h = absurd (false≢true h)
idle-taken (Opening kind from stop) top n deepest at b h = absurd (false≢true h)
idle-taken Count top n deepest at b h = absurd (false≢true h)
idle-taken (CountMore from low) top n deepest at b h = absurd (false≢true h)
idle-taken Length top n deepest at b h = absurd (false≢true h)
idle-taken (LengthMore from low) top n deepest at b h = absurd (false≢true h)
idle-taken (Letters from left k low high) top n deepest at b h = absurd (false≢true h)
idle-taken (BlankLow from) top n deepest at b h = absurd (false≢true h)
idle-taken (BlankHigh from low) top n deepest at b h = absurd (false≢true h)
idle-taken Between top n deepest at b h = absurd (false≢true h)
idle-taken Done top n deepest at b h = refl
idle-taken (Faulty number place) top n deepest at b h = refl

-- bytes that are counted only
counts : (w : List ℕ) (stack : List Level) (m : Mode) (top : Level) (count whole deepest : ℕ) → idle m ≡ true → fed (run stack top m count whole deepest) w ≡ run stack top m (counted_to count (length w)) whole deepest
unfolding fed
counts [] stack m top count whole deepest h = let z : count ≡ count + 0 = omega arith in rw (le-ltb (max_bytes - count) 0 (omega arith)) (ap (λ x. run stack top m x whole deepest) z)
counts (b ∷ w) stack m top count whole deepest h = go (leb max_bytes count) refl (λ x. counts w stack m top x whole deepest h)
  where
    more : (x : Bool) → ltb (max_bytes - (count + 1)) (length w) ≡ x → count < max_bytes → counted_to (count + 1) (length w) ≡ counted_to count (suc (length w))
    more true p k = rw (p, lt-ltb (max_bytes - count) (suc (length w)) (omega (arith, ltb-true (max_bytes - (count + 1)) (length w) p)))
    more false p k = rw (p, le-ltb (max_bytes - count) (suc (length w)) (omega (arith, ltb-false (max_bytes - (count + 1)) (length w) p))) (omega arith)

    go : (t : Bool) → leb max_bytes count ≡ t → ((x : ℕ) → fed (run stack top m x whole deepest) w ≡ run stack top m (counted_to x (length w)) whole deepest)
        → fed (step (run stack top m count whole deepest) b) w ≡ run stack top m (counted_to count (suc (length w))) whole deepest
    go true p rest =
        let k = leb-true max_bytes count p in
        fed-over (run stack top m count whole deepest) b w k ∙ rw (lt-ltb (max_bytes - count) (suc (length w)) (omega arith))
    go false p rest =
        let k = leb-false max_bytes count p in
        rw (step-few stack top m count whole deepest b (record { mode = m; top = top; deepest = deepest }) k (sym (idle-taken m top (length stack) deepest count b h)), enter-rest m stack top (count + 1) whole deepest (idle-rests m h).0)
        (rest (count + 1) ∙ ap (λ x. run stack top m x whole deepest) (more _ refl k))

module _ {s : List ℕ} {i : ℕ} {m : Mode} {top : Level} {n count whole deepest : ℕ} where
  pub stay-leads : {fault : ℕ} (m' : Mode) (top' : Level) (count' deepest' j : ℕ) → resting m ≡ true → i < j → j ≤ length s → n + sized m' ≤ max_levels
      → ((stack : List Level) → length stack ≡ n → fed (run stack top m count whole deepest) (drop i s) ≡ fed (entered m' stack top' count' whole deepest') (drop j s))
      → Leads s i m top n count whole deepest (stayed m' top' count' whole deepest' j fault)
  stay-leads m' top' count' deepest' j r h k f e = record {
    same = λ stack l. rw (enter-rest m stack top count whole deepest r) (e stack l);
    within = k;
    lighter = (omega (arith, weight-most m' n), f);
  }

  pub byte-leads : {fault : ℕ} → resting m ≡ true → i < length s → count < max_bytes → n + sized m ≤ max_levels
      → let t = taken m top n deepest count (get_or s i 0) in Leads s i m top n count whole deepest (stayed t.mode t.top (count + 1) whole t.deepest (i + 1) fault)
  unfolding fed
  byte-leads r h k f =
      let t = taken m top n deepest count (get_or s i 0) in
      stay-leads t.mode t.top (count + 1) t.deepest (i + 1) r (omega arith) (omega arith) (fair-taken m top n deepest count (get_or s i 0) f)
      λ stack l. rw (drop-cons s i 0 h, add-one i)
      (ap (λ q. fed q (drop (suc i) s)) (step-few stack top m count whole deepest (get_or s i 0) t k (ap (λ q. taken m top q deepest count (get_or s i 0)) (sym l))))

  at-end : resting m ≡ true → length s ≤ i → i ≤ length s → n + sized m ≤ max_levels → Leads s i m top n count whole deepest (rested m top count whole deepest i)
  at-end r h k f = record { same = λ stack l. refl; within = k; lighter = (r, h, f) }

  too_many : resting m ≡ true → i < length s → max_bytes ≤ count → n + sized m ≤ max_levels → Leads s i m top n count whole deepest (rested m top (max_bytes + 1) whole deepest (length s))
  unfolding fed
  too_many r h k f = record {
    same = λ stack l. rw (enter-rest m stack top count whole deepest r, enter-rest m stack top (max_bytes + 1) whole deepest r, drop_of_length-le s {i = length s} (omega arith), drop-cons s i 0 h)
        (fed-over (run stack top m count whole deepest) (get_or s i 0) (drop (suc i) s) k);
    within = omega arith;
    lighter = (r, omega arith, f);
  }

  pub wait-leads : resting m ≡ true → i ≤ length s → (i < length s → max_bytes ≤ count) → n + sized m ≤ max_levels → Leads s i m top n count whole deepest (waited (length s) m top count whole deepest i)
  wait-leads r k o f =
      rule (Leads s i m top n count whole deepest) (leb (length s) i) _ _ (λ e. at-end r (leb-true (length s) i e) k f) λ e.
      let h = leb-false (length s) i e in too_many r h (o h) f

  pub skip-leads : idle m ≡ true → i ≤ length s → n ≤ max_levels → Leads s i m top n count whole deepest (rested m top (counted_to count (length s - i)) whole deepest (length s))
  unfolding fed
  skip-leads d h k = let q = idle-rests m d in record {
    same = λ stack l. rw (enter-rest m stack top count whole deepest q.0, enter-rest m stack top (counted_to count (length s - i)) whole deepest q.0, drop_of_length-le s {i = length s} (omega arith))
        (counts (drop i s) stack m top count whole deepest d ∙ rw (length-drop i s));
    within = omega arith;
    lighter = (q.0, omega arith, omega (arith, q.1));
  }

  move-leads : {fault : ℕ} (d : Moved) → ((stack : List Level) → length stack ≡ n → Moves stack top count (entered m stack top count whole deepest) d) → Lights m n d → i ≤ length s
      → Leads s i m top n count whole deepest (turned d.mode d.top count d.whole d.deepest i fault d.act)
  move-leads {fault = fault} d f l h = record {
    same = λ stack z. ap (λ q. fed q (drop i s)) (f stack z ∙ on stack d.act);
    within = h;
    lighter = light d.act l;
  }
    where
      on : (stack : List Level) (a : Act) → go_on d stack top count a ≡ onward (turned d.mode d.top count d.whole d.deepest i fault d.act) stack top a
      on stack Rest = refl
      on stack Stay = refl
      on stack Push = refl
      on stack Pop = refl

      light : (a : Act) → Light m n d.mode a → Lighter s i m n (turned d.mode d.top count d.whole d.deepest i fault d.act) a
      light Rest l = absurd l
      light Stay l = (omega (arith, l.0), l.1)
      light Push l = (l.0, omega (arith, l.1), l.2)
      light Pop l = (l.0, omega (arith, l.1), l.2)

module _ {s : List ℕ} {i : ℕ} {top : Level} {n count whole deepest fault : ℕ} (d : Moved) (h : i ≤ length s) where
  pub between-leads : n ≤ max_levels → d ≡ between_moved top n count whole deepest → Leads s i Between top n count whole deepest (turned d.mode d.top count d.whole d.deepest i fault d.act)
  unfolding entered
  between-leads f e = move-leads d (λ stack l. rw (e, sym l) (between-moves stack top count whole deepest)) (rw e (between-light top n count whole deepest f)) h

  pub opening-leads : (kind : Kind) (from stop : ℕ) → n + 1 ≤ max_levels → d ≡ opening_moved kind from stop top n count whole deepest
      → Leads s i (Opening kind from stop) top n count whole deepest (turned d.mode d.top count d.whole d.deepest i fault d.act)
  unfolding entered
  opening-leads kind from stop f e = move-leads d (λ stack l. rw (e, sym l) (opening-moves kind from stop stack top count whole deepest)) (rw e (opening-light kind from stop top n count whole deepest f)) h

-- bytes that lie whole in the part, at a level that is not the input's own
at_level : (n : ℕ) (P : List Level → Type 0) → 0 < n → ((l : Level) (ls : List Level) → length (l ∷ ls) ≡ n → P (l ∷ ls)) → (stack : List Level) → length stack ≡ n → P stack
at_level n P h f [] e = absurd (omega arith)
at_level n P h f (l ∷ ls) e = f l ls e

module _ {s : List ℕ} {i : ℕ} {top : Level} {n count whole deepest end fault : ℕ} (window : WindowEnd (length s) i top.stop count end) (some : 0 < n) where
  pub shape-leads : (item : Item) → n ≤ max_levels → ShapeFed s end i n deepest (Ok item) → Leads s i Head top n count whole deepest (stayed Between (after_child top (get_or s i 0)) (count + (item.next - i)) whole item.deepest item.next fault)
  unfolding entered
  shape-leads item k h =
      stay-leads Between (after_child top (get_or s i 0)) (count + (item.next - i)) item.deepest item.next refl h.0 (omega (arith, h.1, window.within)) (omega arith)
      (at_level n (λ stack. fed (run stack top Head count whole deepest) (drop i s) ≡ fed (settle stack (after_child top (get_or s i 0)) (count + (item.next - i)) whole item.deepest) (drop item.next s)) some
      λ l ls e. h.2 l ls top count whole e (window.inside (omega (arith, h.0, h.1))) window.few)

  pub items-leads : (m : Mode) (r : Taken.Run) → m ≡ item_mode top.items → resting m ≡ true → n + sized m ≤ max_levels → RunFed top.items s end i n top.due deepest r → i < r.i
      → Leads s i m top n count whole deepest (stayed m (with_due top r.due) (count + (r.i - i)) whole r.deepest r.i fault)
  items-leads m r e q f h p =
      stay-leads m (with_due top r.due) (count + (r.i - i)) r.deepest r.i q p (omega (arith, h.inside, window.from, window.within)) f
      (at_level n (λ stack. fed (run stack top m count whole deepest) (drop i s) ≡ fed (entered m stack (with_due top r.due) (count + (r.i - i)) whole r.deepest) (drop r.i s)) some
      λ l ls z. rw (enter-rest m (l ∷ ls) (with_due top r.due) (count + (r.i - i)) whole r.deepest q, e)
      (h.same l ls top.at top.stop count whole z (window.inside (omega (arith, h.inside))) window.few))

-- the mode in which items are due, by the code's tests
pub bare-mode : (items : Items) → bare items ≡ true → Head ≡ item_mode items
bare-mode Plain h = refl
bare-mode Bare h = refl
bare-mode Fields h = absurd (false≢true h)
bare-mode Texts h = absurd (false≢true h)

pub named-mode : (items : Items) → named items ≡ true → Length ≡ item_mode items
named-mode Plain h = absurd (false≢true h)
named-mode Bare h = absurd (false≢true h)
named-mode Fields h = refl
named-mode Texts h = refl

-- what is due after a text is no payload
pub done-fair : (n : ℕ) (items : Items) (top : Level) (at : ℕ) → n ≤ max_levels → n + sized (text_done items top at) ≤ max_levels
done-fair n items top at h = (done_ok n items top at h).room

-- a text is well formed no farther than it goes
chars-le : (n : ℕ) (w : List ℕ) → chars_size n w ≤ length w
unfolding chars_size
chars-le zero w = omega arith
chars-le (suc n) w =
    rule (λ x. x ≤ length w) (eqb (char_size w) 0) _ _ (λ _. omega arith) λ _.
    let f = char-le w in let g = rw length-drop at (chars-le n (drop (char_size w) w)) in omega arith

pub well-le : (s : List ℕ) (i end : ℕ) → end ≤ length s → well_formed (slice i end s) ≤ end - i
unfolding well_formed
well-le s i end h = let l = window-length s i end h in let c = chars-le (length (slice i end s)) (slice i end s) in omega arith

module _ {s : List ℕ} {i : ℕ} {top : Level} {n count whole deepest from left low high end to fault : ℕ} (k : n ≤ max_levels) (b : i ≤ end) (h : end ≤ length s) (f : count + (end - i) ≤ max_bytes) (z : end ≤ i + left)
    (e : to ≡ i + well_formed (slice i end s)) (p : i < to) where
  -- well-formed characters of a text that goes on, and of one that ends with them
  pub letters-go : to - i < left → Leads s i (Letters from left 0 low high) top n count whole deepest (stayed (Letters from (left - (to - i)) 0 0 0) top (count + (to - i)) whole deepest to fault)
  unfolding entered
  letters-go q =
      let w = well-le s i end h in let j : i + (to - i) ≡ to = omega arith in
      stay-leads (Letters from (left - (to - i)) 0 0 0) top (count + (to - i)) deepest to refl p (omega arith) (omega arith)
      λ stack l. letters-on s stack top whole deepest i end from left low high count (to - i) b h f (omega arith) (omega arith) q
      ∙ ap (λ x. fed (run stack top (Letters from (left - (to - i)) 0 0 0) (count + (to - i)) whole deepest) (drop x s)) j

  pub letters-end : left ≤ to - i → Leads s i (Letters from left 0 low high) top n count whole deepest (stayed (text_done top.items top (count + (to - i))) top (count + (to - i)) whole deepest to fault)
  letters-end q =
      let w = well-le s i end h in let j : i + (to - i) ≡ to = omega arith in
      stay-leads (text_done top.items top (count + (to - i))) top (count + (to - i)) deepest to refl p (omega arith) (done-fair n top.items top (count + (to - i)) k)
      λ stack l. letters-out s stack top whole deepest i end from left low high count (to - i) b h f (omega arith) (omega arith) (omega arith)
      ∙ ap (λ x. fed (entered (text_done top.items top (count + (to - i))) stack top (count + (to - i)) whole deepest) (drop x s)) j
