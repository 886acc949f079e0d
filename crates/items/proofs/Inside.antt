-- What lies whole in a part's bytes s may be taken at once: the bytes fed one by one lead to the same state. Places in s go by at, i, end; count is how
-- many bytes came before, and a level's stop goes by that.
--     letters-on, letters-out     well-formed characters of a text
--     text-fed                    a text with its length
--     shape-fed                   a shape of an open payload
-- Assumes nothing.
use mathlib.Core.Path.{◌≡◌, refl, ap, sym, ◌∙◌}
use mathlib.Core.Bool.{Bool, true, false, false≢true, ◌&&◌}
use mathlib.Core.List.{List, ◌∷◌}
use Prim.Native.Nat.{ℕ, zero, suc, ◌+◌, ◌-◌, ◌≤◌, ◌<◌, max}
use native.Mathlib.Omega.{arith}
use native.Mathlib.Numerals.{add-one, sub-one}
use lib.ListN.{length, get_or, drop}
use lib.Seq.{slice, drop-cons}
use lib.Dec.{eqb}
use borrow.Author.Tests.{lt-leb, lt-ltb, le-ltb, eq-eqb, ne_eqb, eqb-true}
use Rattle.meaning.specs.Rules.{◌⇒◌∣◌}
use Rattle.meaning.specs.Limits.{max_bytes, max_levels}
use Rattle.meaning.specs.Utf8.{well_formed, goes_on, char_size, utf8}
use Rattle.meaning.proofs.Rules.{facts, rule, both}
use Rattle.meaning.proofs.Utf8.{char-le}
use Rattle.meaning.proofs.Window.{window-some, window-length}
use Rattle.leaves.specs.Leb.{leb_of, leb_at}
use Rattle.std.specs.Prelude.{Ok}
use Rattle.meaning.specs.FirstByte.{class_of}
use Rattle.payloads.specs.First.{first_said}
use Rattle.payloads.specs.Payload.{text_of, opening_of, text_at, named, shaped, label_at, primitive, primitive_at, small_at, short_form_of, size_at, list_of, counted_at}
use Rattle.payloads.specs.declared.first.Kind.{Kind}
use Rattle.payloads.specs.declared.first.Kind.TheVariants.{Array, Map, Record, Function, Symbol, Variable}
use Rattle.payloads.specs.declared.first.First.TheVariants.{Short, Long}
use Rattle.reader.specs.Walk.{came, walk_items, walk_shape, depths}
use Rattle.byte_steps.specs.declared.modes.Items.{Items}
use Rattle.byte_steps.specs.declared.modes.Items.TheVariants.{Plain, Bare, Fields, Texts}
use Rattle.byte_steps.specs.declared.modes.Level.{Level}
use Rattle.byte_steps.specs.declared.modes.Mode.{Mode}
use Rattle.byte_steps.specs.declared.modes.Mode.TheVariants as Now
use Rattle.byte_steps.specs.declared.Took.{Took}
use Rattle.byte_steps.specs.Automaton.{taken, asks, char_taken, text_taken, text_due, leb_first, leb_second, length_taken, length_more, count_taken, count_more, more, plain, unplain, level, with_due, item_due, shape_due, length_due, count_due, opened, first_taken, size_taken, blank_taken, no_primitive, after_child, text_done, settle, entered, step, fed, run, Run}
use Rattle.items.proofs.Taking.{opening-same, first-tidy, bound, bound-none, char-more, first-is, onward, well-first, Wide, single, double, leb-bytes, leb-spans, Worded, text-worded, went, read, long-bare, Met, byte, payload, shape-met, shape-spans, text-spans, list_counted}
use Rattle.byte_steps.proofs.Meant.{kind_of, prims}
use Rattle.byte_steps.proofs.Ends.{prims-none}

-- a text of which so many bytes are left, between two characters
unfoldable ahead : Level → ℕ → ℕ → ℕ → Mode
ahead top from next left = eqb left 0 ⇒ text_done top.items top next ∣ λ _. Now.Letters from left 0 0 0

-- After a character's last byte a text stands so.
over-char : (top : Level) (from next left : ℕ) → text_taken top from (left + 1) next (asks 0 0 0) ≡ ahead top from next left
unfolding text_taken ahead
over-char top from next zero = refl
over-char top from next (suc left) =
    let z : suc left + 1 - 1 ≡ suc left = omega arith in
    rw (lt-leb (suc left + 1) 1 (omega arith), ne_eqb (suc left) 0 (λ q. absurd (omega arith)), z)

module _ (s : List ℕ) (stack : List Level) (top : Level) (whole deepest : ℕ) where
  -- A byte that is fed is taken, and those after it are fed to what it led to.
  byte-fed : (m : Mode) (i count : ℕ) (t : Took) → i < length s → count < max_bytes → taken m top (length stack) deepest count (get_or s i 0) ≡ t
      → fed (run stack top m count whole deepest) (drop i s) ≡ fed (entered t.mode stack t.top (count + 1) whole t.deepest) (drop (i + 1) s)
  unfolding fed step
  byte-fed m i count t h k e = rw (drop-cons s i 0 h, add-one i) (ap (λ r. fed r (drop (suc i) s)) (rw (lt-leb max_bytes count k, e)))

  -- The bytes of a character after its first are taken: l bytes of the text are left then.
  tail-fed : (end from m low high left i count l j c : ℕ) → end ≤ length s → count + (end - i) ≤ max_bytes → goes_on m low high (slice i end s) ≡ true → (m ≡ 0 → (low ≡ 0) × (high ≡ 0))
      → m + l + 1 ≡ left → i + m ≡ j → count + m ≡ c
      → fed (entered (text_taken top from left count (asks m low high)) stack top count whole deepest) (drop i s) ≡ fed (entered (ahead top from c l) stack top c whole deepest) (drop j s)
  unfolding entered text_taken taken char_taken
  tail-fed end from zero low high left i count l j c k n h t x y z =
      let q = t refl in let u : left ≡ l + 1 = omega arith in let v : j ≡ i = omega arith in let w : c ≡ count = omega arith in
      rw (q.0, q.1, u, v, w) (ap (λ m. fed (entered m stack top count whole deepest) (drop i s)) (over-char top from count l))
  tail-fed end from (suc m) low high left i count l j c k n h t x y z =
      let o = onward s end k m low high i h in
      rw (lt-leb left 1 (omega arith))
      (byte-fed (Now.Letters from (left - 1) (suc m) low high) i count _ (omega (arith, o.inside)) (omega (arith, o.inside)) refl
      ∙ rw (char-more m low high (get_or s i 0) o.lower o.upper)
      (tail-fed end from m (bound m 128) (bound m 191) (left - 1) (i + 1) (count + 1) l j c k (omega (arith, o.inside)) o.rest (bound-none m) (omega arith) (omega arith) (omega arith)))

  -- A character is taken, whatever bounds are left from before it.
  char-fed : (end from left low high i count m l j c : ℕ) → end ≤ length s → count + (end - i) ≤ max_bytes → char_size (slice i end s) ≡ m → 0 < m → m + l ≡ left → i + m ≡ j → count + m ≡ c
      → fed (run stack top (Now.Letters from left 0 low high) count whole deepest) (drop i s) ≡ fed (entered (ahead top from c l) stack top c whole deepest) (drop j s)
  unfolding taken char_taken
  char-fed end from left low high i count m l j c k n h p x y z =
      let q = rw (window-length s i end k) at (char-le (slice i end s)) in
      let b : i < end = omega arith in
      let g : char_size (get_or s i 0 ∷ slice (i + 1) end s) ≡ m = rw (window-some s i end b k) at h in
      let f = first-is (get_or s i 0) (slice (i + 1) end s) (omega arith) in
      byte-fed (Now.Letters from left 0 low high) i count _ (omega arith) (omega arith) refl
      ∙ rw f.says
      (tail-fed end from f.m f.low f.high left (i + 1) (count + 1) l j c k (omega arith) f.on (rw f.says at (first-tidy (get_or s i 0))) (omega (arith, f.size)) (omega (arith, f.size)) (omega (arith, f.size)))

  -- a text of which left bytes are left at i comes to one of which l bytes are left at j
  abbrev On : ℕ → ℕ → ℕ → ℕ → ℕ → ℕ → ℕ → Type 0
  On from left i count l j c = fed (entered (ahead top from count left) stack top count whole deepest) (drop i s) ≡ fed (entered (ahead top from c l) stack top c whole deepest) (drop j s)

  -- A text comes there if it does from the place after its next character on, wherever that is.
  char-on : (end from left i count m l j c : ℕ) → end ≤ length s → count + (end - i) ≤ max_bytes → well_formed (slice i end s) ≡ m → m + l ≡ left → i + m ≡ j → count + m ≡ c
      → ((left i' count m : ℕ) → i < i' → i' ≤ end → count + (end - i') ≤ max_bytes → well_formed (slice i' end s) ≡ m → m + l ≡ left → i' + m ≡ j → count + m ≡ c → On from left i' count l j c)
      → On from left i count l j c
  unfolding ahead entered
  char-on end from left i count zero l j c k f h x y z go =
      let u : l ≡ left = omega arith in let v : j ≡ i = omega arith in let w : c ≡ count = omega arith in
      rw (u, v, w)
  char-on end from left i count (suc m) l j c k f h x y z go =
      let w = well-first s end k i (omega arith) in
      rw (ne_eqb left 0 (λ q. absurd (omega arith)))
      (char-fed end from left 0 0 i count w.size (left - w.size) (i + w.size) (count + w.size) k f w.is w.pos (omega (arith, w.on)) refl refl
      ∙ go (left - w.size) (i + w.size) (count + w.size) (suc m - w.size) (omega (arith, w.pos)) w.fits (omega (arith, w.fits)) (omega (arith, w.on)) (omega (arith, w.on)) (omega (arith, w.on)) (omega (arith, w.on)))

  -- A text comes to the end of its well-formed bytes, of which there are at most n.
  letters-fed : (n end from left i count m l j c : ℕ) → end ≤ length s → end ≤ i + n → count + (end - i) ≤ max_bytes → well_formed (slice i end s) ≡ m → m + l ≡ left → i + m ≡ j → count + m ≡ c
      → On from left i count l j c
  letters-fed zero end from left i count m l j c k b f h x y z = char-on end from left i count m l j c k f h x y z (λ left i' count m p q f h x y z. absurd (omega arith))
  letters-fed (suc n) end from left i count m l j c k b f h x y z =
      char-on end from left i count m l j c k f h x y z (λ left i' count m p q f h x y z. letters-fed n end from left i' count m l j c k (omega arith) f h x y z)

  -- So it does whatever bounds are left from before them.
  first-fed : (end from left low high i count m l j c : ℕ) → end ≤ length s → count + (end - i) ≤ max_bytes → well_formed (slice i end s) ≡ m → 0 < m → m + l ≡ left → i + m ≡ j → count + m ≡ c
      → fed (run stack top (Now.Letters from left 0 low high) count whole deepest) (drop i s) ≡ fed (entered (ahead top from c l) stack top c whole deepest) (drop j s)
  first-fed end from left low high i count m l j c k f h p x y z =
      let w = well-first s end k i (omega arith) in
      char-fed end from left low high i count w.size (left - w.size) (i + w.size) (count + w.size) k f w.is w.pos (omega (arith, w.on)) refl refl
      ∙ letters-fed end end from (left - w.size) (i + w.size) (count + w.size) (m - w.size) l j c k (omega arith) (omega (arith, w.fits)) (omega (arith, w.on)) (omega (arith, w.on)) (omega (arith, w.on)) (omega (arith, w.on))

  -- so many well-formed bytes of a text, and the text goes on
  pub letters-on : (i end from left low high count k : ℕ) → i ≤ end → end ≤ length s → count + (end - i) ≤ max_bytes → k ≡ well_formed (slice i end s) → 0 < k → k < left
      → fed (run stack top (Now.Letters from left 0 low high) count whole deepest) (drop i s) ≡ fed (run stack top (Now.Letters from (left - k) 0 0 0) (count + k) whole deepest) (drop (i + k) s)
  unfolding ahead entered
  letters-on i end from left low high count k b h f e p q =
      rw (ne_eqb (left - k) 0 (λ z. absurd (omega arith))) at (first-fed end from left low high i count k (left - k) (i + k) (count + k) h f (sym e) p (omega arith) refl refl)

  -- so many well-formed bytes of a text, and it ends
  pub letters-out : (i end from left low high count k : ℕ) → i ≤ end → end ≤ length s → count + (end - i) ≤ max_bytes → k ≡ well_formed (slice i end s) → 0 < k → k ≡ left
      → fed (run stack top (Now.Letters from left 0 low high) count whole deepest) (drop i s) ≡ fed (entered (text_done top.items top (count + k)) stack top (count + k) whole deepest) (drop (i + k) s)
  unfolding ahead entered
  letters-out i end from left low high count k b h f e p q = first-fed end from left low high i count k 0 (i + k) (count + k) h f (sym e) p (omega arith) refl refl

  -- A text of so many bytes, whose length stands at at, is taken to its end.
  words-fed : (at start size next count c : ℕ) → utf8 (slice start (start + size) s) ≡ true → start + size ≡ next → next ≤ length s → count + size ≡ c → c ≤ top.stop → c ≤ max_bytes
      → fed (entered (text_due top at count size) stack top count whole deepest) (drop start s) ≡ fed (entered (text_done top.items top c) stack top c whole deepest) (drop next s)
  unfolding text_due ahead
  words-fed at start size next count c u e k f h n =
      let z : start + size ≤ length s = omega arith in
      let w : well_formed (slice start (start + size) s) ≡ size = omega (arith, eqb-true (well_formed (slice start (start + size) s)) (length (slice start (start + size) s)) u, window-length s start (start + size) z) in
      rw (le-ltb top.stop (count + size) (omega arith)) (letters-fed size (start + size) count size start count size 0 next c z (omega arith) (omega arith) w (omega arith) e f)

  -- a text with its length
  pub text-fed : (end at start next count : ℕ) → text_at s end at ≡ Ok (text_of start next) → end ≤ length s → count + (end - at) ≤ top.stop → count + (end - at) ≤ max_bytes
      → fed (run stack top Now.Length count whole deepest) (drop at s) ≡ fed (entered (text_done top.items top (count + (next - at))) stack top (count + (next - at)) whole deepest) (drop next s)
  unfolding taken length_taken length_more leb_first leb_second entered
  text-fed end at start next count e k h n = let w = text-worded s end at start next e in go w (leb-bytes s end at w.size start k w.number)
    where
      go : (w : Worded s end at start next) → Wide s end at w.size start
          → fed (run stack top Now.Length count whole deepest) (drop at s) ≡ fed (entered (text_done top.items top (count + (next - at))) stack top (count + (next - at)) whole deepest) (drop next s)
      go w (single l p v x) =
          let z : start + w.size ≤ end = omega (arith, w.fits) in
          byte-fed Now.Length at count _ (omega arith) (omega arith) refl
          ∙ rw (p, ← v, ← x) (words-fed count start w.size next (count + 1) (count + (next - at)) w.well (sym w.over) (omega (arith, w.over)) (omega (arith, w.over)) (omega (arith, w.over)) (omega (arith, w.over)))
      go w (double l p q r v x) =
          let z : start + w.size ≤ end = omega (arith, w.fits) in
          let y : at + 1 + 1 ≡ at + 2 = omega arith in
          byte-fed Now.Length at count _ (omega arith) (omega arith) refl
          ∙ rw (p, lt-leb top.stop (count + 1) (omega arith))
          (byte-fed (Now.LengthMore count (get_or s at 0)) (at + 1) (count + 1) _ (omega arith) (omega arith) refl
          ∙ rw (q, r, ← v, y, ← x) (words-fed count start w.size next (count + 1 + 1) (count + (next - at)) w.well (sym w.over) (omega (arith, w.over)) (omega (arith, w.over)) (omega (arith, w.over)) (omega (arith, w.over))))

  -- A count is taken: so many items are due.
  count-fed : (end at v next count c : ℕ) → leb_at s end at ≡ Ok (leb_of v next) → end ≤ length s → count + (end - at) ≤ top.stop → count + (end - at) ≤ max_bytes → count + (next - at) ≡ c
      → fed (run stack top Now.Count count whole deepest) (drop at s) ≡ fed (settle stack (with_due top (v + more top.items)) c whole deepest) (drop next s)
  unfolding taken count_taken count_more leb_first leb_second entered
  count-fed end at v next count c e k h n f = go (leb-bytes s end at v next k e)
    where
      go : Wide s end at v next → fed (run stack top Now.Count count whole deepest) (drop at s) ≡ fed (settle stack (with_due top (v + more top.items)) c whole deepest) (drop next s)
      go (single l p x y) =
          let z : count + 1 ≡ c = omega arith in
          byte-fed Now.Count at count _ (omega arith) (omega arith) refl ∙ rw (p, ← x, ← y, z)
      go (double l p q r x y) =
          let z : count + 1 + 1 ≡ c = omega arith in
          let j : at + 1 + 1 ≡ at + 2 = omega arith in
          byte-fed Now.Count at count _ (omega arith) (omega arith) refl
          ∙ rw (p, lt-leb top.stop (count + 1) (omega arith))
          (byte-fed (Now.CountMore count (get_or s at 0)) (at + 1) (count + 1) _ (omega arith) (omega arith) refl ∙ rw (q, r, ← x, j, ← y, z))

-- a list's items after a shape that begins with the byte b
abbrev items_after : Items → ℕ → Items
items_after items b = primitive b ⇒ items ∣ λ _. unplain items

-- That is how the level goes on after such a shape.
after-child : (at stop due : ℕ) (items : Items) (b : ℕ) → after_child (level at stop due items) b ≡ level at stop due (items_after items b)
after-child at stop due items b = both (λ x y. x ≡ level at stop due y) (primitive b) _ _ _ _ (λ _. refl) (λ _. refl)

-- A shape leaves a list of fields one of fields.
fields-after : (b : ℕ) → items_after Fields b ≡ Fields
fields-after b = rule (λ i. i ≡ Fields) (primitive b) _ _ (λ _. refl) (λ _. refl)

-- It leaves a list of shapes one of shapes.
shapes-after : (items : Items) (b : ℕ) → named (kind_of items) ≡ false → named (kind_of (items_after items b)) ≡ false
shapes-after items b h = rule (λ i. named (kind_of i) ≡ false) (primitive b) _ _ (λ _. h) (λ _. un items h)
  where
    un : (items : Items) → named (kind_of items) ≡ false → named (kind_of (unplain items)) ≡ false
    un Plain h = refl
    un Bare h = refl
    un Fields h = h
    un Texts h = h

-- A list that has no short form has none after its first shape.
prims-after : (s : List ℕ) (n : ℕ) (items : Items) (end at next : ℕ) → at < end → (primitive (get_or s at 0) ≡ true → next ≡ at + 1) → prims s (suc n) (plain items) end at ≡ false
    → prims s n (plain (items_after items (get_or s at 0))) end next ≡ false
unfolding prims primitive_at
prims-after s n items end at next h f e = rule (λ i. prims s n (plain i) end next ≡ false) (primitive (get_or s at 0)) _ _
    (λ p. rw (f p) (ap (λ t. prims s n t end (at + 1)) (and (plain items) (primitive_at s end at) (rw (lt-leb end at h) p)) ∙ e)) (λ _. un items)
  where
    and : (p q : Bool) → q ≡ true → p ≡ (p && q)
    and true q e = sym e
    and false q e = refl

    un : (items : Items) → prims s n (plain (unplain items)) end next ≡ false
    un Plain = prims-none s n end next
    un Bare = prims-none s n end next
    un Fields = prims-none s n end next
    un Texts = prims-none s n end next

-- every shape with so many levels left is taken: what `shape-fed` says
abbrev Shapes : ℕ → Type 0
Shapes left = (s : List ℕ) (end at next d : ℕ) (l : Level) (ls : List Level) (top : Level) (count whole deepest : ℕ) → walk_shape depths left s end at ≡ came next d
    → length (l ∷ ls) + left ≡ max_levels → end ≤ length s → count + (end - at) ≤ top.stop → count + (end - at) ≤ max_bytes
    → fed (run (l ∷ ls) top Now.Head count whole deepest) (drop at s) ≡ fed (settle (l ∷ ls) (after_child top (get_or s at 0)) (count + (next - at)) whole (max deepest (length (l ∷ ls) + d))) (drop next s)

-- the payload of a level that ends at stop
module _ (l : Level) (ls : List Level) (from stop whole : ℕ) where
  -- If no item is due at its end, what is due is due in the level below.
  none-due : (items : Items) (count deepest : ℕ) → plain items ≡ false → count ≡ stop → settle (l ∷ ls) (level from stop 0 items) count whole deepest ≡ settle ls l stop whole deepest
  unfolding settle
  none-due items count deepest p e = rw (e, eq-eqb stop stop refl, p)

  -- The next item of a list of shapes is a shape, if a byte is left for it.
  shape-due : (n : ℕ) (items : Items) (count deepest : ℕ) → named (kind_of items) ≡ false → count < stop
      → settle (l ∷ ls) (level from stop (suc n) items) count whole deepest ≡ run (l ∷ ls) (level from stop n items) Now.Head count whole deepest
  unfolding settle shape_due
  shape-due n items count deepest h k = rw (lt-ltb 0 (suc n) (omega arith), sub-one) (by items h)
    where
      by : (items : Items) → named (kind_of items) ≡ false
          → run (l ∷ ls) (level from stop n items) (item_due items (level from stop (suc n) items) count) count whole deepest ≡ run (l ∷ ls) (level from stop n items) Now.Head count whole deepest
      by Plain h = rw (lt-leb stop count k)
      by Bare h = rw (lt-leb stop count k)
      by Fields h = absurd (false≢true (sym h))
      by Texts h = absurd (false≢true (sym h))

  -- The next item of a list of fields or texts begins with a text, if a byte is left for it.
  text-due : (n : ℕ) (items : Items) (count deepest : ℕ) → named (kind_of items) ≡ true → count < stop
      → settle (l ∷ ls) (level from stop (suc n) items) count whole deepest ≡ run (l ∷ ls) (level from stop n items) Now.Length count whole deepest
  unfolding settle length_due
  text-due n items count deepest h k = rw (lt-ltb 0 (suc n) (omega arith), sub-one) (by items h)
    where
      by : (items : Items) → named (kind_of items) ≡ true
          → run (l ∷ ls) (level from stop n items) (item_due items (level from stop (suc n) items) count) count whole deepest ≡ run (l ∷ ls) (level from stop n items) Now.Length count whole deepest
      by Plain h = absurd (false≢true h)
      by Bare h = absurd (false≢true h)
      by Fields h = rw (lt-leb stop count k)
      by Texts h = rw (lt-leb stop count k)

  -- the items of a payload that lies in s up to end
  module _ (s : List ℕ) (end left deepest : ℕ) (child : Shapes left) (room : length (l ∷ ls) + left ≡ max_levels) (in-s : end ≤ length s) (few : stop ≤ max_bytes) where
    -- Shapes that are due are taken, and the payload ends.
    shapes-fed : (n : ℕ) (kind : Kind) (items : Items) (at a b count D E : ℕ) → named kind ≡ false → shaped kind ≡ true → named (kind_of items) ≡ false
        → walk_items depths (walk_shape depths left) kind n s end at a ≡ came end b → prims s n (plain items) end at ≡ false → at ≤ end → count + (end - at) ≡ stop
        → max deepest (length (l ∷ ls) + a) ≡ D → max deepest (length (l ∷ ls) + b) ≡ E
        → fed (settle (l ∷ ls) (level from stop n items) count whole D) (drop at s) ≡ fed (settle ls l stop whole E) (drop end s)
    unfolding walk_items prims label_at
    shapes-fed zero kind items at a b count D E h k i w p j f x y =
        let u : at ≡ end = cc in let v : a ≡ b = cc in let z : D ≡ E = omega arith in
        rw (none-due items count D p (omega arith), u, z)
    shapes-fed (suc n) kind items at a b count D E h k i w p j f x y =
        let t = went (walk_shape depths left s end at) _ end b (rw (h, k) at w) in
        let m = shape-spans left s end at t.place t.made t.is in
        rw (shape-due n items count D i (omega (arith, m.inside)))
        (child s end at t.place t.made l ls (level from stop n items) count whole D t.is room in-s (omega arith) (omega arith)
        ∙ rw (after-child from stop n items (get_or s at 0))
        (shapes-fed n kind (items_after items (get_or s at 0)) t.place (max a t.made) b (count + (t.place - at)) (max D (length (l ∷ ls) + t.made)) E h k (shapes-after items (get_or s at 0) i) t.on
        (prims-after s n items end at t.place m.inside m.one p) m.within (omega (arith, m.on, m.within)) (omega arith) y))

    -- So are fields.
    fields-fed : (n at a b count D E : ℕ) → walk_items depths (walk_shape depths left) Record n s end at a ≡ came end b → at ≤ end → count + (end - at) ≡ stop
        → max deepest (length (l ∷ ls) + a) ≡ D → max deepest (length (l ∷ ls) + b) ≡ E
        → fed (settle (l ∷ ls) (level from stop n Fields) count whole D) (drop at s) ≡ fed (settle ls l stop whole E) (drop end s)
    unfolding walk_items label_at shape_due entered
    fields-fed zero at a b count D E w j f x y =
        let u : at ≡ end = cc in let v : a ≡ b = cc in let z : D ≡ E = omega arith in
        rw (none-due Fields count D refl (omega arith), u, z)
    fields-fed (suc n) at a b count D E w j f x y =
        let r = read (text_at s end at) _ end b w in
        let t = went (walk_shape depths left s end r.next) _ end b r.on in
        let q = text-spans s end at r.start r.next r.is in-s in
        let m = shape-spans left s end r.next t.place t.made t.is in
        rw (text-due n Fields count D refl (omega (arith, q.0, q.1)))
        (text-fed s (l ∷ ls) (level from stop n Fields) whole D end at r.start r.next count r.is in-s (omega arith) (omega arith)
        ∙ rw (lt-leb stop (count + (r.next - at)) (omega (arith, q.0, m.inside)))
        (child s end r.next t.place t.made l ls (level from stop n Fields) (count + (r.next - at)) whole D t.is room in-s (omega (arith, q.0, q.1)) (omega (arith, q.0, q.1))
        ∙ rw (after-child from stop n Fields (get_or s r.next 0), fields-after (get_or s r.next 0))
        (fields-fed n t.place (max a t.made) b (count + (r.next - at) + (t.place - r.next)) (max D (length (l ∷ ls) + t.made)) E t.on m.within (omega (arith, q.0, q.1, m.on, m.within)) (omega arith) y)))

    -- So are texts.
    texts-fed : (n at a b count D E : ℕ) → walk_items depths (walk_shape depths left) Symbol n s end at a ≡ came end b → at ≤ end → count + (end - at) ≡ stop
        → max deepest (length (l ∷ ls) + a) ≡ D → max deepest (length (l ∷ ls) + b) ≡ E
        → fed (settle (l ∷ ls) (level from stop n Texts) count whole D) (drop at s) ≡ fed (settle ls l stop whole E) (drop end s)
    unfolding walk_items label_at entered
    texts-fed zero at a b count D E w j f x y =
        let u : at ≡ end = cc in let v : a ≡ b = cc in let z : D ≡ E = omega arith in
        rw (none-due Texts count D refl (omega arith), u, z)
    texts-fed (suc n) at a b count D E w j f x y =
        let r = read (text_at s end at) _ end b w in
        let q = text-spans s end at r.start r.next r.is in-s in
        rw (text-due n Texts count D refl (omega (arith, q.0, q.1)))
        (text-fed s (l ∷ ls) (level from stop n Texts) whole D end at r.start r.next count r.is in-s (omega arith) (omega arith)
        ∙ texts-fed n r.next a b (count + (r.next - at)) D E r.on q.1 (omega (arith, q.0, q.1)) x y)

-- A Variable's number that has no short form is taken.
blank-over : (s : List ℕ) (end start from : ℕ) → start + 2 ≤ end → small_at s end start ≡ false → blank_taken from (get_or s start 0) (get_or s (start + 1) 0) ≡ Now.Between
unfolding blank_taken small_at
blank-over s end start from h p =
    both (λ t m. t ≡ false → m ≡ Now.Between) (eqb (get_or s (start + 1) 0) 0) _ _ _ _ (λ _ q. rw q) (λ _ _. refl) (rw (le-ltb (end - start) 2 (omega arith)) at p)

-- a payload that opens: its shape stands at at and ends at end, its items are a deep
module _ (left : ℕ) (child : Shapes left) (s : List ℕ) (stack : List Level) (top : Level) (at end count stop whole deepest a : ℕ)
    (room : length (top ∷ stack) + left ≡ max_levels) (in-s : end ≤ length s) (here : at + 3 ≤ end) (there : count + (end - at) ≡ stop) (few : stop ≤ max_bytes) where
  -- from start on the payload is taken to its end
  abbrev Over : Run → ℕ → Type 0
  Over r start = fed r (drop start s) ≡ fed (settle stack top stop whole (max deepest (length stack + (a + 1)))) (drop end s)

  -- A list of shapes is taken.
  bare-fed : (n : ℕ) (kind : Kind) (items : Items) (start c : ℕ) → named kind ≡ false → shaped kind ≡ true → named (kind_of items) ≡ false
      → walk_items depths (walk_shape depths left) kind n s end start 0 ≡ came end a → prims s n (plain items) end start ≡ false → start ≤ end → c + (end - start) ≡ stop
      → Over (settle (top ∷ stack) (level count stop n items) c whole (max deepest (length stack + 1))) start
  bare-fed n kind items start c h k i w p j f = shapes-fed top stack count stop whole s end left deepest child room in-s few n kind items start 0 a c _ _ h k i w p j f (omega arith) (omega arith)

  -- A list with a count is taken, if its items are.
  listed-fed : (items : Items) (from n extra : ℕ) → more items ≡ extra → counted_at s end (at + 3) extra ≡ Ok (opening_of end from n)
      → ((c : ℕ) → from ≤ end → c + (end - from) ≡ stop → Over (settle (top ∷ stack) (level count stop n items) c whole (max deepest (length stack + 1))) from)
      → Over (run (top ∷ stack) (level count stop 0 items) (count_due stop (count + 3)) (count + 3) whole (max deepest (length stack + 1))) (at + 3)
  unfolding count_due
  listed-fed items from n extra h e go =
      let q = list_counted s end (at + 3) extra from n e in let t = leb-spans s end (at + 3) q.number from in-s q.is in
      rw (lt-leb stop (count + 3) (omega (arith, t.0, t.1)))
      (count-fed s (top ∷ stack) (level count stop 0 items) whole (max deepest (length stack + 1)) end (at + 3) q.number from (count + 3) (count + 3 + (from - (at + 3))) q.is in-s (omega arith) (omega arith) refl
      ∙ rw (h, ← q.all) (go (count + 3 + (from - (at + 3))) t.1 (omega (arith, t.0, t.1))))

  -- A long Variable's number is taken.
  blank-fed : a ≡ 0 → stop ≡ count + 3 + 2 → small_at s end (at + 3) ≡ false → Over (run stack top (Now.BlankLow count) (count + 3) whole deepest) (at + 3)
  unfolding taken entered
  blank-fed z e p =
      let x : count + 3 + 1 + 1 ≡ stop = omega arith in let y : at + 3 + 1 + 1 ≡ end = omega arith in let d : max deepest (length stack + (a + 1)) ≡ max deepest (length stack + 1) = omega arith in
      byte-fed s stack top whole deepest (Now.BlankLow count) (at + 3) (count + 3) _ (omega arith) (omega arith) refl
      ∙ byte-fed s stack top whole deepest (Now.BlankHigh count (get_or s (at + 3) 0)) (at + 3 + 1) (count + 3 + 1) _ (omega arith) (omega arith) refl
      ∙ rw (blank-over s end (at + 3) count (omega arith) p, x, y, d)

  -- A payload of any kind is taken.
  payload-fed : (kind : Kind) (from n : ℕ) → list_of s at (at + 3) end kind ≡ Ok (opening_of end from n) → walk_items depths (walk_shape depths left) kind n s end from 0 ≡ came end a
      → short_form_of s (at + 3) end kind ≡ false → Over (opened kind stack top count stop (count + 3) whole deepest) (at + 3)
  unfolding opened list_of short_form_of prims walk_items
  payload-fed Array from n e w p =
      let x : from ≡ at + 3 = (opening-same e).1 in let y : n ≡ 1 = (opening-same e).2 in
      bare-fed 1 Array Plain (at + 3) (count + 3) refl refl refl (rw (x, y) at w) p here (omega arith)
  payload-fed Map from n e w p =
      let x : from ≡ at + 3 = (opening-same e).1 in let y : n ≡ 2 = (opening-same e).2 in
      bare-fed 2 Map Plain (at + 3) (count + 3) refl refl refl (rw (x, y) at w) (sym (and (primitive_at s end (at + 3)) (primitive_at s end (at + 3 + 1))) ∙ p) here (omega arith)
    where
      and : (p q : Bool) → (p ⇒ q ∣ λ _. false) ≡ (p && q)
      and true q = refl
      and false q = refl
  payload-fed Record from n e w p = listed-fed Fields from n 0 refl e λ c i f. fields-fed top stack count stop whole s end left deepest child room in-s few n from 0 a c _ _ w i f (omega arith) (omega arith)
  payload-fed Function from n e w p = listed-fed Bare from n 1 refl e λ c i f. bare-fed n Function Bare from c refl refl refl w (prims-none s n end from) i f
  payload-fed Symbol from n e w p = listed-fed Texts from n 0 refl e λ c i f. texts-fed top stack count stop whole s end left deepest child room in-s few n from 0 a c _ _ w i f (omega arith) (omega arith)
  payload-fed Variable from n e w p =
      rule (λ o. o ≡ Ok (opening_of end from n) → Over (opened Variable stack top count stop (count + 3) whole deepest) (at + 3)) (eqb (end - (at + 3)) 2) _ _
      (λ q g.
      let t : stop ≡ count + 3 + 2 = omega (arith, facts) in
      let x : n ≡ 0 = (opening-same g).2 in let y : a ≡ 0 = cc (rw x at w) in
      rw (eq-eqb stop (count + 3 + 2) t) (blank-fed y t p))
      (λ _ g. absurd (let z : ◌≡◌ {A = ℕ} 0 1 = cc in omega arith)) e

-- a shape's first bytes
module _ (s : List ℕ) (l : Level) (ls : List Level) (top : Level) (at count whole deepest : ℕ) where
  -- A shape of one byte is taken.
  one-fed : (d : ℕ) → first_said (class_of (get_or s at 0)) ≡ Short d → length (l ∷ ls) + d ≤ max_levels → at < length s → count < max_bytes
      → fed (run (l ∷ ls) top Now.Head count whole deepest) (drop at s) ≡ fed (settle (l ∷ ls) (after_child top (get_or s at 0)) (count + 1) whole (max deepest (length (l ∷ ls) + d))) (drop (at + 1) s)
  unfolding taken first_taken entered
  one-fed d f r h n = byte-fed s (l ∷ ls) top whole deepest Now.Head at count _ h n refl ∙ rw (f, le-ltb max_levels (length (l ∷ ls) + d) r)

  -- The first byte of a shape with a payload, and the payload's size, are taken: the payload opens.
  size-fed : (kind : Kind) (stop : ℕ) → first_said (class_of (get_or s at 0)) ≡ Long kind → length (l ∷ ls) < max_levels → at + 3 ≤ length s → count + 3 + size_at s (at + 1) ≡ stop → stop ≤ top.stop → stop ≤ max_bytes
      → fed (run (l ∷ ls) top Now.Head count whole deepest) (drop at s) ≡ fed (opened kind (l ∷ ls) (no_primitive top) count stop (count + 3) whole deepest) (drop (at + 3) s)
  unfolding taken first_taken size_taken entered
  size-fed kind stop f r h e i n =
      let j : at + 1 + 1 + 1 ≡ at + 3 = omega arith in let c : count + 1 + 1 + 1 ≡ count + 3 = omega arith in
      byte-fed s (l ∷ ls) top whole deepest Now.Head at count _ (omega arith) (omega arith) refl
      ∙ rw (f, lt-leb max_levels (length (l ∷ ls)) r, le-ltb top.stop (count + 3) (omega arith))
      (byte-fed s (l ∷ ls) (no_primitive top) whole deepest (Now.SizeLow kind count) (at + 1) (count + 1) _ (omega arith) (omega arith) refl
      ∙ byte-fed s (l ∷ ls) (no_primitive top) whole deepest (Now.SizeHigh kind count (get_or s (at + 1) 0)) (at + 1 + 1) (count + 1 + 1) _ (omega arith) (omega arith) refl
      ∙ rw (j, c, e, le-ltb top.stop stop i))

-- A shape is taken, if those with one level less are.
level-fed : (left less : ℕ) → (0 < left → less ≡ left - 1) → (0 < left → Shapes less) → Shapes left
level-fed left less e child s end at next d l ls top count whole deepest w room in-s h n = go (shape-met left s end at next d w)
  where
    go : Met left s end at next d
        → fed (run (l ∷ ls) top Now.Head count whole deepest) (drop at s) ≡ fed (settle (l ∷ ls) (after_child top (get_or s at 0)) (count + (next - at)) whole (max deepest (length (l ∷ ls) + d))) (drop next s)
    go (byte i f r x) = let y : count + (next - at) ≡ count + 1 = omega arith in rw (y, x) (one-fed s l ls top at count whole deepest d f (omega arith) (omega arith) (omega arith))
    go (payload kind from m a i p f x y o v q z) =
        rw (long-bare (get_or s at 0) kind f, z)
        (size-fed s l ls top at count whole deepest kind (count + (next - at)) f (omega arith) (omega arith) (omega arith) (omega arith) (omega arith)
        ∙ payload-fed less (child p) s (l ∷ ls) (no_primitive top) at next count (count + (next - at)) whole deepest a (omega (arith, e p)) (omega arith) (omega arith) refl (omega arith) kind from m o (rw (← e p) at v) q)

-- a shape of an open payload: l lies below it, so its level is not the input's own
pub shape-fed : (left : ℕ) (s : List ℕ) (end at next d : ℕ) (l : Level) (ls : List Level) (top : Level) (count whole deepest : ℕ) → walk_shape depths left s end at ≡ came next d
    → length (l ∷ ls) + left ≡ max_levels → end ≤ length s → count + (end - at) ≤ top.stop → count + (end - at) ≤ max_bytes
    → fed (run (l ∷ ls) top Now.Head count whole deepest) (drop at s) ≡ fed (settle (l ∷ ls) (after_child top (get_or s at 0)) (count + (next - at)) whole (max deepest (length (l ∷ ls) + d))) (drop next s)
shape-fed zero s end at next d l ls top count whole deepest = level-fed zero zero (λ h. absurd (omega arith)) (λ h. absurd (omega arith)) s end at next d l ls top count whole deepest
shape-fed (suc left) s end at next d l ls top count whole deepest = level-fed (suc left) left (λ h. omega arith) (λ h. shape-fed left) s end at next d l ls top count whole deepest
