-- What came whole, by its bytes.
--     first-is, first-tidy, onward, char-more     a character: its first byte, and those after it
--     well-first                                  well-formed bytes begin with a character
--     leb-bytes, leb-spans                        a LEB128 number has one byte or two, inside its window
--     text-worded, text-spans                     a text has a length and well-formed bytes, inside its window
--     went, read                                  what goes on after a walk, after a text
--     list_counted                                a list has a count
--     shape-met, shape-spans, long-bare           a shape has one byte, or a payload that came to its end, inside its window
-- Assumes nothing.
use mathlib.Core.Path.{◌≡◌, refl, ap, sym, ◌∙◌}
use mathlib.Core.Bool.{Bool, true, false, false≢true}
use mathlib.Core.List.{List, ◌∷◌}
use Prim.Native.Nat.{ℕ, zero, suc, ◌+◌, ◌*◌, ◌-◌, ◌%◌, ◌≤◌, ◌<◌}
use native.Mathlib.Omega.{arith}
use native.Mathlib.Numerals.{sub-one}
use lib.ListN.{length, get_or}
use lib.Seq.{slice}
use lib.Dec.{ltb, leb, eqb}
use borrow.Author.Tests.{ltb-false, leb-true, leb-false, le-ltb, ne_eqb, eqb-true, eqb-false}
use Rattle.meaning.specs.Utf8.{well_formed, goes_on, size_with, char_size, utf8}
use Rattle.meaning.proofs.Rules.{facts, rule}
use Rattle.meaning.proofs.Utf8.{char-le}
use Rattle.meaning.proofs.Window.{window-none, window-some, window-length, window-drop}
use Rattle.leaves.specs.Leb.{leb_of, leb_at}
use Rattle.leaves.specs.declared.Leb.{Leb}
use Rattle.leaves.specs.declared.refusals.Refusal.{Refusal}
use Rattle.std.specs.Prelude.{Option, Some, None, Result, Ok, Err}
use Rattle.leaves.proofs.Numbers.{steps, leb-steps}
use Rattle.leaves.proofs.Text.{well-on, well-stop}
use Rattle.meaning.specs.FirstByte.{Class, class_of}
use Rattle.payloads.specs.First.{first_said}
use Rattle.payloads.specs.Payload.{text_of, opening_of, text_at, text_from, primitive, short_form_of, size_at, opening_at, list_of, counted_at, counted_by}
use Rattle.payloads.specs.declared.first.Kind.{Kind}
use Rattle.payloads.specs.declared.first.Kind.TheVariants.{Array, Map, Record, Function, Symbol, Variable}
use Rattle.payloads.specs.declared.first.First.{First}
use Rattle.payloads.specs.declared.first.First.TheVariants.{Unassigned, Short, Long}
use Rattle.payloads.specs.declared.Opening.{Opening}
use Rattle.payloads.specs.declared.Text.{Text}
use Rattle.reader.specs.Walk.{Out, came, stopped, after, after_text, after_opening, closing, walk_items, by_first, shape_with, walk_shape, depths}
use Rattle.reader.proofs.Firsts.{ToldFirst, none, one, two, more, first-told}
use Rattle.reader.proofs.Steps.{below, shape-by, shape-more}
use Rattle.byte_steps.specs.declared.Asked.{Asked}
use Rattle.byte_steps.specs.Automaton.{asks, char_first, char_taken}
use Rattle.byte_steps.proofs.Letters.{first-size}
use Rattle.byte_steps.proofs.Meant.{closes}
use Rattle.byte_steps.proofs.Sizes.{closing-closes}

-- A fault is nothing that came: of a walk, a number, a text, an opening.
no-came : {X C : Type 0} {m p n : ℕ} {v : X} → stopped m p ≡ came n v → C
no-came g = absurd (let z : ◌≡◌ {A = ℕ} 0 1 = cc in omega arith)

no-ok : {X C : Type 0} {r : Refusal} {v : X} → ◌≡◌ {A = Result X Refusal} (Err r) (Ok v) → C
no-ok g = absurd (let z : ◌≡◌ {A = ℕ} 0 1 = cc in omega arith)

-- Two numbers, texts, openings that came are the same, if their values and places are.
ok-same : {X : Type 0} {x y : X} → ◌≡◌ {A = Result X Refusal} (Ok x) (Ok y) → y ≡ x
ok-same g = cc

leb-same : {a b c d : ℕ} → ◌≡◌ {A = Result Leb Refusal} (Ok (leb_of a b)) (Ok (leb_of c d)) → (c ≡ a) × (d ≡ b)
leb-same g = (ap (λ (l : Leb). l.value) (ok-same g), ap (λ (l : Leb). l.next) (ok-same g))

text-same : {a b c d : ℕ} → ◌≡◌ {A = Result Text Refusal} (Ok (text_of a b)) (Ok (text_of c d)) → (c ≡ a) × (d ≡ b)
text-same g = (ap (λ (t : Text). t.start) (ok-same g), ap (λ (t : Text). t.next) (ok-same g))

pub opening-same : {a b n c d m : ℕ} → ◌≡◌ {A = Result Opening Refusal} (Ok (opening_of a b n)) (Ok (opening_of c d m)) → (c ≡ a) × (d ≡ b) × (m ≡ n)
opening-same g = (ap (λ (o : Opening). o.stop) (ok-same g), ap (λ (o : Opening). o.from) (ok-same g), ap (λ (o : Opening). o.count) (ok-same g))

-- what a character's last byte leaves: no bounds for a next one
abbrev pub Tidy : Option Asked → Type 0
Tidy None = Unit {0}
Tidy (Some c) = c.more ≡ 0 → (c.low ≡ 0) × (c.high ≡ 0)

-- A character's first byte leaves it so.
pub first-tidy : (b : ℕ) → Tidy (char_first b)
unfolding char_first
first-tidy b =
    rule Tidy (ltb b 128) _ _ (λ _ _. (refl, refl)) λ _.
    rule Tidy (ltb b 194) _ _ (λ _. tt) λ _.
    rule Tidy (ltb b 224) _ _ (λ _ h. absurd (omega arith)) λ _.
    rule Tidy (eqb b 224) _ _ (λ _ h. absurd (omega arith)) λ _.
    rule Tidy (eqb b 237) _ _ (λ _ h. absurd (omega arith)) λ _.
    rule Tidy (ltb b 240) _ _ (λ _ h. absurd (omega arith)) λ _.
    rule Tidy (eqb b 240) _ _ (λ _ h. absurd (omega arith)) λ _.
    rule Tidy (ltb b 244) _ _ (λ _ h. absurd (omega arith)) λ _.
    rule Tidy (eqb b 244) _ _ (λ _ h. absurd (omega arith)) λ _.
    tt

-- a bound for a character's next byte, if it asks for more
abbrev pub bound : ℕ → ℕ → ℕ
bound zero b = 0
bound (suc m) b = b

-- If it asks for none, there are none.
pub bound-none : (m : ℕ) → m ≡ 0 → (bound m 128 ≡ 0) × (bound m 191 ≡ 0)
bound-none zero h = (refl, refl)
bound-none (suc m) h = absurd (omega arith)

-- A byte within the bounds is taken.
pub char-more : (m low high b : ℕ) → low ≤ b → b ≤ high → char_taken (suc m) low high b ≡ asks m (bound m 128) (bound m 191)
unfolding char_taken
char-more zero low high b h k = rw (le-ltb b low h, le-ltb high b k)
char-more (suc m) low high b h k = rw (ne_eqb (suc (suc m)) 0 (λ q. absurd (omega arith)), le-ltb b low h, le-ltb high b k, ne_eqb (suc (suc m)) 1 (λ q. absurd (omega arith)), sub-one)

-- If none is asked for, any bounds will do.
goes-bound : (m : ℕ) (w : List ℕ) → goes_on m 128 191 w ≡ true → goes_on m (bound m 128) (bound m 191) w ≡ true
unfolding goes_on
goes-bound zero w h = refl
goes-bound (suc m) w h = h

-- a character's first byte, with how the bytes after it go on
pub record FirstIs (b : ℕ) (w : List ℕ) : Type 0 where
  pub m : ℕ
  pub low : ℕ
  pub high : ℕ
  pub says : char_first b ≡ asks m low high
  pub on : goes_on m low high w ≡ true
  pub size : char_size (b ∷ w) ≡ suc m

-- Where a character is, it has such a first byte.
pub first-is : (b : ℕ) (w : List ℕ) → 0 < char_size (b ∷ w) → FirstIs b w
first-is b w h = go (char_first b) refl
  where
    with : (m low high : ℕ) → char_first b ≡ asks m low high → char_size (b ∷ w) ≡ size_with m low high w → (t : Bool) → goes_on m low high w ≡ t → FirstIs b w
    with m low high e q true p = record { m = m; low = low; high = high; says = e; on = p; size = q ∙ rw p }
    with m low high e q false p = absurd (let z : char_size (b ∷ w) ≡ 0 = q ∙ rw p in omega arith)

    go : (c : Option Asked) → char_first b ≡ c → FirstIs b w
    go None e = absurd (let z = rw e at (first-size b w) in omega arith)
    go (Some c) e = with c.more c.low c.high e (rw e at (first-size b w)) (goes_on c.more c.low c.high w) refl

module _ (s : List ℕ) (end : ℕ) (in-s : end ≤ length s) where
  -- a character goes on with the byte at a place
  pub record Onward (m low high i : ℕ) : Type 0 where
    pub inside : i < end
    pub lower : low ≤ get_or s i 0
    pub upper : get_or s i 0 ≤ high
    pub rest : goes_on m (bound m 128) (bound m 191) (slice (i + 1) end s) ≡ true

  -- One that asks for more does.
  pub onward : (m low high i : ℕ) → goes_on (suc m) low high (slice i end s) ≡ true → Onward m low high i
  unfolding goes_on
  onward m low high i h = go (leb end i) refl
    where
      P : Bool → Type 0
      P t = t ≡ true → Onward m low high i

      go : (t : Bool) → leb end i ≡ t → Onward m low high i
      go true p = absurd (false≢true (rw (window-none s i end (leb-true _ _ p)) at h))
      go false p =
          let l : i < end = leb-false _ _ p in
          (rule P (ltb (get_or s i 0) low) _ _ (λ _ g. absurd (false≢true g)) λ q.
          rule P (ltb high (get_or s i 0)) _ _ (λ _ g. absurd (false≢true g)) λ r g.
          record { inside = l; lower = ltb-false _ _ q; upper = ltb-false _ _ r; rest = goes-bound m (slice (i + 1) end s) g })
          (rw (window-some s i end l in-s) at h)

  -- well-formed bytes begin with a character
  pub record Begins (i : ℕ) : Type 0 where
    pub size : ℕ
    pub is : char_size (slice i end s) ≡ size
    pub pos : 0 < size
    pub fits : i + size ≤ end
    pub on : well_formed (slice i end s) ≡ size + well_formed (slice (i + size) end s)

  -- Where there are some, they do.
  pub well-first : (i : ℕ) → 0 < well_formed (slice i end s) → Begins i
  well-first i h = record {
    size = char_size (slice i end s);
    is = refl;
    pos = pos;
    fits = omega (arith, rw (window-length s i end in-s) at (char-le (slice i end s)), pos);
    on = well-on (slice i end s) (λ z. omega (arith, pos)) ∙ rw (window-drop s i end (char_size (slice i end s)));
  }
    where
      go : (n : ℕ) → char_size (slice i end s) ≡ n → 0 < char_size (slice i end s)
      go zero e = absurd (omega (arith, well-stop (slice i end s) e))
      go (suc n) e = omega arith

      pos : 0 < char_size (slice i end s)
      pos = go (char_size (slice i end s)) refl

-- a LEB128 number that came, by its bytes: one or two
pub data Wide (s : List ℕ) (end at v next : ℕ) : Type 0 where
  single : at < end → ltb (get_or s at 0) 128 ≡ true → v ≡ get_or s at 0 → next ≡ at + 1 → Wide s end at v next
  double : at + 1 < end → ltb (get_or s at 0) 128 ≡ false → leb 128 (get_or s (at + 1) 0) ≡ false → eqb (get_or s (at + 1) 0) 0 ≡ false → v ≡ get_or s at 0 % 128 + 128 * get_or s (at + 1) 0 → next ≡ at + 2
      → Wide s end at v next

-- A number that came has such bytes.
pub leb-bytes : (s : List ℕ) (end at v next : ℕ) → end ≤ length s → leb_at s end at ≡ Ok (leb_of v next) → Wide s end at v next
unfolding steps
leb-bytes s end at v next k e =
    (rule P (leb end at) _ _ (λ _ g. no-ok g) λ p.
    rule P (ltb (get_or s at 0) 128) _ _ (λ q g. single (leb-false _ _ p) q (leb-same g).0 (leb-same g).1) λ q.
    rule P (leb end (at + 1)) _ _ (λ _ g. no-ok g) λ r.
    rule P (leb 128 (get_or s (at + 1) 0)) _ _ (λ _ g. no-ok g) λ t.
    rule P (eqb (get_or s (at + 1) 0) 0) _ _ (λ _ g. no-ok g) λ u g. double (leb-false _ _ r) q t u (leb-same g).0 (leb-same g).1)
    (sym (leb-steps s end at k) ∙ e)
  where
    P : Result Leb Refusal → Type 0
    P o = o ≡ Ok (leb_of v next) → Wide s end at v next

-- A number that came lies inside its window.
pub leb-spans : (s : List ℕ) (end at v next : ℕ) → end ≤ length s → leb_at s end at ≡ Ok (leb_of v next) → (at < next) × (next ≤ end)
leb-spans s end at v next k e = go (leb-bytes s end at v next k e)
  where
    go : Wide s end at v next → (at < next) × (next ≤ end)
    go (single h p x y) = (omega arith, omega arith)
    go (double h p q r x y) = (omega arith, omega arith)

-- a text that came: its length, and well-formed bytes
pub record Worded (s : List ℕ) (end at start next : ℕ) : Type 0 where
  pub size : ℕ
  pub number : leb_at s end at ≡ Ok (leb_of size start)
  pub fits : size ≤ end - start
  pub well : utf8 (slice start (start + size) s) ≡ true
  pub over : next ≡ start + size

-- A text that came is such.
pub text-worded : (s : List ℕ) (end at start next : ℕ) → text_at s end at ≡ Ok (text_of start next) → Worded s end at start next
unfolding text_at text_from
text-worded s end at start next e = go (leb_at s end at) refl e
  where
    P : Result Leb Refusal → Result Text Refusal → Type 0
    P l t = leb_at s end at ≡ l → t ≡ Ok (text_of start next) → Worded s end at start next

    go : (l : Result Leb Refusal) → P l (text_from s end at l)
    go (Err r) h g = no-ok g
    go (Ok l) h g =
        let size : ℕ = l.value in
        let from : ℕ = l.next in
        (rule (P (Ok l)) (ltb (end - from) size) _ _ (λ _ h g. no-ok g) λ p.
        rule (P (Ok l)) (utf8 (slice from (from + size) s)) _ _ (λ q h g.
        let a : from ≡ start = sym (text-same g).0 in let b : next ≡ from + size = (text-same g).1 in
        record { size = size; number = h ∙ rw a; fits = rw (← a) (ltb-false _ _ p); well = rw (← a) q; over = rw (← a) b })
        λ _ h g. no-ok g) h g

-- A text that came lies inside its window.
pub text-spans : (s : List ℕ) (end at start next : ℕ) → text_at s end at ≡ Ok (text_of start next) → end ≤ length s → (at < next) × (next ≤ end)
text-spans s end at start next e k =
    let w = text-worded s end at start next e in let q = leb-spans s end at w.size start k w.number in
    (omega (arith, w.over, q.0), omega (arith, w.over, w.fits, q.1))

-- what came after something that came
pub record Went {X Y : Type 0} (o : Out X) (k : ℕ → X → Out Y) (n : ℕ) (v : Y) : Type 0 where
  pub place : ℕ
  pub made : X
  pub is : o ≡ came place made
  pub on : k place made ≡ came n v

-- What goes on to come has come.
pub went : {X Y : Type 0} (o : Out X) (k : ℕ → X → Out Y) (n : ℕ) (v : Y) → after o k ≡ came n v → Went o k n v
went (came m x) k n v e = record { place = m; made = x; is = refl; on = e }
went (stopped m p) k n v e = no-came e

-- the same after a text
pub record Read {Y : Type 0} (t : Result Text Refusal) (k : ℕ → ℕ → Out Y) (n : ℕ) (v : Y) : Type 0 where
  pub start : ℕ
  pub next : ℕ
  pub is : t ≡ Ok (text_of start next)
  pub on : k start next ≡ came n v

-- What goes on after a text to come has a whole text.
pub read : {Y : Type 0} (t : Result Text Refusal) (k : ℕ → ℕ → Out Y) (n : ℕ) (v : Y) → after_text t k ≡ came n v → Read t k n v
read (Ok t) k n v e = record { start = t.start; next = t.next; is = refl; on = e }
read (Err r) k n v e = no-came e

-- the same after an opening
record Begun {Y : Type 0} (o : Result Opening Refusal) (k : ℕ → ℕ → ℕ → Out Y) (n : ℕ) (v : Y) : Type 0 where
  stop : ℕ
  from : ℕ
  count : ℕ
  is : o ≡ Ok (opening_of stop from count)
  on : k stop from count ≡ came n v

-- What goes on after an opening to come has a list.
begun : {Y : Type 0} (o : Result Opening Refusal) (k : ℕ → ℕ → ℕ → Out Y) (n : ℕ) (v : Y) → after_opening o k ≡ came n v → Begun o k n v
begun (Ok o) k n v e = record { stop = o.stop; from = o.from; count = o.count; is = refl; on = e }
begun (Err r) k n v e = no-came e

-- a payload whose end came
record Ended (s : List ℕ) (at stop : ℕ) (kind : Kind) (n a next d : ℕ) : Type 0 where
  all : n ≡ stop
  long : short_form_of s (at + 3) stop kind ≡ false
  place : next ≡ stop
  deep : d ≡ a + 1

-- A payload's end that came is such.
ended : (s : List ℕ) (at stop : ℕ) (kind : Kind) (n a next d : ℕ) → closing depths s at stop kind n a ≡ came next d → Ended s at stop kind n a next d
unfolding closes
ended s at stop kind n a next d e =
    (rule P (eqb n stop) _ _ (λ p.
    rule P (short_form_of s (at + 3) stop kind) _ _ (λ _ g. no-came g) λ q g. record { all = eqb-true _ _ p; long = q; place = cc; deep = cc })
    λ _ g. no-came g)
    (sym (closing-closes s at stop kind n a) ∙ e)
  where
    P : Out ℕ → Type 0
    P o = o ≡ came next d → Ended s at stop kind n a next d

-- The list of a payload ends where the payload does.
list-stop : (s : List ℕ) (at start stop : ℕ) (kind : Kind) (end from count : ℕ) → list_of s at start stop kind ≡ Ok (opening_of end from count) → end ≡ stop
unfolding list_of counted_at counted_by
list-stop s at start stop kind end from count e = by kind e
  where
    counted : (extra : ℕ) (o : Result Leb Refusal) → counted_by stop extra o ≡ Ok (opening_of end from count) → end ≡ stop
    counted extra (Ok l) g = (opening-same g).0
    counted extra (Err r) g = no-ok g

    by : (kind : Kind) → list_of s at start stop kind ≡ Ok (opening_of end from count) → end ≡ stop
    by Array g = (opening-same g).0
    by Map g = (opening-same g).0
    by Record g = counted 0 (leb_at s stop start) g
    by Function g = counted 1 (leb_at s stop start) g
    by Symbol g = counted 0 (leb_at s stop start) g
    by Variable g = rule (λ o. o ≡ Ok (opening_of end from count) → end ≡ stop) (eqb (stop - start) 2) _ _ (λ _ g. (opening-same g).0) (λ _ g. no-ok g) g

-- A list that came lies in the window after its size.
opening-in : (s : List ℕ) (end at stop from count : ℕ) (kind : Kind) → opening_at s end at kind ≡ Ok (opening_of stop from count)
    → (at + 3 + size_at s (at + 1) ≤ end) × (list_of s at (at + 3) (at + 3 + size_at s (at + 1)) kind ≡ Ok (opening_of stop from count))
unfolding opening_at
opening-in s end at stop from count kind e =
    (rule P (ltb (end - at) 3) _ _ (λ _ g. no-ok g) λ p.
    rule P (ltb (end - at - 3) (size_at s (at + 1))) _ _ (λ _ g. no-ok g) λ q g. (omega (arith, facts), g)) e
  where
    Q : Type 0
    Q = (at + 3 + size_at s (at + 1) ≤ end) × (list_of s at (at + 3) (at + 3 + size_at s (at + 1)) kind ≡ Ok (opening_of stop from count))

    P : Result Opening Refusal → Type 0
    P o = o ≡ Ok (opening_of stop from count) → Q

-- a list whose count came
pub record Counted (s : List ℕ) (stop start extra from count : ℕ) : Type 0 where
  pub number : ℕ
  pub is : leb_at s stop start ≡ Ok (leb_of number from)
  pub all : count ≡ number + extra

-- A list that came is such.
pub list_counted : (s : List ℕ) (stop start extra from count : ℕ) → counted_at s stop start extra ≡ Ok (opening_of stop from count) → Counted s stop start extra from count
unfolding counted_at counted_by
list_counted s stop start extra from count e = go (leb_at s stop start) refl e
  where
    go : (o : Result Leb Refusal) → leb_at s stop start ≡ o → counted_by stop extra o ≡ Ok (opening_of stop from count) → Counted s stop start extra from count
    go (Ok l) h g = let x = opening-same g in record { number = l.value; is = h ∙ ap (λ n. Ok (leb_of l.value n)) (sym x.1); all = x.2 }
    go (Err r) h g = no-ok g

-- A byte that says that a payload follows is no primitive.
pub long-bare : (b : ℕ) (kind : Kind) → first_said (class_of b) ≡ Long kind → primitive b ≡ false
long-bare b kind e = go _ _ (first-told depths b) e
  where
    go : (f : First) (c : Class) → ToldFirst depths b f c → f ≡ Long kind → primitive b ≡ false
    go f c none g = absurd (let z : ◌≡◌ {A = ℕ} 0 1 = cc in omega arith)
    go f c (one t d q) g = absurd (let z : ◌≡◌ {A = ℕ} 0 1 = cc in omega arith)
    go f c (two t d q r) g = r
    go f c (more k q) g = q

-- a shape that came: of one byte, or with a payload that ends at next
pub data Met (left : ℕ) (s : List ℕ) (end at next d : ℕ) : Type 0 where
  byte : at < end → first_said (class_of (get_or s at 0)) ≡ Short d → d ≤ left → next ≡ at + 1 → Met left s end at next d
  payload : (kind : Kind) (from count a : ℕ) → at < end → 0 < left → first_said (class_of (get_or s at 0)) ≡ Long kind → next ≡ at + 3 + size_at s (at + 1) → next ≤ end
      → list_of s at (at + 3) next kind ≡ Ok (opening_of next from count) → walk_items depths (walk_shape depths (left - 1)) kind count s next from 0 ≡ came next a
      → short_form_of s (at + 3) next kind ≡ false → d ≡ a + 1 → Met left s end at next d

-- A shape whose list, items and end came is such.
long-made : (left : ℕ) (s : List ℕ) (end at next d : ℕ) (kind : Kind) (stop from count n a : ℕ) → at < end → 0 < left → first_said (class_of (get_or s at 0)) ≡ Long kind
    → opening_at s end at kind ≡ Ok (opening_of stop from count) → walk_items depths (walk_shape depths (left - 1)) kind count s stop from 0 ≡ came n a → closing depths s at stop kind n a ≡ came next d
    → Met left s end at next d
long-made left s end at next d kind stop from count n a h p f o w c =
    let i = opening-in s end at stop from count kind o in
    let z : stop ≡ at + 3 + size_at s (at + 1) = list-stop s at (at + 3) (at + 3 + size_at s (at + 1)) kind stop from count i.1 in
    let t = ended s at stop kind n a next d c in
    let x : stop ≡ next = sym t.place in let y : n ≡ next = t.all ∙ x in
    payload kind from count a h p f (sym x ∙ z) (omega (arith, i.0)) (rw (← z, x) at i.1) (rw (x, y) at w) (rw x at t.long) t.deep

-- A shape that came is such.
pub shape-met : (left : ℕ) (s : List ℕ) (end at next d : ℕ) → walk_shape depths left s end at ≡ came next d → Met left s end at next d
unfolding shape_with by_first
shape-met left s end at next d e = rule P (leb end at) _ _ (λ _ g. no-came g) (λ p g. by (leb-false _ _ p) (first_said (class_of (get_or s at 0))) refl g) (sym (shape-by depths left s end at) ∙ e)
  where
    P : Out ℕ → Type 0
    P o = o ≡ came next d → Met left s end at next d

    by : at < end → (f : First) → first_said (class_of (get_or s at 0)) ≡ f → by_first depths left (below depths left) s end at f ≡ came next d → Met left s end at next d
    by h Unassigned f g = no-came g
    by h (Short levels) f g = rule P (ltb left levels) _ _ (λ _ g. no-came g) (λ p g. let x : levels ≡ d = cc in byte h (f ∙ ap Short x) (omega (arith, facts)) (cc)) g
    by h (Long kind) f g = rule P (eqb left 0) _ _ (λ _ g. no-came g) (λ p g.
        let l : 0 < left = omega (arith, eqb-false left 0 p) in
        let o = begun (opening_at s end at kind) _ next d (sym (shape-more depths left s end at h l f) ∙ e) in
        let w = went (walk_items depths (walk_shape depths (left - 1)) kind o.count s o.stop o.from 0) _ next d o.on in
        long-made left s end at next d kind o.stop o.from o.count w.place w.made h l f o.is w.is w.on) g

-- where a shape that came lies
pub record Spans (s : List ℕ) (end at next : ℕ) : Type 0 where
  pub inside : at < end
  pub on : at < next
  pub within : next ≤ end
  pub one : primitive (get_or s at 0) ≡ true → next ≡ at + 1

-- It lies inside its window.
pub shape-spans : (left : ℕ) (s : List ℕ) (end at next d : ℕ) → walk_shape depths left s end at ≡ came next d → Spans s end at next
shape-spans left s end at next d e = go (shape-met left s end at next d e)
  where
    go : Met left s end at next d → Spans s end at next
    go (byte h f l x) = record { inside = h; on = omega arith; within = omega arith; one = λ _. x }
    go (payload kind from count a h p f x y i w t z) = record { inside = h; on = omega arith; within = y; one = λ q. absurd (false≢true (sym (long-bare (get_or s at 0) kind f) ∙ q)) }
