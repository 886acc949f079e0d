-- The meaning's answers refuse exactly by the clauses of specs/Order.antt.
--     fill-order, join-order, write-order, table-order     an answer is the refusal of number n at the place p exactly when a clause gives these
--     part_answer, part-order                               so of what is answered for a part of a shape
-- Assumes nothing.
use Prim.Native.Nat.{ℕ, ◌<◌}
use mathlib.Core.Path.{◌≡◌, refl, ◌∙◌, ap, ap₂}
use mathlib.Core.Logic.{◌↔◌}
use mathlib.Core.List.{List, [], ◌∷◌, ◌++◌, append-nil}
use lib.Dec.{ltb}
use lib.ListN.{length}
use borrow.Author.Tests.{ltb-true, ltb-false, lt-ltb, le-ltb}
use Rattle.meaning.specs.Rules.{◌⇒◌∣◌}
use Rattle.meaning.specs.Limits.{max_bytes, max_levels, max_entries, max_encodings}
use Rattle.meaning.specs.Refusals.{buffer_short, sheet_broken, second_broken, no_such_part}
use Rattle.meaning.specs.Shape.{Shape, depth}
use Rattle.meaning.specs.Encode.{encode}
use Rattle.meaning.specs.Reading.{Reading, got, bad, reading}
use Rattle.meaning.specs.Numbered.{Numbered, All}
use Rattle.meaning.specs.Sheet.{Sheet, fill, join, encodings}
use Rattle.meaning.specs.SheetReading.{read_sheet}
use Rattle.meaning.specs.Table.{table_shape}
use Rattle.meaning.specs.TableReading.{read_table}
use Rattle.meaning.specs.Answers.{Answer, answered, refused, onto, in_room, made, all_made, made_sheet, fill_answer, join_answer, write_answer, table_answer}
use Rattle.meaning.proofs.Rules.{rule}
use Rattle.meaning.proofs.SheetBytes.{sheet-refusal}
use Rattle.meaning.proofs.Answers.{made-fits, room-lacks}
use Rattle.promises.specs.Order.{PartRefuses, encoding_bad, no_part, Fits, ShapeRefuses, deep, long, MadeRefuses, unfit, no_room, FillRefuses, template_bad, sheet_bad, filled_bad, JoinedRefuses, entries_over, entry_bad, bytes_over, sheet_no_room, JoinRefuses, first_bad, second_bad, joined_bad, WriteRefuses, table_bad, root_bad, TableRefuses, bytes_bad, table_no_room}

-- where it is a refusal, an answer has a number and a place that R holds of
abbrev pub Ordered : (ℕ → ℕ → Type 0) → Answer → Type 0
Ordered R (answered w) = Unit {0}
Ordered R (refused n p) = R n p

-- What was read is handed on; R has to hold of a refusal of reading.
onto-ordered : {A : Type 0} (R : ℕ → ℕ → Type 0) (x : Reading A) (f : A → Answer) → ((n p : ℕ) → x ≡ bad n p → R n p) → ((a : A) (v : List ℕ) → x ≡ got a v → Ordered R (f a)) → Ordered R (onto x f)
unfolding onto
onto-ordered R (got a v) f j k = k a v refl
onto-ordered R (bad n p) f j k = j n p refl

-- So of a sheet, whose refusal has the number that its reading was handed.
sheet-ordered : (R : ℕ → ℕ → Type 0) (broken : ℕ) (w : List ℕ) (f : Sheet → Answer) → ((p : ℕ) → read_sheet broken w ≡ bad broken p → R broken p) → ((σ : Sheet) (v : List ℕ) → read_sheet broken w ≡ got σ v → Ordered R (f σ)) → Ordered R (onto (read_sheet broken w) f)
sheet-ordered R broken w f j = onto-ordered R (read_sheet broken w) f (λ n p e. let i = (sheet-refusal broken w n p e).0 in rw i (j p (e ∙ ap₂ bad i refl)))

-- So of 12.
room-ordered : (R : ℕ → ℕ → Type 0) (room : ℕ) (w : List ℕ) → (room < length w → R buffer_short (length w)) → Ordered R (in_room room w)
unfolding in_room
room-ordered R room w j = rule (Ordered R) (ltb room (length w)) _ _ (λ t. j (ltb-true _ _ t)) (λ _. tt)

-- So of 15 and 16.
made-ordered : (R : ℕ → ℕ → Type 0) (p : ℕ) (s : Shape) (a : Answer) → ((n : ℕ) → ShapeRefuses s n → R n p) → (Fits s → Ordered R a) → Ordered R (made p s a)
unfolding made
made-ordered R p s a j k =
    rule (Ordered R) (ltb max_levels (depth s)) _ _ (λ t. j _ (deep (ltb-true _ _ t))) λ t.
    rule (Ordered R) (ltb max_bytes (length (encode s))) _ _ (λ u. j _ (long (ltb-false _ _ t) (ltb-true _ _ u))) λ u.
    k (ltb-false _ _ t, ltb-false _ _ u)

-- the entries of a sheet fit
abbrev AllFit : Sheet → Type 0
AllFit = All (λ d. Fits d.item)

-- So of 15 and 16 by rising number.
all-ordered : (R : ℕ → ℕ → Type 0) (σ : Sheet) (a : Answer) → ((before after : Sheet) (e : Numbered Shape) (n : ℕ) → σ ≡ before ++ (e ∷ after) → AllFit before → ShapeRefuses e.item n → R n e.number) → (AllFit σ → Ordered R a) → Ordered R (all_made σ a)
unfolding all_made All
all-ordered R [] a j k = k tt
all-ordered R (e ∷ es) a j k =
    made-ordered R e.number e.item _ (λ n. j [] es e n refl tt) λ f.
    all-ordered R es a (λ b c d n q g. j (e ∷ b) c d n (ap (λ (ds : Sheet). e ∷ ds) q) (f, g)) (λ g. k (f, g))

-- So of all that is checked of one made shape.
one-ordered : (R : ℕ → ℕ → Type 0) (s : Shape) (room : ℕ) → ((n p : ℕ) → MadeRefuses s room n p → R n p) → Ordered R (made 0 s (in_room room (encode s)))
one-ordered R s room j = made-ordered R 0 s _ (λ n u. j n 0 (unfit u)) λ f. room-ordered R room _ (λ l. j _ _ (no_room f l))

-- So of all that is checked of a joined sheet.
joined-ordered : (R : ℕ → ℕ → Type 0) (σ : Sheet) (room : ℕ) → ((n p : ℕ) → JoinedRefuses σ room n p → R n p) → Ordered R (made_sheet room σ)
unfolding made_sheet
joined-ordered R σ room j =
    rule (Ordered R) (ltb max_entries (length σ)) _ _ (λ t. j _ _ (entries_over (ltb-true _ _ t))) λ t.
    all-ordered R σ _ (λ b c e n q f u. j _ _ (entry_bad b c e (ltb-false _ _ t) q f u)) λ f.
    rule (Ordered R) (ltb max_encodings (length (encodings σ))) _ _ (λ u. j _ _ (bytes_over (ltb-false _ _ t) f (ltb-true _ _ u))) λ u.
    room-ordered R room _ (λ l. j _ _ (sheet_no_room (ltb-false _ _ t) f (ltb-false _ _ u) l))

-- The other way. A shape that does not fit is refused with its number.
shape-clause : {n : ℕ} (p : ℕ) (s : Shape) (a : Answer) → ShapeRefuses s n → made p s a ≡ refused n p
unfolding made
shape-clause p s a (deep h) = rw (lt-ltb _ _ h)
shape-clause p s a (long d h) = rw (le-ltb _ _ d, lt-ltb _ _ h)

-- Entries that fit are passed over.
past : (before after : Sheet) (a : Answer) → AllFit before → all_made (before ++ after) a ≡ all_made after a
unfolding all_made All
past [] after a f = refl
past (e ∷ es) after a f = made-fits e.number e.item _ f.0.0 f.0.1 ∙ past es after a f.1

-- So are all.
past_all : (σ : Sheet) (a : Answer) → AllFit σ → all_made σ a ≡ a
unfolding all_made
past_all σ a f = rw append-nil at (past σ [] a f)

-- Each clause of one made shape gives its refusal.
made-clause : {s : Shape} {room n p : ℕ} → MadeRefuses s room n p → made 0 s (in_room room (encode s)) ≡ refused n p
made-clause {s} {room} (unfit h) = shape-clause 0 s _ h
made-clause {s} {room} (no_room f h) = made-fits 0 s _ f.0 f.1 ∙ room-lacks room _ h

-- So does each of a joined sheet.
joined-clause : {σ : Sheet} {room n p : ℕ} → JoinedRefuses σ room n p → made_sheet room σ ≡ refused n p
unfolding made_sheet all_made
joined-clause {σ} {room} (entries_over h) = rw (lt-ltb _ _ h)
joined-clause {σ} {room} (entry_bad before after e l q f h) = rw (le-ltb _ _ l, q, past before (e ∷ after) _ f) (shape-clause _ _ _ h)
joined-clause {σ} {room} (bytes_over l f h) = rw (le-ltb _ _ l, past_all σ _ f, lt-ltb _ _ h)
joined-clause {σ} {room} (sheet_no_room l f m h) = rw (le-ltb _ _ l, past_all σ _ f, le-ltb _ _ m) (room-lacks room _ h)

-- An answer is a refusal exactly by R, where R holds of its refusals and gives each of them.
pub exactly : {n p : ℕ} (R : ℕ → ℕ → Type 0) {a : Answer} → Ordered R a → (R n p → a ≡ refused n p) → (a ≡ refused n p) ↔ R n p
exactly R o k = (λ e. rw e at o, k)

module _ (template sheet : List ℕ) (room : ℕ) where
  -- Each clause gives its refusal.
  fill-clause : {n p : ℕ} → FillRefuses template sheet room n p → fill_answer template sheet room ≡ refused n p
  unfolding fill_answer onto
  fill-clause (template_bad h) = rw h
  fill-clause (sheet_bad h g) = rw (h, g)
  fill-clause (filled_bad h g m) = rw (h, g) (made-clause m)

  -- What a fill answers is a refusal exactly by its clauses.
  pub fill-order : (n p : ℕ) → (fill_answer template sheet room ≡ refused n p) ↔ FillRefuses template sheet room n p
  unfolding fill_answer
  fill-order n p = exactly (FillRefuses template sheet room) (
      onto-ordered _ (reading template) _ (λ n p. template_bad) λ t v h.
      sheet-ordered _ sheet_broken sheet _ (λ p. sheet_bad h) λ σ w g.
      one-ordered _ (fill σ t) room (λ n p. filled_bad h g)) fill-clause

module _ (first second : List ℕ) (room : ℕ) where
  -- Each clause gives its refusal.
  join-clause : {n p : ℕ} → JoinRefuses first second room n p → join_answer first second room ≡ refused n p
  unfolding join_answer onto
  join-clause (first_bad h) = rw h
  join-clause (second_bad h g) = rw (h, g)
  join-clause (joined_bad h g m) = rw (h, g) (joined-clause m)

  -- What a joining answers is a refusal exactly by its clauses.
  pub join-order : (n p : ℕ) → (join_answer first second room ≡ refused n p) ↔ JoinRefuses first second room n p
  unfolding join_answer
  join-order n p = exactly (JoinRefuses first second room) (
      sheet-ordered _ sheet_broken first _ (λ p. first_bad) λ σ v h.
      sheet-ordered _ second_broken second _ (λ p. second_bad h) λ τ w g.
      joined-ordered _ (join σ τ) room (λ n p. joined_bad h g)) join-clause

module _ (table : List ℕ) (room : ℕ) where
  -- Each clause gives its refusal.
  write-clause : {n p : ℕ} → WriteRefuses table room n p → write_answer table room ≡ refused n p
  unfolding write_answer onto
  write-clause (table_bad h) = rw h
  write-clause (root_bad h m) = rw h (made-clause m)

  -- What a writing answers is a refusal exactly by its clauses.
  pub write-order : (n p : ℕ) → (write_answer table room ≡ refused n p) ↔ WriteRefuses table room n p
  unfolding write_answer
  write-order n p = exactly (WriteRefuses table room) (
      onto-ordered _ (read_table table) _ (λ n p. table_bad) λ T v h.
      one-ordered _ (table_shape T) room (λ n p. root_bad h)) write-clause

module _ (bytes : List ℕ) (room : ℕ) where
  -- Each clause gives its refusal.
  table-clause : {n p : ℕ} → TableRefuses bytes room n p → table_answer bytes room ≡ refused n p
  unfolding table_answer onto
  table-clause (bytes_bad h) = rw h
  table-clause (table_no_room h l) = rw h (room-lacks room _ l)

  -- What a way back answers is a refusal exactly by its clauses.
  pub table-order : (n p : ℕ) → (table_answer bytes room ≡ refused n p) ↔ TableRefuses bytes room n p
  unfolding table_answer
  table-order n p = exactly (TableRefuses bytes room) (
      onto-ordered _ (reading bytes) _ (λ n p. bytes_bad) λ s v h.
      room-ordered _ room _ (table_no_room h)) table-clause

-- `child` and `name` as an answer: a refusal, or no bytes
unfoldable pub part_answer : {A : Type 0} → (Shape → List A) → Reading Shape → ℕ → Answer
part_answer parts x k =
    onto x λ s.
    ltb k (length (parts s)) ⇒ answered [] ∣ λ _.
    refused no_such_part (length (parts s))

module _ {A : Type 0} (parts : Shape → List A) (bytes : List ℕ) (k : ℕ) where
  -- Each clause gives its refusal.
  part-clause : {n p : ℕ} → PartRefuses parts bytes k n p → part_answer parts (reading bytes) k ≡ refused n p
  unfolding part_answer onto
  part-clause (encoding_bad h) = rw h
  part-clause (no_part h l) = rw (h, le-ltb _ _ l)

  -- What is answered for a part is a refusal exactly by its clauses.
  pub part-order : (n p : ℕ) → (part_answer parts (reading bytes) k ≡ refused n p) ↔ PartRefuses parts bytes k n p
  unfolding part_answer
  part-order n p = exactly (PartRefuses parts bytes k) (
      onto-ordered _ (reading bytes) _ (λ n p. encoding_bad) λ s v h.
      rule (Ordered (PartRefuses parts bytes k)) (ltb k (length (parts s))) _ _ (λ _. tt) (λ t. no_part h (ltb-false _ _ t))) part-clause
