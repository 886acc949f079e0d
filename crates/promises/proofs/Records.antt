-- The laws behind the demands, over `write_records`.
--     records-same            the outcome is that of `write` on the same table in bytes
--     records-refuses         it refuses with number n at the place p exactly when a clause of specs/Order.antt gives these
--     records-numbers         such a number is one of the writer's
--     records-kept            after a refusal the lent buffer equals its entry
--     records-front           after an answer of n bytes only its first n differ
--     RecordsWrote, records-made, records-in     what it makes: what the same table in bytes is written to
-- Assumes nothing.
use Prim.Native.Nat.{ℕ, ◌≤◌, ◌<◌}
use mathlib.Core.Path.{◌≡◌, refl, ◌∙◌}
use mathlib.Core.List.Memᴰ.{head as here}
use mathlib.Core.List.{List, [], ◌∷◌, ◌++◌, map, Memᴰ as OneOf}
use mathlib.Core.Logic.{◌↔◌}
use native.Mathlib.Omega.{arith}
use lib.Dec.{ltb}
use lib.ListN.{length, take}
use borrow.Author.Tests.{ltb-true, ltb-false, lt-ltb, le-ltb}
use Rattle.meaning.specs.Limits.{max_nodes}
use Rattle.meaning.specs.Refusals.{section_broken, node_broken, name_broken, made_too_deep, made_too_long, buffer_short}
use Rattle.meaning.specs.Within.{Bytes}
use Rattle.meaning.specs.Table.{nodes_bytes}
use Rattle.meaning.specs.TableReading.{NodesFit}
use Rattle.meaning.specs.Answers.{Answer, answered, refused, in_room, write_answer}
use Rattle.meaning.proofs.Rules.{rule}
use Rattle.meaning.proofs.Window.{bytes-append}
use Rattle.meaning.proofs.Answers.{not-answered}
use Rattle.meaning.proofs.TableBytes.{nodes-small, counted-small}
use Rattle.meaning.proofs.TableAnswers.{Wrote, write-answered, write-fits}
use Rattle.editor.specs.declared.Node.{Node}
use Rattle.editor.specs.Records.{meant, same_table, records_answer}
use Rattle.std.specs.Prelude.{Ok, Err}
use Rattle.leaves.specs.declared.refusals.Refusal.{Refusal}
use Rattle.board.proofs.Small.{records-told}
use Rattle.promises.specs.Order.{RecordsRefuses, no_records, many_records, same_bad, Refused}
use Rattle.promises.specs.Told.{FrontOnly}
use Rattle.promises.proofs.Calls.{Made, Write, WriteRecords}
use Rattle.promises.proofs.Says.{write-says, records-says}
use Rattle.promises.proofs.Once.{agree-both}
use Rattle.promises.proofs.Ordered.{Ordered, exactly, write-order}
use Rattle.promises.proofs.Refusing.{made-refuses, made_kept, made-front, write-numbers}
use Rattle.promises.proofs.Front.{front-is, wrote-in}

-- R holds of an answer's refusals, where it does of each refusal that the answer is.
ordered : {R : ℕ → ℕ → Type 0} (a : Answer) → ((n p : ℕ) → a ≡ refused n p → R n p) → Ordered R a
ordered (answered w) k = tt
ordered (refused n p) k = k n p refl

module _ (nodes : List Node) (rest : List ℕ) (room : ℕ) where
  -- Records that a table can have are answered as the same table in bytes; without any, or with too many, it is 9 at 0.
  few-answer : 1 ≤ length nodes → length nodes ≤ max_nodes → records_answer nodes rest room ≡ write_answer (same_table nodes rest) room
  unfolding records_answer
  few-answer some few = rw (le-ltb (length nodes) 1 some, le-ltb max_nodes (length nodes) few) refl

  none-answer : length nodes < 1 → records_answer nodes rest room ≡ refused section_broken 0
  unfolding records_answer
  none-answer h = rw (lt-ltb (length nodes) 1 h) refl

  many-answer : max_nodes < length nodes → records_answer nodes rest room ≡ refused section_broken 0
  unfolding records_answer
  many-answer h = rw (le-ltb (length nodes) 1 (omega arith), lt-ltb max_nodes (length nodes) h) refl

  -- By how many there are.
  by_count : (P : Answer → Type 0) → (length nodes < 1 → P (refused section_broken 0)) → (max_nodes < length nodes → P (refused section_broken 0))
      → (1 ≤ length nodes → length nodes ≤ max_nodes → P (write_answer (same_table nodes rest) room)) → P (records_answer nodes rest room)
  unfolding records_answer
  by_count P none many few =
      rule P (ltb (length nodes) 1) _ _ (λ e. none (ltb-true (length nodes) 1 e)) λ e.
      rule P (ltb max_nodes (length nodes)) _ _ (λ f. many (ltb-true max_nodes (length nodes) f)) λ f.
      few (ltb-false (length nodes) 1 e) (ltb-false max_nodes (length nodes) f)

  -- Each clause gives its refusal.
  records-clause : {n p : ℕ} → RecordsRefuses nodes rest room n p → records_answer nodes rest room ≡ refused n p
  records-clause (no_records h) = none-answer h
  records-clause (many_records h) = many-answer h
  records-clause {n} {p} (same_bad some few h) = few-answer some few ∙ (write-order (same_table nodes rest) room n p).1 h

  -- What is answered is a refusal exactly by its clauses.
  records-order : (n p : ℕ) → (records_answer nodes rest room ≡ refused n p) ↔ RecordsRefuses nodes rest room n p
  records-order n p = exactly R (by_count (Ordered R) no_records many_records λ some few. ordered _ (λ n p e. same_bad some few ((write-order (same_table nodes rest) room n p).0 e))) records-clause
    where
      R : ℕ → ℕ → Type 0
      R = RecordsRefuses nodes rest room

  -- An answer has the room.
  records-fits : (w : List ℕ) → records_answer nodes rest room ≡ answered w → length w ≤ room
  records-fits w = by_count (λ a. a ≡ answered w → length w ≤ room) (λ _ e. absurd (not-answered e)) (λ _ e. absurd (not-answered e)) (λ _ _. write-fits (same_table nodes rest) room w)

module _ {nodes : List Node} {rest before : List ℕ} where
  pub records-same : {r r' : Made} {after after' : List ℕ} → WriteRecords nodes rest before r after → Write (same_table nodes rest) before r' after' → 1 ≤ length nodes → length nodes ≤ max_nodes
      → (r ≡ r') × (after ≡ after')
  records-same p q some few = agree-both (rw (few-answer nodes rest (length before) some few) at (records-says p)) (write-says q)

  -- It refuses exactly by its clauses.
  pub records-refuses : {r : Made} {after : List ℕ} → WriteRecords nodes rest before r after → (n p : ℕ) → Refused r n p ↔ RecordsRefuses nodes rest (length before) n p
  records-refuses c = made-refuses (records-says c).0 (records-told nodes rest (length before)) (records-order nodes rest (length before))

  -- After a refusal the lent buffer equals its entry; after an answer of n bytes only its first n differ.
  pub records-kept : {e : Refusal} {after : List ℕ} → WriteRecords nodes rest before (Err e) after → after ≡ before
  records-kept c = made_kept _ (records-says c)

  pub records-front : {n : ℕ} {after : List ℕ} → WriteRecords nodes rest before (Ok n) after → FrontOnly n before after
  records-front c = made-front before _ (records-fits nodes rest (length before)) (records-says c)

-- Its numbers are those of `write`: 9 to 11, 15, 16, 12.
pub records-numbers : {nodes : List Node} {rest : List ℕ} {room n p : ℕ} → RecordsRefuses nodes rest room n p → OneOf n (section_broken ∷ node_broken ∷ name_broken ∷ made_too_deep ∷ made_too_long ∷ buffer_short ∷ [])
records-numbers (no_records h) = here refl
records-numbers (many_records h) = here refl
records-numbers (same_bad some few h) = write-numbers h

-- The same table in bytes is bytes.
same-table-small : (nodes : List Node) (rest : List ℕ) → length nodes ≤ max_nodes → NodesFit (map meant nodes) × Bytes rest → Bytes (same_table nodes rest)
same-table-small nodes rest few b = counted-small (length nodes) (nodes_bytes (map meant nodes) ++ rest) (omega arith) (bytes-append (nodes_bytes (map meant nodes)) rest (nodes-small (map meant nodes) b.0) b.1)

-- the records are a table's, and w is what the same table in bytes is written to
pub record RecordsWrote (nodes : List Node) (rest w : List ℕ) : Type 0 where
  pub some : 1 ≤ length nodes
  pub few : length nodes ≤ max_nodes
  pub wrote : Wrote (same_table nodes rest) w

-- `write_records` made what the records mean,
pub records-made : {nodes : List Node} {rest before after : List ℕ} {n : ℕ} → WriteRecords nodes rest before (Ok n) after → RecordsWrote nodes rest (take n after)
records-made {nodes} {rest} {before} {after} {n} c =
    by_count nodes rest (length before) (λ a. a ≡ answered (take n after) → RecordsWrote nodes rest (take n after)) (λ _ e. absurd (not-answered e)) (λ _ e. absurd (not-answered e))
    (λ some few h. record { some = some; few = few; wrote = write-answered (same_table nodes rest) (length before) _ (same-table-small nodes rest few c.small) h })
    (front-is _ before (records-says c)).0

-- and makes it in any room that there is for it; else 12 has its length.
pub records-in : {nodes : List Node} {rest w : List ℕ} → RecordsWrote nodes rest w → (room : ℕ) → records_answer nodes rest room ≡ in_room room w
records-in f room = few-answer _ _ room f.some f.few ∙ wrote-in f.wrote room
