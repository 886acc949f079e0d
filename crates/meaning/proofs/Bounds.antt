-- What the answers of fill and join carry is small, for any input.
--     Small                      a refusal's number is no more than the paper's last; its place, and the length of an answer, are no more than the longest
--                                table has bytes
--     Told                       besides, a refusal's number is not 0: it is one of the paper's
--     told-small                 what is told is small
--     fill-told, join-told       so for any input
--     fill-small, join-small     so it is small
--     onto-told, room-told, made-told        what is to be shown of each step
--     onto-small, room_small, made-small     the same where only that it is small is to be shown
-- Assumes nothing.
use Prim.Native.Nat.{ℕ, suc, ◌+◌, ◌*◌, ◌≤◌, ◌<◌}
use mathlib.Core.Path.{◌≡◌, refl}
use mathlib.Core.List.{List, [], ◌∷◌}
use native.Mathlib.Omega.{arith}
use lib.Dec.{ltb, eqb}
use lib.ListN.{length, length-append}
use borrow.Author.Tests.{ltb-false}
use Rattle.meaning.specs.Limits.{max_bytes, max_levels, max_entries, max_encodings}
use Rattle.meaning.specs.Refusals.{sheet_broken, second_broken, made_too_deep, made_too_long, no_such_part}
use Rattle.meaning.specs.Shape.{Shape, depth}
use Rattle.meaning.specs.Encode.{encode}
use Rattle.meaning.specs.Within.{Bytes}
use Rattle.meaning.specs.Reading.{Reading, got, bad, reading}
use Rattle.meaning.specs.Numbered.{Numbered, All, put, over, each}
use Rattle.meaning.specs.Sheet.{Sheet, fill, join, encodings, SheetWithin}
use Rattle.meaning.specs.SheetReading.{read_sheet}
use Rattle.meaning.specs.Answers.{Answer, answered, refused, onto, in_room, made, all_made, made_sheet, fill_answer, join_answer}
use Rattle.meaning.proofs.Rules.{rule}
use Rattle.meaning.proofs.Faults.{refusal-small}
use Rattle.meaning.proofs.Numbered.{each-length}
use Rattle.meaning.proofs.Join.{ProperEntry, join-proper}
use Rattle.meaning.proofs.SheetBytes.{sheet-read, sheet-length, sheet-refusal}
use Rattle.meaning.proofs.TableBytes.{longest_table}
use Rattle.meaning.proofs.Answers.{proper-entries}

-- the largest place: the end of the longest table. A blank's number is below it, and so are 32 encodings together
abbrev pub farthest : ℕ
farthest = longest_table

-- an answer that carries small numbers
abbrev pub Small : Answer → Type 0
Small (answered w) = length w ≤ farthest
Small (refused number place) = (number ≤ no_such_part) × (place ≤ farthest)

-- an answer that carries small numbers, and a refusal's is not 0
abbrev pub Told : Answer → Type 0
Told (answered w) = length w ≤ farthest
Told (refused number place) = (0 < number) × (number ≤ no_such_part) × (place ≤ farthest)

-- What is told is small.
pub told-small : (a : Answer) → Told a → Small a
told-small (answered w) h = h
told-small (refused number place) h = (h.1, h.2)

-- What was read is handed on: P holds of it that holds of what follows, and of a refusal of reading.
onto-each : (P : Answer → Type 0) {A : Type 0} (r : Reading A) (f : A → Answer) → ((a : A) (w : List ℕ) → r ≡ got a w → P (f a)) → ((n p : ℕ) → r ≡ bad n p → P (refused n p)) → P (onto r f)
unfolding onto
onto-each P (got a w) f h k = h a w refl
onto-each P (bad n p) f h k = k n p refl

-- So a refusal of reading has to be told, or small.
pub onto-told : {A : Type 0} (r : Reading A) (f : A → Answer) → ((a : A) (w : List ℕ) → r ≡ got a w → Told (f a)) → ((n p : ℕ) → r ≡ bad n p → Told (refused n p)) → Told (onto r f)
onto-told = onto-each Told

pub onto-small : {A : Type 0} (r : Reading A) (f : A → Answer) → ((a : A) (w : List ℕ) → r ≡ got a w → Small (f a)) → ((n p : ℕ) → r ≡ bad n p → Small (refused n p)) → Small (onto r f)
onto-small = onto-each Small

-- An answer in its room is told, where it is short, and small.
pub room-told : (room : ℕ) (w : List ℕ) → length w ≤ farthest → Told (in_room room w)
unfolding in_room
room-told room w h = rule Told (ltb room (length w)) _ _ (λ _. (omega arith, omega arith, omega arith)) (λ _. h)

pub room_small : (room : ℕ) (w : List ℕ) → length w ≤ farthest → Small (in_room room w)
room_small room w h = told-small _ (room-told room w h)

-- A made shape is refused at p, or is short.
made-each : (P : Answer → Type 0) (p : ℕ) (s : Shape) (a : Answer) → P (refused made_too_deep p) → P (refused made_too_long p) → (length (encode s) ≤ max_bytes → P a) → P (made p s a)
unfolding made
made-each P p s a d l k = rule P (ltb max_levels (depth s)) _ _ (λ _. d) λ _. rule P (ltb max_bytes (length (encode s))) _ _ (λ _. l) λ q. k (ltb-false _ _ q)

-- So it is told, and small, at a small place.
pub made-told : (p : ℕ) (s : Shape) (a : Answer) → p ≤ farthest → (length (encode s) ≤ max_bytes → Told a) → Told (made p s a)
made-told p s a h = made-each Told p s a (omega arith, omega arith, h) (omega arith, omega arith, h)

pub made-small : (p : ℕ) (s : Shape) (a : Answer) → p ≤ farthest → (length (encode s) ≤ max_bytes → Small a) → Small (made p s a)
made-small p s a h = made-each Small p s a (omega arith, h) (omega arith, h)

-- Whatever bytes come, and whatever the room: what a fill answers is told, and small.
pub fill-told : (template sheet : List ℕ) (room : ℕ) → Told (fill_answer template sheet room)
unfolding fill_answer
fill-told template sheet room =
    onto-told (reading template) _
    (λ t w p. onto-told (read_sheet sheet_broken sheet) _
    (λ σ v q. made-told 0 (fill σ t) _ (omega arith) (λ h. room-told room _ (omega arith)))
    (λ n p q. let f = sheet-refusal sheet_broken sheet n p q in (omega (arith, f.0), omega (arith, f.0), omega (arith, f.1))))
    (λ n p q. let f = refusal-small template n p q in (omega (arith, f.some), omega arith, omega arith))

pub fill-small : (template sheet : List ℕ) (room : ℕ) → Small (fill_answer template sheet room)
fill-small template sheet room = told-small _ (fill-told template sheet room)

-- With an item put in, a list has one item more at most.
put-length : {A : Type 0} (d : Numbered A) (es : List (Numbered A)) → length (put d es) ≤ suc (length es)
unfolding put
put-length {A} d [] = omega arith
put-length {A} d (e ∷ es) =
    rule (λ (l : List (Numbered A)). length l ≤ suc (suc (length es))) (ltb d.number e.number) (d ∷ e ∷ es) _ (λ _. omega arith) λ _.
    rule (λ (l : List (Numbered A)). length l ≤ suc (suc (length es))) (eqb d.number e.number) (d ∷ es) _ (λ _. omega arith) λ _.
    omega (arith, put-length d es)

-- A list laid over another has no more items than both.
over-length : {A : Type 0} (σ τ : List (Numbered A)) → length (over σ τ) ≤ length σ + length τ
unfolding over
over-length [] τ = omega arith
over-length (d ∷ ds) τ = omega (arith, put-length d (over ds τ), over-length ds τ)

-- Made shapes are refused at the numbers of their blanks, or are short together.
all-told : (σ : Sheet) (a : Answer) → All ProperEntry σ → (length (encodings σ) ≤ max_bytes * length σ → Told a) → Told (all_made σ a)
unfolding all_made encodings All
all-told [] a p k = k (omega arith)
all-told (e ∷ es) a p k =
    made-told e.number e.item _ (omega (arith, p.0.0)) λ h.
    all-told es a p.1 λ l.
    k (rw length-append (omega arith))

-- So is what a joining answers.
pub join-told : (first second : List ℕ) (room : ℕ) → Bytes first → Bytes second → Told (join_answer first second room)
unfolding join_answer made_sheet
join-told first second room b c =
    onto-told (read_sheet sheet_broken first) _
    (λ σ w p. onto-told (read_sheet second_broken second) _
    (λ τ v q. joined σ τ (sheet-read sheet_broken first σ w b p).1 (sheet-read second_broken second τ v c q).1)
    (λ n p q. let f = sheet-refusal second_broken second n p q in (omega (arith, f.0), omega (arith, f.0), omega (arith, f.1))))
    (λ n p q. let f = sheet-refusal sheet_broken first n p q in (omega (arith, f.0), omega (arith, f.0), omega (arith, f.1)))
  where
    joined : (σ τ : Sheet) → SheetWithin σ → SheetWithin τ → Told (made_sheet room (join σ τ))
    joined σ τ h k =
        let n = over-length (each (fill τ) σ) τ in
        rule Told (ltb max_entries (length (join σ τ))) _ _ (λ _. (omega arith, omega arith, omega (arith, each-length (fill τ) σ, h.few, k.few))) λ p.
        all-told (join σ τ) _ (join-proper σ τ (proper-entries σ h) (proper-entries τ k)) λ l.
        let m = ltb-false max_entries (length (join σ τ)) p in
        rule Told (ltb max_encodings (length (encodings (join σ τ)))) _ _ (λ _. (omega arith, omega arith, omega arith)) λ q.
        room-told room _ (omega (arith, sheet-length (join σ τ), ltb-false max_encodings (length (encodings (join σ τ))) q))

pub join-small : (first second : List ℕ) (room : ℕ) → Bytes first → Bytes second → Small (join_answer first second room)
join-small first second room b c = told-small _ (join-told first second room b c)
