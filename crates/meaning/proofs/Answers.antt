-- What fill and join answer.
--     fill-answered, join-answered     when they answer, and with what
--     fill-room, join-room             where all is within the limits they answer, or refuse for want of room alone
--     fill-answers, join-answers       they do answer then, where the lent buffer has the room
--     fill-short, join-short           they refuse with 12 then, where it has not
--     two-fills                        two fills are one fill with the joined sheet
--     other-pairing, first-pairing, three-joins     three sheets are joined alike however they are paired
--     one-joining                      whatever the room, two sheets are joined to the same bytes
--     fill-by-empty, join-empty-first, join-empty-second     the empty sheet changes no shape and no sheet
--     fill-fits, join-fits             an answer is no longer than the lent buffer
--     buffer-front, buffer-rest, buffer-kept, buffer-length     what the lent buffer holds afterwards
--     fill-needs, join-needs           the length that 12 carries is needed, and enough
--     not-answered, by-onto, made-answered, room-answered     what is answered, taken apart
--     by_read, by-made, room-refused            what is refused with 12, taken apart
--     made-fits, room-enough, room-lacks        what is answered or refused
-- Assumes nothing.
use Prim.Native.Nat.{ℕ, ◌≤◌, ◌<◌, zero-le}
use mathlib.Core.Path.{◌≡◌, refl, sym, ◌∙◌, ap}
use mathlib.Core.Bool.{Bool, true, false}
use mathlib.Core.List.{List, [], ◌∷◌}
use native.Mathlib.Omega.{arith}
use lib.Dec.{ltb}
use lib.ListN.{length, take, drop, length-append, length-drop}
use lib.Seq.{take-append_seam, drop-append_seam}
use borrow.Author.Tests.{ltb-true, ltb-false, lt-ltb, le-ltb}
use Rattle.meaning.specs.Rules.{◌⇒◌∣◌}
use Rattle.meaning.specs.Limits.{max_bytes, max_levels, max_entries, max_encodings}
use Rattle.meaning.specs.Refusals.{buffer_short, sheet_broken, second_broken}
use Rattle.meaning.specs.Shape.{Shape, depth}
use Rattle.meaning.specs.Encode.{encode}
use Rattle.meaning.specs.Within.{Bytes, Within}
use Rattle.meaning.specs.Reading.{Reading, got, bad, reading}
use Rattle.meaning.specs.Numbered.{Numbered, RisingFrom, All}
use Rattle.meaning.specs.Sheet.{Sheet, fill, join, encodings, sheet_bytes, EntryWithin, SheetWithin}
use Rattle.meaning.specs.SheetReading.{read_sheet}
use Rattle.meaning.specs.Answers.{Answer, answered, refused, onto, in_room, made, all_made, made_sheet, fill_answer, join_answer, buffer_after}
use Rattle.meaning.proofs.Rules.{rule}
use Rattle.meaning.proofs.Laws.{reading-encode, encode-reading, same_bytes, within}
use Rattle.meaning.proofs.Faults.{refusal-small}
use Rattle.meaning.proofs.Numbered.{all_map}
use Rattle.meaning.proofs.Join.{ProperEntry, fill-join, fill-empty, fill-proper, join-rising, join-proper, join-assoc, empty-join, join-empty}
use Rattle.meaning.proofs.SheetBytes.{read-sheet, sheet-read, same-sheet-bytes, sheet-small, sheet-refusal}

-- A refusal is no answer.
pub not-answered : {n p : ℕ} {w : List ℕ} → refused n p ≡ answered w → ⊥
not-answered h = let z : ◌≡◌ {A = ℕ} 0 1 = cc in omega arith

-- One answer has one list of bytes.
same_answer : {v w : List ℕ} → answered v ≡ answered w → v ≡ w
same_answer h = cc

-- Where an answer follows from what was read, it was read.
pub by-onto : {A P : Type 0} {w : List ℕ} (r : Reading A) (f : A → Answer) → onto r f ≡ answered w → ((a : A) (v : List ℕ) → r ≡ got a v → f a ≡ answered w → P) → P
unfolding onto
by-onto (got a v) f h k = k a v refl h
by-onto (bad n p) f h k = absurd (not-answered h)

-- The rules below gave the answer, where the first refuses.
unless : {P : Type 0} {w : List ℕ} (t : Bool) (n p : ℕ) (rest : Unit {0} → Answer) → (t ⇒ refused n p ∣ rest) ≡ answered w → (t ≡ false → rest tt ≡ answered w → P) → P
unless true n p rest h k = absurd (not-answered h)
unless false n p rest h k = k refl h

-- What is answered has the room.
pub room-answered : (room : ℕ) (v w : List ℕ) → in_room room v ≡ answered w → (v ≡ w) × (length w ≤ room)
unfolding in_room
room-answered room v w h = unless (ltb room (length v)) _ _ _ h λ p q. let e : v ≡ w = same_answer q in (e, rw e at (ltb-false room (length v) p))

-- What has the room is answered.
pub room-enough : (room : ℕ) (w : List ℕ) → length w ≤ room → in_room room w ≡ answered w
unfolding in_room
room-enough room w h = rw (le-ltb room (length w) h)

-- What has not is refused with 12, and its length is the place.
pub room-lacks : (room : ℕ) (w : List ℕ) → room < length w → in_room room w ≡ refused buffer_short (length w)
unfolding in_room
room-lacks room w h = rw (lt-ltb room (length w) h)

-- A made shape after which something was answered is shallow and short.
pub made-answered : {P : Type 0} {w : List ℕ} (p : ℕ) (s : Shape) (a : Answer) → made p s a ≡ answered w → (depth s ≤ max_levels → length (encode s) ≤ max_bytes → a ≡ answered w → P) → P
unfolding made
made-answered p s a h k =
    unless (ltb max_levels (depth s)) _ _ _ h λ q h.
    unless (ltb max_bytes (length (encode s))) _ _ _ h λ r h.
    k (ltb-false _ _ q) (ltb-false _ _ r) h

-- A shallow and short shape is not refused.
pub made-fits : (p : ℕ) (s : Shape) (a : Answer) → depth s ≤ max_levels → length (encode s) ≤ max_bytes → made p s a ≡ a
unfolding made
made-fits p s a d l = rw (le-ltb max_levels (depth s) d, le-ltb max_bytes (length (encode s)) l)

-- an entry of a shallow and short shape
abbrev Fits : Numbered Shape → Type 0
Fits e = (depth e.item ≤ max_levels) × (length (encode e.item) ≤ max_bytes)

-- Made shapes after which something was answered are all shallow and short.
all_made_lem : {w : List ℕ} (σ : Sheet) (a : Answer) → all_made σ a ≡ answered w → All Fits σ × (a ≡ answered w)
unfolding all_made All
all_made_lem [] a h = (tt, h)
all_made_lem (e ∷ es) a h = made-answered e.number e.item (all_made es a) h λ d l h. let r = all_made_lem es a h in (((d, l), r.0), r.1)

-- Shallow and short shapes are not refused.
all_fit : (σ : Sheet) (a : Answer) → All Fits σ → all_made σ a ≡ a
unfolding all_made All
all_fit [] a f = refl
all_fit (e ∷ es) a f = made-fits e.number e.item (all_made es a) f.0.0 f.0.1 ∙ all_fit es a f.1

-- The entries of a sheet within the limits are proper.
pub proper-entries : (σ : Sheet) → SheetWithin σ → All ProperEntry σ
proper-entries σ h = all_map EntryWithin ProperEntry (λ e a. (a.small, a.within.proper)) σ h.all

-- So are they shallow and short.
fitting : (σ : Sheet) → SheetWithin σ → All Fits σ
fitting σ h = all_map EntryWithin Fits (λ e a. (a.within.shallow, a.within.short)) σ h.all

-- Entries that are proper, shallow and short are within the limits.
entries-within : (σ : Sheet) → All ProperEntry σ → All Fits σ → All EntryWithin σ
unfolding All
entries-within [] p f = tt
entries-within (e ∷ es) p f = (record { small = p.0.0; within = within e.item f.0.1 f.0.0 p.0.1 }, entries-within es p.1 f.1)

-- a fill that is answered: template and sheet are the bytes of a shape and a sheet, all within the limits, and the answer is the filled shape's
pub record Filled (template sheet w : List ℕ) : Type 0 where
  pub t : Shape
  pub σ : Sheet
  pub t-is : template ≡ encode t
  pub σ-is : sheet ≡ sheet_bytes σ
  pub t_within : Within t
  pub σ-within : SheetWithin σ
  pub made-within : Within (fill σ t)
  pub is : w ≡ encode (fill σ t)

-- When a fill is answered, and with what.
pub fill-answered : (template sheet : List ℕ) (room : ℕ) (w : List ℕ) → Bytes template → Bytes sheet → fill_answer template sheet room ≡ answered w → Filled template sheet w
unfolding fill_answer
fill-answered template sheet room w b c h =
    by-onto (reading template) _ h λ t v p h.
    by-onto (read_sheet sheet_broken sheet) _ h λ σ v' q h.
    made-answered 0 (fill σ t) _ h λ d l h.
    let e = encode-reading template t v b p in
    let f = sheet-read sheet_broken sheet σ v' c q in
    record {
      t = t;
      σ = σ;
      t-is = e.0;
      σ-is = f.0;
      t_within = e.1;
      σ-within = f.1;
      made-within = within (fill σ t) l d (fill-proper σ t (proper-entries σ f.1) e.1.proper);
      is = sym (room-answered room _ w h).0;
    }

-- A fill where all is within the limits is answered with the filled shape, or refused for want of room alone.
pub fill-room : (t : Shape) (σ : Sheet) (room : ℕ) → Within t → SheetWithin σ → Within (fill σ t) → fill_answer (encode t) (sheet_bytes σ) room ≡ in_room room (encode (fill σ t))
unfolding fill_answer onto
fill-room t σ room a b c = rw (reading-encode t a, read-sheet sheet_broken σ b) (made-fits 0 (fill σ t) _ c.shallow c.short)

-- A fill is answered, with the filled shape, where all is within the limits and the lent buffer has the room.
pub fill-answers : (t : Shape) (σ : Sheet) (room : ℕ) → Within t → SheetWithin σ → Within (fill σ t) → length (encode (fill σ t)) ≤ room → fill_answer (encode t) (sheet_bytes σ) room ≡ answered (encode (fill σ t))
fill-answers t σ room a b c r = fill-room t σ room a b c ∙ room-enough room _ r

-- It is refused with 12 and the filled shape's length, where all is within the limits and the lent buffer has not the room.
pub fill-short : (t : Shape) (σ : Sheet) (room : ℕ) → Within t → SheetWithin σ → Within (fill σ t) → room < length (encode (fill σ t)) → fill_answer (encode t) (sheet_bytes σ) room ≡ refused buffer_short (length (encode (fill σ t)))
fill-short t σ room a b c r = fill-room t σ room a b c ∙ room-lacks room _ r

-- a joining that is answered: both are the bytes of sheets, all within the limits, and the answer is the joined sheet's
pub record Joined (first second w : List ℕ) : Type 0 where
  pub σ : Sheet
  pub τ : Sheet
  pub σ-is : first ≡ sheet_bytes σ
  pub τ-is : second ≡ sheet_bytes τ
  pub σ-within : SheetWithin σ
  pub τ-within : SheetWithin τ
  pub made-within : SheetWithin (join σ τ)
  pub is : w ≡ sheet_bytes (join σ τ)

-- When a joining is answered, and with what.
pub join-answered : (first second : List ℕ) (room : ℕ) (w : List ℕ) → Bytes first → Bytes second → join_answer first second room ≡ answered w → Joined first second w
unfolding join_answer made_sheet
join-answered first second room w b c h =
    by-onto (read_sheet sheet_broken first) _ h λ σ v p h.
    by-onto (read_sheet second_broken second) _ h λ τ v' q h.
    unless (ltb max_entries (length (join σ τ))) _ _ _ h λ x h.
    let e = sheet-read sheet_broken first σ v b p in
    let f = sheet-read second_broken second τ v' c q in
    let m = all_made_lem (join σ τ) _ h in
    unless (ltb max_encodings (length (encodings (join σ τ)))) _ _ _ m.1 λ y h.
    record {
      σ = σ;
      τ = τ;
      σ-is = e.0;
      τ-is = f.0;
      σ-within = e.1;
      τ-within = f.1;
      made-within = record {
        rising = join-rising σ τ e.1.rising f.1.rising;
        few = ltb-false _ _ x;
        short = ltb-false _ _ y;
        all = entries-within (join σ τ) (join-proper σ τ (proper-entries σ e.1) (proper-entries τ f.1)) m.0;
      };
      is = sym (room-answered room _ w h).0;
    }

-- A joining where all is within the limits is answered with the joined sheet, or refused for want of room alone.
pub join-room : (σ τ : Sheet) (room : ℕ) → SheetWithin σ → SheetWithin τ → SheetWithin (join σ τ) → join_answer (sheet_bytes σ) (sheet_bytes τ) room ≡ in_room room (sheet_bytes (join σ τ))
unfolding join_answer made_sheet onto
join-room σ τ room a b c =
    rw (read-sheet sheet_broken σ a, read-sheet second_broken τ b, le-ltb max_entries (length (join σ τ)) c.few, all_fit (join σ τ) _ (fitting (join σ τ) c), le-ltb max_encodings (length (encodings (join σ τ))) c.short)

-- A joining is answered, with the joined sheet, where all is within the limits and the lent buffer has the room.
pub join-answers : (σ τ : Sheet) (room : ℕ) → SheetWithin σ → SheetWithin τ → SheetWithin (join σ τ) → length (sheet_bytes (join σ τ)) ≤ room → join_answer (sheet_bytes σ) (sheet_bytes τ) room ≡ answered (sheet_bytes (join σ τ))
join-answers σ τ room a b c r = join-room σ τ room a b c ∙ room-enough room _ r

-- It is refused with 12 and the joined sheet's length, where all is within the limits and the lent buffer has not the room.
pub join-short : (σ τ : Sheet) (room : ℕ) → SheetWithin σ → SheetWithin τ → SheetWithin (join σ τ) → room < length (sheet_bytes (join σ τ)) → join_answer (sheet_bytes σ) (sheet_bytes τ) room ≡ refused buffer_short (length (sheet_bytes (join σ τ)))
join-short σ τ room a b c r = join-room σ τ room a b c ∙ room-lacks room _ r

-- Two fills are one fill with the joined sheet: where the first fill, the second and the joining are answered, it is answered with the bytes of
-- the second fill, given the room.
pub two-fills : (template first second : List ℕ) (r₁ r₂ r₃ room : ℕ) (w₁ w₂ w₃ : List ℕ) → Bytes template → Bytes first → Bytes second
    → fill_answer template first r₁ ≡ answered w₁
    → fill_answer w₁ second r₂ ≡ answered w₂
    → join_answer first second r₃ ≡ answered w₃
    → length w₂ ≤ room
    → fill_answer template w₃ room ≡ answered w₂
two-fills template first second r₁ r₂ r₃ room w₁ w₂ w₃ bt b₁ b₂ h₁ h₂ h₃ r =
    rw (f₁.t-is, j.is) (fill-answers f₁.t (join j.σ j.τ) room f₁.t_within j.made-within (rw one f₂.made-within) (rw (one, ← f₂.is) r) ∙ rw (one, ← f₂.is))
  where
    f₁ : Filled template first w₁
    f₁ = fill-answered template first r₁ w₁ bt b₁ h₁

    f₂ : Filled w₁ second w₂
    f₂ = fill-answered w₁ second r₂ w₂ (rw f₁.is f₁.made-within.small) b₂ h₂

    j : Joined first second w₃
    j = join-answered first second r₃ w₃ b₁ b₂ h₃

    t_same : fill f₁.σ f₁.t ≡ f₂.t
    t_same = (same_bytes _ _ f₁.made-within f₂.t_within).0 (sym f₁.is ∙ f₂.t-is)

    σ-same : j.σ ≡ f₁.σ
    σ-same = same-sheet-bytes _ _ j.σ-within f₁.σ-within (sym j.σ-is ∙ f₁.σ-is)

    τ-same : j.τ ≡ f₂.σ
    τ-same = same-sheet-bytes _ _ j.τ-within f₂.σ-within (sym j.τ-is ∙ f₂.σ-is)

    one : fill (join j.σ j.τ) f₁.t ≡ fill f₂.σ f₂.t
    one = rw (fill-join j.σ j.τ f₁.t, σ-same, τ-same, t_same)

-- One list of bytes is of one sheet.
one-sheet : {σ τ : Sheet} {v : List ℕ} → SheetWithin σ → SheetWithin τ → v ≡ sheet_bytes σ → v ≡ sheet_bytes τ → σ ≡ τ
one-sheet h k p q = same-sheet-bytes _ _ h k (sym p ∙ q)

-- The other pairing of three sheets: where the first two, those with the third, and the last two are joined, the first is joined with the last
-- two to the same bytes, given the room.
pub other-pairing : (s₁ s₂ s₃ : List ℕ) (r₁ r₂ r₃ room : ℕ) (w₁₂ w₂₃ w : List ℕ) → Bytes s₁ → Bytes s₂ → Bytes s₃
    → join_answer s₁ s₂ r₁ ≡ answered w₁₂
    → join_answer w₁₂ s₃ r₂ ≡ answered w
    → join_answer s₂ s₃ r₃ ≡ answered w₂₃
    → length w ≤ room
    → join_answer s₁ w₂₃ room ≡ answered w
other-pairing s₁ s₂ s₃ r₁ r₂ r₃ room w₁₂ w₂₃ w b₁ b₂ b₃ h₁ h₂ h₃ r =
    rw (i.σ-is, k.is) (join-answers i.σ (join k.σ k.τ) room i.σ-within k.made-within (rw (← paired) a.made-within) (rw (← paired, ← a.is) r) ∙ rw (← paired, ← a.is))
  where
    i : Joined s₁ s₂ w₁₂
    i = join-answered s₁ s₂ r₁ w₁₂ b₁ b₂ h₁

    a : Joined w₁₂ s₃ w
    a = join-answered w₁₂ s₃ r₂ w (rw i.is (sheet-small _ i.made-within)) b₃ h₂

    k : Joined s₂ s₃ w₂₃
    k = join-answered s₂ s₃ r₃ w₂₃ b₂ b₃ h₃

    paired : join a.σ a.τ ≡ join i.σ (join k.σ k.τ)
    paired =
        rw (one-sheet a.σ-within i.made-within a.σ-is i.is, one-sheet k.σ-within i.τ-within k.σ-is i.τ-is, one-sheet k.τ-within a.τ-within k.τ-is a.τ-is)
        (join-assoc i.σ i.τ a.τ i.σ-within.rising i.τ-within.rising a.τ-within.rising)

-- The same the other way round: where the last two, the first with those, and the first two are joined, the first two joined with the third make the
-- same bytes.
pub first-pairing : {s₁ s₂ s₃ w₁₂ w₂₃ w : List ℕ} → Joined s₁ s₂ w₁₂ → Joined s₂ s₃ w₂₃ → Joined s₁ w₂₃ w → Joined w₁₂ s₃ w
first-pairing i k a = record {
  σ = join i.σ i.τ;
  τ = k.τ;
  σ-is = i.is;
  τ-is = k.τ-is;
  σ-within = i.made-within;
  τ-within = k.τ-within;
  made-within = rw paired a.made-within;
  is = a.is ∙ ap sheet_bytes (sym paired);
}
  where
    paired : join (join i.σ i.τ) k.τ ≡ join a.σ a.τ
    paired =
        rw (one-sheet a.σ-within i.σ-within a.σ-is i.σ-is, one-sheet a.τ-within k.made-within a.τ-is k.is, one-sheet k.σ-within i.τ-within k.σ-is i.τ-is)
        (join-assoc i.σ i.τ k.τ i.σ-within.rising i.τ-within.rising k.τ-within.rising)

-- Whatever the room, two sheets are joined to the same bytes.
pub one-joining : (first second : List ℕ) (r r' : ℕ) (w w' : List ℕ) → Bytes first → Bytes second → join_answer first second r ≡ answered w → join_answer first second r' ≡ answered w' → w ≡ w'
one-joining first second r r' w w' b c h k = i.is ∙ rw (one-sheet i.σ-within j.σ-within i.σ-is j.σ-is, one-sheet i.τ-within j.τ-within i.τ-is j.τ-is) (sym j.is)
  where
    i : Joined first second w
    i = join-answered first second r w b c h

    j : Joined first second w'
    j = join-answered first second r' w' b c k

-- Three sheets are joined alike however they are paired.
pub three-joins : (s₁ s₂ s₃ : List ℕ) (r₁ r₂ r₃ r₄ : ℕ) (w₁₂ w₂₃ w w' : List ℕ) → Bytes s₁ → Bytes s₂ → Bytes s₃
    → join_answer s₁ s₂ r₁ ≡ answered w₁₂
    → join_answer w₁₂ s₃ r₂ ≡ answered w
    → join_answer s₂ s₃ r₃ ≡ answered w₂₃
    → join_answer s₁ w₂₃ r₄ ≡ answered w'
    → w ≡ w'
three-joins s₁ s₂ s₃ r₁ r₂ r₃ r₄ w₁₂ w₂₃ w w' b₁ b₂ b₃ h₁ h₂ h₃ h₄ =
    let k = join-answered s₂ s₃ r₃ w₂₃ b₂ b₃ h₃ in
    one-joining s₁ w₂₃ (length w) r₄ w w' b₁ (rw k.is (sheet-small _ k.made-within)) (other-pairing s₁ s₂ s₃ r₁ r₂ r₃ (length w) w₁₂ w₂₃ w b₁ b₂ b₃ h₁ h₂ h₃ (omega arith)) h₄

-- The empty sheet is within the limits.
pub empty-within : SheetWithin []
unfolding RisingFrom All encodings
empty-within = record { rising = tt; few = zero-le; short = zero-le; all = tt }

-- The empty sheet changes no shape.
pub fill-by-empty : (t : Shape) (room : ℕ) → Within t → length (encode t) ≤ room → fill_answer (encode t) (sheet_bytes []) room ≡ answered (encode t)
fill-by-empty t room h r = fill-answers t [] room h empty-within (rw fill-empty h) (rw fill-empty r) ∙ rw fill-empty

-- It changes no sheet as the first.
pub join-empty-first : (σ : Sheet) (room : ℕ) → SheetWithin σ → length (sheet_bytes σ) ≤ room → join_answer (sheet_bytes []) (sheet_bytes σ) room ≡ answered (sheet_bytes σ)
join-empty-first σ room h r = join-answers [] σ room empty-within h (rw empty-join h) (rw empty-join r) ∙ rw empty-join

-- Nor does it as the second.
pub join-empty-second : (σ : Sheet) (room : ℕ) → SheetWithin σ → length (sheet_bytes σ) ≤ room → join_answer (sheet_bytes σ) (sheet_bytes []) room ≡ answered (sheet_bytes σ)
join-empty-second σ room h r =
    let e = join-empty σ h.rising in
    join-answers σ [] room h empty-within (rw e h) (rw e r) ∙ rw e

-- A filled shape is no longer than the lent buffer.
pub fill-fits : (template sheet : List ℕ) (room : ℕ) (w : List ℕ) → fill_answer template sheet room ≡ answered w → length w ≤ room
unfolding fill_answer
fill-fits template sheet room w h =
    by-onto (reading template) _ h λ t v p h.
    by-onto (read_sheet sheet_broken sheet) _ h λ σ v' q h.
    made-answered 0 (fill σ t) _ h λ d l h.
    (room-answered room _ w h).1

-- Nor is a joined sheet.
pub join-fits : (first second : List ℕ) (room : ℕ) (w : List ℕ) → join_answer first second room ≡ answered w → length w ≤ room
unfolding join_answer made_sheet
join-fits first second room w h =
    by-onto (read_sheet sheet_broken first) _ h λ σ v p h.
    by-onto (read_sheet second_broken second) _ h λ τ v' q h.
    unless (ltb max_entries (length (join σ τ))) _ _ _ h λ x h.
    unless (ltb max_encodings (length (encodings (join σ τ)))) _ _ _ (all_made_lem (join σ τ) _ h).1 λ y h.
    (room-answered room _ w h).1

-- After an answer of n bytes the first n of the lent buffer are the answer.
pub buffer-front : (buffer w : List ℕ) → take (length w) (buffer_after buffer (answered w)) ≡ w
unfolding buffer_after
buffer-front buffer w = take-append_seam w (drop (length w) buffer)

-- The rest is as it was.
pub buffer-rest : (buffer w : List ℕ) → drop (length w) (buffer_after buffer (answered w)) ≡ drop (length w) buffer
unfolding buffer_after
buffer-rest buffer w = drop-append_seam w (drop (length w) buffer)

-- After a refusal all is as it was.
pub buffer-kept : (buffer : List ℕ) (n p : ℕ) → buffer_after buffer (refused n p) ≡ buffer
unfolding buffer_after
buffer-kept buffer n p = refl

-- The lent buffer is as long as it was, whatever is answered that fits.
pub buffer-length : (buffer : List ℕ) (a : Answer) → ((w : List ℕ) → a ≡ answered w → length w ≤ length buffer) → length (buffer_after buffer a) ≡ length buffer
unfolding buffer_after
buffer-length buffer (answered w) h = let l = h w refl in rw (length-append, length-drop) (omega arith)
buffer-length buffer (refused n p) h = refl

-- what 12 says: n is the length of the answer, which the room lacks, and with n bytes of room or more there is this answer
pub record Needs (answer : ℕ → Answer) (room n : ℕ) : Type 0 where
  pub w : List ℕ
  pub long : length w ≡ n
  pub lacks : room < n
  pub answers : (r : ℕ) → n ≤ r → answer r ≡ answered w

-- A refusal has one number and one place.
same-refusal : {n p m q : ℕ} → refused n p ≡ refused m q → (n ≡ m) × (p ≡ q)
same-refusal h = (cc, cc)

-- A refusal of another number than 12 is not 12.
by-other : {P : Type 0} {n : ℕ} (t : Bool) (m q : ℕ) (rest : Unit {0} → Answer) → (m ≡ buffer_short → ⊥) → (t ⇒ refused m q ∣ rest) ≡ refused buffer_short n → (t ≡ false → rest tt ≡ refused buffer_short n → P) → P
by-other true m q rest o h k = absurd (o (same-refusal h).0)
by-other false m q rest o h k = k refl h

-- Where reading is never refused with 12, what follows it was.
pub by_read : {A P : Type 0} {n : ℕ} (r : Reading A) (f : A → Answer) → ((m q : ℕ) → r ≡ bad m q → m ≡ buffer_short → ⊥) → onto r f ≡ refused buffer_short n → ((a : A) (v : List ℕ) → r ≡ got a v → f a ≡ refused buffer_short n → P) → P
unfolding onto
by_read (got a v) f o h k = k a v refl h
by_read (bad m q) f o h k = absurd (o m q refl (same-refusal h).0)

-- Nor is a made shape refused with 12.
pub by-made : {P : Type 0} {n : ℕ} (p : ℕ) (s : Shape) (a : Answer) → made p s a ≡ refused buffer_short n → (depth s ≤ max_levels → length (encode s) ≤ max_bytes → a ≡ refused buffer_short n → P) → P
unfolding made
by-made p s a h k =
    by-other (ltb max_levels (depth s)) _ _ _ (λ e. omega arith) h λ q h.
    by-other (ltb max_bytes (length (encode s))) _ _ _ (λ e. omega arith) h λ r h.
    k (ltb-false _ _ q) (ltb-false _ _ r) h

-- Nor are made shapes.
by-all-made : {n : ℕ} (σ : Sheet) (a : Answer) → all_made σ a ≡ refused buffer_short n → All Fits σ × (a ≡ refused buffer_short n)
unfolding all_made All
by-all-made [] a h = (tt, h)
by-all-made (e ∷ es) a h = by-made e.number e.item (all_made es a) h λ d l h. let r = by-all-made es a h in (((d, l), r.0), r.1)

-- What is refused with 12 has the length that it carries, and has not the room.
pub room-refused : (room : ℕ) (w : List ℕ) (n : ℕ) → in_room room w ≡ refused buffer_short n → (length w ≡ n) × (room < length w)
unfolding in_room
room-refused room w n = rule (λ a. a ≡ refused buffer_short n → (length w ≡ n) × (room < length w)) (ltb room (length w)) _ _ (λ p h. ((same-refusal h).1, ltb-true _ _ p)) λ _ h.
    absurd (not-answered (sym h))

-- The length that a fill's 12 carries is needed, and enough.
pub fill-needs : (template sheet : List ℕ) (room n : ℕ) → fill_answer template sheet room ≡ refused buffer_short n → Needs (fill_answer template sheet) room n
unfolding fill_answer onto
fill-needs template sheet room n h =
    by_read (reading template) _ (λ m q e f. let k = refusal-small template m q e in let l = k.known in omega arith) h λ t v p h.
    by_read (read_sheet sheet_broken sheet) _ (λ m q e f. let k = (sheet-refusal sheet_broken sheet m q e).0 in omega arith) h λ σ v' q h.
    by-made 0 (fill σ t) _ h λ d l h.
    let k = room-refused room (encode (fill σ t)) n h in
    record {
      w = encode (fill σ t);
      long = k.0;
      lacks = rw (← k.0) k.1;
      answers = λ r e. rw (p, q) (made-fits 0 (fill σ t) _ d l ∙ room-enough r _ (rw k.0 e));
    }

-- So is the length that a joining's 12 carries.
pub join-needs : (first second : List ℕ) (room n : ℕ) → join_answer first second room ≡ refused buffer_short n → Needs (join_answer first second) room n
unfolding join_answer made_sheet onto
join-needs first second room n h =
    by_read (read_sheet sheet_broken first) _ (λ m q e f. let k = (sheet-refusal sheet_broken first m q e).0 in omega arith) h λ σ v p h.
    by_read (read_sheet second_broken second) _ (λ m q e f. let k = (sheet-refusal second_broken second m q e).0 in omega arith) h λ τ v' q h.
    by-other (ltb max_entries (length (join σ τ))) _ _ _ (λ e. omega arith) h λ x h.
    let m = by-all-made (join σ τ) _ h in
    by-other (ltb max_encodings (length (encodings (join σ τ)))) _ _ _ (λ e. omega arith) m.1 λ y h.
    let k = room-refused room (sheet_bytes (join σ τ)) n h in
    record {
      w = sheet_bytes (join σ τ);
      long = k.0;
      lacks = rw (← k.0) k.1;
      answers = λ r e. rw (p, q, x, all_fit (join σ τ) _ m.0, y) (room-enough r _ (rw k.0 e));
    }
