-- The items of a payload's list: texts, fields, parameters.
-- Assumes nothing.
use mathlib.Core.Path.{◌≡◌, refl}
use mathlib.Core.List.{List, [], ◌∷◌}
use Prim.Native.Nat.{ℕ, zero, suc, ◌≤◌}
use native.Mathlib.Omega.{arith}
use lib.ListN.{length}
use lib.Seq.{slice}
use Rattle.meaning.specs.Shape.{Tree, shape, fields, parameters, no_fields, field, no_parameters, parameter}
use Rattle.meaning.specs.Reading.{Reading, read_texts, read_fields, read_parameters}
use Rattle.meaning.proofs.Window.{window-none}
use Rattle.payloads.specs.declared.first.Kind.TheVariants.{Record, Function, Symbol}
use Rattle.payloads.specs.Payload.{label_at}
use Rattle.reader.specs.Walk.{Fold, Walker, walk_items}
use Rattle.reader.proofs.Folding.{bare, texts_by, fold}
use Rattle.reader.proofs.Told.{Told, tree, refused, after_text_lem, after-tree, re-told, text-told}

-- what a list makes, after a
abbrev pub Fields : {X A : Type 0} (F : Fold X A) → A → ℕ → A → Tree fields → Type 0
Fields F a n d f = d ≡ fold F f a

abbrev pub Parameters : {X A : Type 0} (F : Fold X A) → A → ℕ → A → Tree parameters → Type 0
Parameters F a n d f = d ≡ fold F f a

abbrev pub Texts : {X A : Type 0} (F : Fold X A) → A → ℕ → A → List (List ℕ) → Type 0
Texts F a n d ts = d ≡ texts_by F ts a

-- an item without a text
pub none_told : (s : List ℕ) (a : ℕ) → slice a a s ≡ []
none_told s a = window-none s a a (omega arith)

module _ (s : List ℕ)
    {X A : Type 0} (F : Fold X A)
    (Q : ℕ → ℕ → ℕ → X → Tree shape → Type 0) (is : (e at n : ℕ) (v : X) (a : Tree shape) → Q e at n v a → v ≡ fold F a)
    (inner : Walker X) (child : ℕ → List ℕ → Reading (Tree shape))
    (agree : (e at : ℕ) → at ≤ e → e ≤ length s → Told s e (Q e at) (inner s e at) (child e (slice at e s))) where
  pub texts-told : (n e at : ℕ) (a : A) → at ≤ e → e ≤ length s → Told s e (Texts F a) (walk_items F inner Symbol n s e at a) (read_texts n e (slice at e s))
  unfolding walk_items read_texts label_at texts_by
  texts-told zero e at a h k = tree at a [] h refl
  texts-told (suc n) e at a h k =
      after_text_lem {X = A} {A = List (List ℕ)} (Texts F a) (Told s e (Texts F a)) refused _ _ (text-told s e at h k) λ b p i.
      re-told (Texts F (F.text Symbol a (slice b p s))) (Texts F a) (λ ts. slice b p s ∷ ts) (λ n d ts i z. z) (texts-told n e p (F.text Symbol a (slice b p s)) i k)

  pub fields_told : (n e at : ℕ) (a : A) → at ≤ e → e ≤ length s → Told s e (Fields F a) (walk_items F inner Record n s e at a) (read_fields child n e (slice at e s))
  unfolding walk_items read_fields label_at fold
  fields_told zero e at a h k = tree at a no_fields h refl
  fields_told (suc n) e at a h k =
      after_text_lem {X = A} {A = Tree fields} (Fields F a) (Told s e (Fields F a)) refused _ _ (text-told s e at h k) λ b p i.
      after-tree (Q e p) (Told s e (Fields F a)) refused _ _ (agree e p i k) λ q x v j z.
      rw (is e p q v x z)
      (re-told (Fields F (F.item (F.text Record a (slice b p s)) (fold F x))) (Fields F a) (field (slice b p s) x) (λ n d f l y. y) (fields_told n e q (F.item (F.text Record a (slice b p s)) (fold F x)) j k))

  pub parameters-told : (n e at : ℕ) (a : A) → at ≤ e → e ≤ length s
      → Told s e (Parameters F a) (walk_items F inner Function n s e at a) (read_parameters child n e (slice at e s))
  unfolding walk_items read_parameters label_at fold
  parameters-told zero e at a h k = tree at a no_parameters h refl
  parameters-told (suc n) e at a h k = (after-tree (Q e at) (Told s e (Parameters F a)) refused _ _ (agree e at h k) λ q t v j z.
      rw (none_told, is e at q v t z)
      (re-told (Parameters F (bare F Function a (fold F t))) (Parameters F a) (parameter t) (λ n d f l y. y) (parameters-told n e q (bare F Function a (fold F t)) j k)))
