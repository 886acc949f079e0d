-- What a Fold makes of a shape, and that `depths` makes its depth.
-- Assumes nothing.
use mathlib.Core.Path.{◌≡◌, refl, ap, ◌∙◌}
use mathlib.Core.Bool.{Bool, true, false}
use mathlib.Core.List.{List, [], ◌∷◌}
use mathlib.Core.Option.{Option, none, some}
use Prim.Native.Nat.{ℕ, suc, ◌+◌, max}
use native.Mathlib.Omega.{arith}
use lib.Dec.{ltb}
use Rattle.meaning.specs.Rules.{◌⇒◌∣◌}
use Rattle.meaning.specs.Shape.{Primitive, Sort, shape, fields, parameters, Tree, prim, blank, array_of, map_of, record_of, function_of, symbol_of, no_fields, field, no_parameters, parameter, depth}
use Rattle.meaning.specs.FirstByte.{code, short_blanks, prim_byte, array_byte, map_byte}
use Rattle.meaning.specs.Encode.{as_prim}
use Rattle.meaning.proofs.Complete.{as-prim}
use Rattle.payloads.specs.declared.first.Kind.{Kind}
use Rattle.payloads.specs.declared.first.Kind.TheVariants.{Array, Map, Record, Function, Symbol}
use Rattle.reader.specs.Walk.{Fold, depths}

-- of a shape something is made, and a list goes on from what was made before it
abbrev pub Made : Type 0 → Type 0 → Sort → Type 0
Made X A shape = X
Made X A fields = A → A
Made X A parameters = A → A

module _ {X A : Type 0} (F : Fold X A) where
  -- an item without a name
  abbrev pub bare : Kind → A → X → A
  bare kind a v = F.item (F.text kind a []) v

  unfoldable pub array_by : Option Primitive → X → X
  array_by none v = F.made Array (bare Array F.start v)
  array_by (some p) v = F.short (array_byte (code p)) 2

  unfoldable pub map_by : Option Primitive → Option Primitive → X → X → X
  map_by none q v w = F.made Map (bare Map (bare Map F.start v) w)
  map_by (some p) none v w = F.made Map (bare Map (bare Map F.start v) w)
  map_by (some p) (some q) v w = F.short (map_byte (code p) (code q)) 2

  unfoldable pub texts_by : List (List ℕ) → A → A
  texts_by [] a = a
  texts_by (t ∷ ts) a = texts_by ts (F.text Symbol a t)

  unfoldable pub fold : {k : Sort} → Tree k → Made X A k
  fold (prim p) = F.short (prim_byte (code p)) 1
  fold (blank n) = ltb n short_blanks ⇒ F.short n 1 ∣ λ _. F.variable n F.start
  fold (array_of x) = array_by (as_prim x) (fold x)
  fold (map_of x y) = map_by (as_prim x) (as_prim y) (fold x) (fold y)
  fold (record_of f) = F.made Record (fold f F.start)
  fold (function_of p r) = F.made Function (bare Function (fold p F.start) (fold r))
  fold (symbol_of ts) = F.made Symbol (texts_by ts F.start)
  fold no_fields = λ a. a
  fold (field n x f) = λ a. fold f (F.item (F.text Record a n) (fold x))
  fold no_parameters = λ a. a
  fold (parameter x f) = λ a. fold f (bare Function a (fold x))

-- what `depths` makes of a tree: its depth, of a list the deepest with what was before it
abbrev Deep : (k : Sort) → Tree k → Made ℕ ℕ k → Type 0
Deep shape t d = d ≡ depth t
Deep fields t f = (a : ℕ) → f a ≡ max a (depth t)
Deep parameters t f = (a : ℕ) → f a ≡ max a (depth t)

prim-deep : (s : Tree shape) (p : Primitive) → as_prim s ≡ some p → depth s ≡ 1
unfolding depth
prim-deep s p h = ap depth (as-prim s p h)

array-deep : (s : Tree shape) (d : ℕ) → d ≡ depth s → array_by depths (as_prim s) d ≡ suc (depth s)
unfolding array_by
array-deep s d h = go (as_prim s) refl
  where
    go : (o : Option Primitive) → as_prim s ≡ o → array_by depths o d ≡ suc (depth s)
    go none p = omega arith
    go (some b) p = omega (arith, prim-deep s b p)

map-deep : (s t : Tree shape) (d e : ℕ) → d ≡ depth s → e ≡ depth t → map_by depths (as_prim s) (as_prim t) d e ≡ suc (max (depth s) (depth t))
unfolding map_by
map-deep s t d e h k = go (as_prim s) refl (as_prim t) refl
  where
    go : (o : Option Primitive) → as_prim s ≡ o → (o' : Option Primitive) → as_prim t ≡ o' → map_by depths o o' d e ≡ suc (max (depth s) (depth t))
    go none p o q = omega arith
    go (some b) p none q = omega arith
    go (some b) p (some c) q = omega (arith, prim-deep s b p, prim-deep t c q)

texts-deep : (ts : List (List ℕ)) (a : ℕ) → texts_by depths ts a ≡ a
unfolding texts_by
texts-deep [] a = refl
texts-deep (t ∷ ts) a = texts-deep ts a

blank-deep : (n : ℕ) (t : Bool) → (t ⇒ 1 ∣ λ _. 0 + 1) ≡ 1
blank-deep n true = refl
blank-deep n false = refl

deep : {k : Sort} (t : Tree k) → Deep k t (fold depths t)
unfolding fold depth
deep (prim p) = refl
deep (blank n) = blank-deep n (ltb n short_blanks)
deep (array_of s) = array-deep s (fold depths s) (deep s)
deep (map_of s t) = map-deep s t (fold depths s) (fold depths t) (deep s) (deep t)
deep (record_of f) = omega (arith, deep f 0)
deep (function_of p r) = omega (arith, deep p 0, deep r)
deep (symbol_of ts) = rw (texts-deep ts 0)
deep no_fields = λ a. omega arith
deep (field n s f) = λ a. deep f (max a (fold depths s)) ∙ omega (arith, deep s)
deep no_parameters = λ a. omega arith
deep (parameter s p) = λ a. deep p (max a (fold depths s)) ∙ omega (arith, deep s)

-- `depths` makes the depth of a shape
pub fold-depth : (t : Tree shape) → fold depths t ≡ depth t
fold-depth t = deep t
