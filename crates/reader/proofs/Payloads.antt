-- A payload by its kind, before its end is looked at.
-- Assumes nothing.
use mathlib.Core.Path.{◌≡◌, refl, sym, ap, ◌∙◌}
use mathlib.Core.Bool.{Bool, true, false}
use mathlib.Core.List.{List}
use mathlib.Core.Option.{Option, none, some}
use Prim.Native.Nat.{ℕ, zero, suc, ◌+◌, ◌≤◌}
use native.Mathlib.Omega.{arith}
use native.Mathlib.Numerals.{add-one}
use lib.ListN.{length}
use lib.Seq.{slice}
use Rattle.meaning.specs.Rules.{◌⇒◌∣◌}
use Rattle.meaning.specs.Shape.{Primitive, Tree, shape, array_of, map_of, record_of, function_of, symbol_of}
use Rattle.meaning.specs.FirstByte.{array, map}
use Rattle.meaning.specs.Encode.{as_prim}
use Rattle.meaning.specs.Reading.{Reading, got, next, some?, has_short, read_texts, read_fields, read_parameters, read_payload}
use Rattle.payloads.specs.declared.first.Kind.{Kind}
use Rattle.payloads.specs.declared.first.Kind.TheVariants.{Array, Map, Record, Function, Symbol}
use Rattle.payloads.specs.Payload.{label_at, short_form_of, primitive_at}
use Rattle.reader.specs.Walk.{Out, came, stopped, Fold, Walker, after, walk_items, made_of}
use Rattle.reader.proofs.Folding.{bare, array_by, map_by, fold}
use Rattle.reader.proofs.Told.{Told, tree, refused, after-tree, re-told}
use Rattle.reader.proofs.Lists.{none_told, Fields, Parameters, Texts, texts-told, fields_told, parameters-told}
use Rattle.reader.proofs.Ends.{Seen, Held}
use mathlib.Core.Bool.{◌&&◌}

map-short : (t u x y : Bool) → x ≡ t → (t ≡ true → y ≡ u) → (t ⇒ u ∣ λ _. false) ≡ (x && y)
map-short true u x y p q = rw p (sym (q refl))
map-short false u x y p q = rw p

long-array : {X A : Type 0} (F : Fold X A) (o : Option Primitive) (v : X) → some? o ≡ false → F.made Array (bare F Array F.start v) ≡ array_by F o v
unfolding array_by
long-array F none v h = refl
long-array F (some p) v h = absurd (let z : ◌≡◌ {A = Bool} true false = h in let y : ◌≡◌ {A = ℕ} 0 1 = cc in omega arith)

long-map : {X A : Type 0} (F : Fold X A) (o o' : Option Primitive) (v w : X) → (some? o && some? o') ≡ false → F.made Map (bare F Map (bare F Map F.start v) w) ≡ map_by F o o' v w
unfolding map_by
long-map F none o v w h = refl
long-map F (some p) none v w h = refl
long-map F (some p) (some q) v w h = absurd (let z : ◌≡◌ {A = Bool} true false = h in let y : ◌≡◌ {A = ℕ} 0 1 = cc in omega arith)

-- one item more, after the others
split-go : {X A B : Type 0} (f : ℕ → X → Out B) (g : ℕ → X → Out A) (k : ℕ → A → Out B) → ((n : ℕ) (d : X) → f n d ≡ after (g n d) k) → (o : Out X) → after o f ≡ after (after o g) k
split-go f g k h (came n d) = h n d
split-go f g k h (stopped i p) = refl

split : {X A : Type 0} (F : Fold X A) (inner : Walker X) (n : ℕ) (s : List ℕ) (e at : ℕ) (a : A)
    → walk_items F inner Function (suc n) s e at a ≡ after (walk_items F inner Function n s e at a) (λ q b. walk_items F inner Function 1 s e q b)
unfolding walk_items label_at
split F inner zero s e at a = refl
split F inner (suc n) s e at a = split-go _ _ _ (λ q v. split F inner n s e q (F.item (F.text Function a (slice at at s)) v)) (inner s e at)

module _ (s : List ℕ)
    {X A : Type 0} (F : Fold X A) (inner : Walker X) (child : ℕ → List ℕ → Reading (Tree shape))
    (agree : (e at : ℕ) → at ≤ e → e ≤ length s → Told s e (Seen F s e at) (inner s e at) (child e (slice at e s))) where
  -- what is read of a payload, before its end is looked at
  abbrev rest : ℕ → ℕ → Kind → ℕ → Out A
  rest stop from kind count = walk_items F inner kind count s stop from F.start

  pub array-held : (at stop : ℕ) → at + 3 ≤ stop → stop ≤ length s → Told s stop (Held F s at stop Array) (rest stop (at + 3) Array 1) (read_payload child at array stop (slice (at + 3) stop s))
  unfolding walk_items read_payload label_at as_prim has_short short_form_of made_of fold
  array-held at stop h k =
      after-tree (Seen F s stop (at + 3)) (Told s stop (Held F s at stop Array)) refused _ _ (agree stop (at + 3) h k) λ q a v j z.
      rw (none_told, z.is)
      (tree q (bare F Array F.start (fold F a)) (array_of a) j (record { is = λ y. long-array F (as_prim a) (fold F a) y; no_prim = refl; short = λ y. sym z.is_prim }))

  pub map-held : (at stop : ℕ) → at + 3 ≤ stop → stop ≤ length s → Told s stop (Held F s at stop Map) (rest stop (at + 3) Map 2) (read_payload child at map stop (slice (at + 3) stop s))
  unfolding walk_items read_payload label_at as_prim has_short short_form_of made_of fold
  map-held at stop h k =
      after-tree (Seen F s stop (at + 3)) (Told s stop (Held F s at stop Map)) refused _ _ (agree stop (at + 3) h k) λ q a v j z.
      after-tree (Seen F s stop q) (Told s stop (Held F s at stop Map)) refused _ _ (agree stop q j k) λ q' a' v' j' z'.
      rw (none_told s (at + 3), none_told s q, z.is, z'.is)
      (tree q' (bare F Map (bare F Map F.start (fold F a)) (fold F a')) (map_of a a') j'
      (record { is = λ y. long-map F (as_prim a) (as_prim a') (fold F a) (fold F a') y; no_prim = refl; short = λ y. map-short _ _ _ _ z.is_prim (λ t. z'.is_prim ∙ ap (primitive_at s stop) (z.one t)) }))

  pub record-held : (at stop from n : ℕ) → from ≤ stop → stop ≤ length s → Told s stop (Held F s at stop Record) (rest stop from Record n) (next (read_fields child n stop (slice from stop s)) (λ f w. got (record_of f) w))
  unfolding as_prim has_short short_form_of made_of fold
  record-held at stop from n h k =
      re-told (Fields F F.start) (Held F s at stop Record) record_of (λ q d f i z. record { is = λ y. ap (F.made Record) z; no_prim = refl; short = λ y. refl })
      (fields_told s F (Seen F s) (λ e at n v a z. z.is) inner child agree n stop from F.start h k)

  pub symbol-held : (at stop from n : ℕ) → from ≤ stop → stop ≤ length s → Told s stop (Held F s at stop Symbol) (rest stop from Symbol n) (next (read_texts n stop (slice from stop s)) (λ f w. got (symbol_of f) w))
  unfolding as_prim has_short short_form_of made_of fold
  symbol-held at stop from n h k =
      re-told (Texts F F.start) (Held F s at stop Symbol) symbol_of (λ q d f i z. record { is = λ y. ap (F.made Symbol) z; no_prim = refl; short = λ y. refl })
      (texts-told s F (Seen F s) (λ e at n v a z. z.is) inner child agree n stop from F.start h k)

  pub function-held : (at stop from n : ℕ) → from ≤ stop → stop ≤ length s
      → Told s stop (Held F s at stop Function) (rest stop from Function (n + 1)) (next (read_parameters child n stop (slice from stop s)) (λ a v. next (child stop v) (λ r w. got (function_of a r) w)))
  unfolding as_prim has_short short_form_of made_of fold walk_items label_at
  function-held at stop from n h k = rw (add-one, split F inner n s stop from F.start)
      (after-tree (Parameters F F.start) (Told s stop (Held F s at stop Function)) refused _ _ (parameters-told s F (Seen F s) (λ e at n v a z. z.is) inner child agree n stop from F.start h k) λ q a d j z.
      after-tree (Seen F s stop q) (Told s stop (Held F s at stop Function)) refused _ _ (agree stop q j k) λ q' a' v' j' z'.
      rw (none_told, z, z'.is)
      (tree q' (bare F Function (fold F a F.start) (fold F a')) (function_of a a') j' (record { is = λ y. refl; no_prim = refl; short = λ y. refl })))
