-- Lists of numbered items: what is found in one, its order, when two are the same, and one laid over another.
--     find-put, find-over, find-each     what is found
--     put-rising, over-rising, each-rising, each-rising⁻¹     the order is kept
--     over-less, over-more, over-same     laying one rising list over another goes from the front, like a merge
--     over-all, find-all, all_map     what holds of each
--     same-list     two rising lists in which the same is found are the same
--     each-length     a changed list has as many items
-- Assumes nothing.
use Prim.Native.Nat.{ℕ, suc, ◌≤◌, ◌<◌}
use mathlib.Core.Path.{◌≡◌, refl, sym, ◌∙◌, ap, ap₂}
use mathlib.Core.Bool.{Bool, true, false}
use mathlib.Core.Option.{Option, none, some, or_else, map, some-injective}
use mathlib.Core.List.{List, [], ◌∷◌}
use native.Mathlib.Nat.{le_refl}
use native.Mathlib.Omega.{arith}
use lib.Dec.{ltb, eqb}
use lib.ListN.{length}
use borrow.Author.Tests.{ltb-true, ltb-false, eqb-true, eqb-false, eq-eqb, ne_eqb, lt-ltb, le-ltb}
use Rattle.meaning.specs.Rules.{◌⇒◌∣◌}
use Rattle.meaning.specs.Numbered.{Numbered, RisingFrom, All, find, put, over, each}
use Rattle.meaning.proofs.Rules.{rule}

-- Two rules of which only one can hold may change places.
swap : {A : Type 0} (a b : Bool) (x y z : A) → (a ≡ true → b ≡ true → ⊥) → (a ⇒ x ∣ λ _. b ⇒ y ∣ λ _. z) ≡ (b ⇒ y ∣ λ _. a ⇒ x ∣ λ _. z)
swap true true x y z h = absurd (h refl refl)
swap true false x y z h = refl
swap false true x y z h = refl
swap false false x y z h = refl

-- A rule whose test stands above it is never reached.
again : {A : Type 0} (a : Bool) (x y z : A) → (a ⇒ x ∣ λ _. z) ≡ (a ⇒ x ∣ λ _. a ⇒ y ∣ λ _. z)
again true x y z = refl
again false x y z = refl

-- Nothing is no thing.
none≢some : {A : Type 0} (s : A) (o : Option A) → o ≡ none → o ≡ some s → ⊥
none≢some s o p q = let z : ◌≡◌ {A = ℕ} 0 1 = cc in omega arith

module _ {A : Type 0} where
  -- What was put in is found under its number, and else what was there.
  pub find-put : (d : Numbered A) (es : List (Numbered A)) (n : ℕ) → find (put d es) n ≡ (eqb n d.number ⇒ some d.item ∣ λ _. find es n)
  unfolding find put
  find-put d [] n = refl
  find-put d (e ∷ es) n =
      rule (λ l. find l n ≡ (eqb n d.number ⇒ some d.item ∣ λ _. find (e ∷ es) n)) (ltb d.number e.number) _ _ (λ _. refl) λ p.
      rule (λ l. find l n ≡ (eqb n d.number ⇒ some d.item ∣ λ _. find (e ∷ es) n)) (eqb d.number e.number) _ _ (λ q. rw (← eqb-true d.number e.number q) (again (eqb n d.number) (some d.item) (some e.item) (find es n))) λ q.
      rw (find-put d es n) (swap (eqb n e.number) (eqb n d.number) (some e.item) (some d.item) (find es n) (λ a b. eqb-false d.number e.number q (omega (arith, eqb-true))))

  -- In a list laid over another is found what is found in the first, or else in the second.
  pub find-over : (σ τ : List (Numbered A)) (n : ℕ) → find (over σ τ) n ≡ or_else (find σ n) (find τ n)
  unfolding find over or_else
  find-over [] τ n = refl
  find-over (d ∷ ds) τ n = rw (find-put, find-over ds τ n) (go (eqb n d.number))
    where
      go : (a : Bool) → (a ⇒ some d.item ∣ λ _. or_else (find ds n) (find τ n)) ≡ or_else (a ⇒ some d.item ∣ λ _. find ds n) (find τ n)
      go true = refl
      go false = refl

  -- A list that rises from n rises from any number below.
  weaken : {m n : ℕ} (es : List (Numbered A)) → m ≤ n → RisingFrom n es → RisingFrom m es
  unfolding RisingFrom
  weaken [] h a = tt
  weaken (e ∷ es) h a = (omega arith, a.1)

  -- A rising list rises after an item was put in.
  pub put-rising : (m : ℕ) (d : Numbered A) (es : List (Numbered A)) → m ≤ d.number → RisingFrom m es → RisingFrom m (put d es)
  unfolding RisingFrom put
  put-rising m d [] h a = (h, tt)
  put-rising m d (e ∷ es) h a =
      rule (RisingFrom m) (ltb d.number e.number) _ _ (λ p. (h, (ltb-true _ _ p, a.1))) λ p.
      rule (RisingFrom m) (eqb d.number e.number) _ _ (λ q. (h, weaken es (omega (arith, eqb-true)) a.1)) λ q.
      (a.0, put-rising (suc e.number) d es (omega (arith, ltb-false, eqb-false d.number e.number q)) a.1)

  -- A rising list laid over a rising list rises.
  pub over-rising : (m : ℕ) (σ τ : List (Numbered A)) → RisingFrom m σ → RisingFrom m τ → RisingFrom m (over σ τ)
  unfolding over RisingFrom
  over-rising m [] τ r s = s
  over-rising m (d ∷ ds) τ r s = put-rising m d (over ds τ) r.0 (over-rising m ds τ (weaken ds (omega arith) r.1) s)

  -- An item below all others is put in front.
  put_front : (d : Numbered A) (es : List (Numbered A)) → RisingFrom (suc d.number) es → put d es ≡ d ∷ es
  unfolding put RisingFrom
  put_front d [] r = refl
  put_front d (e ∷ es) r = rw (lt-ltb d.number e.number r.0)

  -- Where the first list begins lower, its first item comes first.
  pub over-less : (d : Numbered A) (ds τ : List (Numbered A)) → RisingFrom (suc d.number) ds → RisingFrom (suc d.number) τ → over (d ∷ ds) τ ≡ d ∷ over ds τ
  unfolding over
  over-less d ds τ r s = put_front d (over ds τ) (over-rising _ ds τ r s)

  -- Where the second begins lower, its first item does.
  pub over-more : (σ : List (Numbered A)) (e : Numbered A) (es : List (Numbered A)) → RisingFrom (suc e.number) σ → over σ (e ∷ es) ≡ e ∷ over σ es
  unfolding over put RisingFrom
  over-more [] e es r = refl
  over-more (d ∷ ds) e es r = rw (over-more ds e es (weaken ds (omega arith) r.1), le-ltb d.number e.number (omega arith), ne_eqb d.number e.number (λ q. omega arith))

  -- Where both begin with one number, the first list's item does, and the second's is dropped.
  pub over-same : (d e : Numbered A) (ds es : List (Numbered A)) → d.number ≡ e.number → RisingFrom (suc d.number) ds → over (d ∷ ds) (e ∷ es) ≡ d ∷ over ds es
  unfolding over put
  over-same d e ds es q r = rw (over-more ds e es (rw (← q) r), le-ltb d.number e.number (omega arith), eq-eqb d.number e.number q)

  module _ (P : Numbered A → Type 0) where
    -- What holds of an item and of each of a list holds of each after the item was put in.
    put_all : (d : Numbered A) (es : List (Numbered A)) → P d → All P es → All P (put d es)
    unfolding All put
    put_all d [] p a = (p, tt)
    put_all d (e ∷ es) p a =
        rule (All P) (ltb d.number e.number) _ _ (λ _. (p, a)) λ _.
        rule (All P) (eqb d.number e.number) _ _ (λ _. (p, a.1)) λ _.
        (a.0, put_all d es p a.1)

    -- What holds of each of two lists holds of each of one laid over the other.
    pub over-all : (σ τ : List (Numbered A)) → All P σ → All P τ → All P (over σ τ)
    unfolding All over
    over-all [] τ a b = b
    over-all (d ∷ ds) τ a b = put_all d (over ds τ) a.0 (over-all ds τ a.1 b)

    -- What holds of each holds of what is found.
    pub find-all : (es : List (Numbered A)) (n : ℕ) (x : A) → All P es → find es n ≡ some x → P (record { number = n; item = x })
    unfolding All find
    find-all [] n x a = λ h. absurd (none≢some x none refl h)
    find-all (e ∷ es) n x a =
        rule (λ o. o ≡ some x → P (record { number = n; item = x })) (eqb n e.number) _ _ (λ p h. rw (eqb-true n e.number p, ← some-injective e.item x h) a.0) λ p.
        find-all es n x a.1

  -- What follows from a thing that holds of each holds of each.
  pub all_map : (P Q : Numbered A → Type 0) → ((e : Numbered A) → P e → Q e) → (es : List (Numbered A)) → All P es → All Q es
  unfolding All
  all_map P Q f [] a = tt
  all_map P Q f (e ∷ es) a = (f e a.0, all_map P Q f es a.1)

  -- Nothing is found below where a list begins.
  below : (m n : ℕ) (es : List (Numbered A)) → RisingFrom m es → n < m → find es n ≡ none
  unfolding RisingFrom find
  below m n [] a h = refl
  below m n (e ∷ es) a h = rw (ne_eqb n e.number (λ q. omega arith)) (below (suc e.number) n es a.1 (omega arith))

  -- The first item is found under its number.
  here : (e : Numbered A) (es : List (Numbered A)) → find (e ∷ es) e.number ≡ some e.item
  unfolding find
  here e es = rw (eq-eqb e.number e.number refl)

  -- Above its number, what is found is found in the rest.
  there : (e : Numbered A) (es : List (Numbered A)) (n : ℕ) → e.number < n → find (e ∷ es) n ≡ find es n
  unfolding find
  there e es n h = rw (ne_eqb n e.number (λ q. omega arith))

  -- A rising list in which the first number of another is found begins no higher.
  least : (d e : Numbered A) (ds es : List (Numbered A)) → RisingFrom (suc e.number) es → find (d ∷ ds) d.number ≡ find (e ∷ es) d.number → e.number ≤ d.number
  unfolding RisingFrom
  least d e ds es a f = go (ltb d.number e.number) refl
    where
      go : (x : Bool) → ltb d.number e.number ≡ x → e.number ≤ d.number
      go true p = absurd (none≢some d.item (find (e ∷ es) d.number) (below e.number d.number (e ∷ es) (le_refl _, a) (ltb-true _ _ p)) (sym f ∙ here d ds))
      go false p = ltb-false _ _ p

  -- Two rising lists in which the same is found are the same.
  pub same-list : (m : ℕ) (σ τ : List (Numbered A)) → RisingFrom m σ → RisingFrom m τ → ((n : ℕ) → find σ n ≡ find τ n) → σ ≡ τ
  unfolding RisingFrom find
  same-list m [] [] a b f = refl
  same-list m [] (e ∷ es) a b f = absurd (none≢some e.item (find (e ∷ es) e.number) (sym (f e.number)) (here e es))
  same-list m (d ∷ ds) [] a b f = absurd (none≢some d.item (find (d ∷ ds) d.number) (f d.number) (here d ds))
  same-list m (d ∷ ds) (e ∷ es) a b f = ap₂ ◌∷◌ (λ i. record { number = number i; item = item i }) (same-list (suc d.number) ds es a.1 (rw number b.1) rest)
    where
      number : d.number ≡ e.number
      number = omega (arith, least d e ds es b.1 (f d.number), least e d es ds a.1 (sym (f e.number)))

      item : d.item ≡ e.item
      item = some-injective _ _ (sym (here d ds) ∙ f d.number ∙ ap (find (e ∷ es)) number ∙ here e es)

      rest : (n : ℕ) → find ds n ≡ find es n
      rest n = go (ltb d.number n) refl
        where
          go : (x : Bool) → ltb d.number n ≡ x → find ds n ≡ find es n
          go true p = sym (there d ds n (ltb-true _ _ p)) ∙ f n ∙ there e es n (omega (arith, ltb-true, number))
          go false p = below _ n ds a.1 (omega (arith, ltb-false)) ∙ sym (below _ n es b.1 (omega (arith, ltb-false, number)))

module _ {A B : Type 0} (f : A → B) where
  -- A changed list has as many items.
  pub each-length : (es : List (Numbered A)) → length (each f es) ≡ length es
  unfolding each
  each-length [] = refl
  each-length (e ∷ es) = ap suc (each-length es)

  -- In a changed list is found what was there, changed.
  pub find-each : (es : List (Numbered A)) (n : ℕ) → find (each f es) n ≡ map f (find es n)
  unfolding find each
  find-each [] n = refl
  find-each (e ∷ es) n = rw (find-each es n) (go (eqb n e.number))
    where
      go : (a : Bool) → (a ⇒ some (f e.item) ∣ λ _. map f (find es n)) ≡ map f (a ⇒ some e.item ∣ λ _. find es n)
      go true = refl
      go false = refl

  -- A changed list rises if the list does.
  pub each-rising : (m : ℕ) (es : List (Numbered A)) → RisingFrom m es → RisingFrom m (each f es)
  unfolding RisingFrom each
  each-rising m [] r = tt
  each-rising m (e ∷ es) r = (r.0, each-rising (suc e.number) es r.1)

  -- Only then does it.
  pub each-rising⁻¹ : (m : ℕ) (es : List (Numbered A)) → RisingFrom m (each f es) → RisingFrom m es
  unfolding RisingFrom each
  each-rising⁻¹ m [] r = tt
  each-rising⁻¹ m (e ∷ es) r = (r.0, each-rising⁻¹ (suc e.number) es r.1)
