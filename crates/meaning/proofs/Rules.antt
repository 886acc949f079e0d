-- For proofs about a list of rules, `test ⇒ answer ∣ λ _. the rules below`.
--     tests     what `search` closes a goal with: each test on the way, from what the branches say
--     facts     the other way, for `omega`: what a test says
--     rule      what each rule's answer has, where its test holds and those above fail, the list of rules has
--     both      what the answers of two lists have, rule by rule, the lists have, if they go by the same tests
-- Assumes nothing.
use mathlib.Core.Path.{◌≡◌, refl}
use mathlib.Core.Bool.{Bool, true, false}
use borrow.Author.Tests.{le-ltb, lt-ltb, le-leb, lt-leb, eq-eqb, ne_eqb, ltb-true, ltb-false, leb-true, leb-false, eqb-true, eqb-false}
use Rattle.meaning.specs.Rules.{◌⇒◌∣◌}

pub ruleset tests = (le-ltb, lt-ltb, le-leb, lt-leb, eq-eqb, ne_eqb)

pub ruleset facts = (ltb-true, ltb-false, leb-true, leb-false, eqb-true, eqb-false)

-- A list of rules has what each of its answers has.
pub rule : {A : Type 0} (P : A → Type 0) (t : Bool) (a : A) (rest : Unit {0} → A) → (t ≡ true → P a) → (t ≡ false → P (rest tt)) → P (t ⇒ a ∣ rest)
rule P true a rest h k = h refl
rule P false a rest h k = k refl

-- Two lists of rules that go by the same test are related as their answers are.
pub both : {A B : Type 0} (R : A → B → Type 0) (t : Bool) (a : A) (k : Unit {0} → A) (x : B) (y : Unit {0} → B) → (t ≡ true → R a x) → (t ≡ false → R (k tt) (y tt)) → R (t ⇒ a ∣ k) (t ⇒ x ∣ y)
both R true a k x y h g = h refl
both R false a k x y h g = g refl
