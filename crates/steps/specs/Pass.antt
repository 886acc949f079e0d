-- NOT TO BE BELIEVED: proved to make what it should of every accepted encoding (proofs/Passed.antt, `pass-makes`). A pass over an accepted encoding,
-- by places in the input s, without the reader's checks. It stays inside s whatever its bytes are. What is made of the shapes on the way is left
-- open (`Pass`), so that one theorem serves every pass.
use Rattle.std.specs.Prelude.{ℕ, zero, suc, ◌+◌, ◌-◌, List, length, get_or, ltb, eqb}
use Rattle.std.proofs.Math.Seq.{slice}
use Rattle.meaning.specs.Rules.{◌⇒◌∣◌}
use Rattle.payloads.specs.Payload.{size_at}
use Rattle.payloads.specs.declared.first.Kind.{Kind}
use Rattle.payloads.specs.declared.first.Kind.TheVariants.{Array, Map, Record, Function, Symbol, Variable}
use Rattle.payloads.specs.declared.first.First.{First}
use Rattle.payloads.specs.declared.first.First.TheVariants.{Unassigned, Short, Long}
use Rattle.steps.specs.Steps.{head_size, first_at, past_long, past_name, list_at}

-- what is made, and the place after what it is made of
pub record Came (X : Type 0) : Type 0 where
  pub next : ℕ
  pub made : X

abbrev pub came : {X : Type 0} → ℕ → X → Came X
came n x = record { next = n; made = x }

-- what is made: of a shape of one byte (the byte, its depth), of a blank's number in its long form, of a Symbol (its bytes), of a list's items one
-- after the other (from start on, the bytes of each one's name and what is made of its shape), and of a list by its kind (the count's bytes, what
-- is made of its items); nothing, where no shape stands
pub record Pass (X A : Type 0) : Type 0 where
  pub nothing : X
  pub short : ℕ → ℕ → X
  pub blank : ℕ → X
  pub symbol : List ℕ → X
  pub start : A
  pub item : A → List ℕ → X → A
  pub list : Kind → List ℕ → A → X

-- what passes over something at a place
abbrev pub Passer : Type 0 → Type 0
Passer X = List ℕ → ℕ → Came X

-- a blank's long form: head and number
abbrev pub long_blank : ℕ
long_blank = 5

module _ {X A : Type 0} (F : Pass X A) where
  -- count items of a list, of which inner passes over each shape; a is made of those before
  unfoldable pub pass_items : Passer X → Kind → ℕ → List ℕ → ℕ → A → Came A
  pass_items inner kind zero s at a = came at a
  pass_items inner kind (suc count) s at a =
      pass_items inner kind count s (inner s (past_name s at kind)).next (F.item a (slice at (past_name s at kind) s) (inner s (past_name s at kind)).made)

  -- a shape with a list: its items, and what is made of them
  abbrev pub passed : Kind → List ℕ → Came A → Came X
  passed kind count r = came r.next (F.list kind count r.made)

  unfoldable pub pass_list : ℕ → Passer X → List ℕ → ℕ → Kind → Came X
  pass_list left inner s at kind =
      eqb left 0 ⇒ came at F.nothing ∣ λ _.
      ltb (length s - at) head_size ⇒ came at F.nothing ∣ λ _.
      passed kind (slice (at + head_size) (list_at s (at + head_size) kind).from s)
      (pass_items inner kind (list_at s (at + head_size) kind).count s (list_at s (at + head_size) kind).from F.start)

  -- a shape with a payload, with so many levels left, its own among them; inner passes over the shapes of its list
  unfoldable pub pass_long : ℕ → Passer X → List ℕ → ℕ → Kind → Came X
  pass_long left inner s at Array = pass_list left inner s at Array
  pass_long left inner s at Map = pass_list left inner s at Map
  pass_long left inner s at Record = pass_list left inner s at Record
  pass_long left inner s at Function = pass_list left inner s at Function
  pass_long left inner s at Symbol = came (past_long s at) (F.symbol (slice at (past_long s at) s))
  pass_long left inner s at Variable =
      ltb (length s - at) long_blank ⇒ came at F.nothing ∣ λ _.
      came (at + long_blank) (F.blank (size_at s (at + head_size)))

  -- a shape by its first byte
  unfoldable pub pass_first : ℕ → Passer X → List ℕ → ℕ → First → Came X
  pass_first left inner s at Unassigned = came at F.nothing
  pass_first left inner s at (Short levels) = came (at + 1) (F.short (get_or s at 0) levels)
  pass_first left inner s at (Long kind) = pass_long left inner s at kind

  unfoldable pub pass_shape : ℕ → Passer X
  pass_shape zero s at = pass_first zero (λ s at. came at F.nothing) s at (first_at s at)
  pass_shape (suc left) s at = pass_first (suc left) (pass_shape left) s at (first_at s at)
