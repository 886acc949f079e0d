-- What a state of the automaton still has to say: the rest of the walk over the whole input s, of which the state has seen the first bytes.
-- Assumes nothing.
use mathlib.Core.Path.{◌≡◌}
use mathlib.Core.Bool.{Bool, true, false, ◌&&◌}
use mathlib.Core.List.{List, [], ◌∷◌}
use Prim.Native.Nat.{ℕ, zero, suc, ◌+◌, ◌-◌, ◌≤◌, ◌<◌, max}
use lib.ListN.{length, get_or}
use lib.Seq.{slice}
use lib.Dec.{eqb}
use Rattle.meaning.specs.Rules.{◌⇒◌∣◌}
use Rattle.meaning.specs.Limits.{max_bytes, max_levels}
use Rattle.meaning.specs.Refusals.{cut_short, size_wrong, not_utf8, long_form}
use Rattle.payloads.specs.declared.first.Kind.{Kind}
use Rattle.payloads.specs.declared.first.Kind.TheVariants.{Record, Function, Symbol, Variable}
use Rattle.payloads.specs.Payload.{primitive_at, opening_at, counted_at, size_at, named}
use Rattle.reader.specs.Walk.{Out, came, stopped, after, after_opening, closing, walk_items, walk_shape, walk_all, depths}
use Rattle.byte_steps.specs.declared.modes.Items.{Items}
use Rattle.byte_steps.specs.declared.modes.Items.TheVariants.{Plain, Bare, Fields, Texts}
use Rattle.byte_steps.specs.declared.modes.Level.{Level}
use Rattle.byte_steps.specs.declared.modes.Mode.{Mode}
use Rattle.byte_steps.specs.declared.modes.Mode.TheVariants.{Head, SizeLow, SizeHigh, Opening, Count, CountMore, Length, LengthMore, Letters, BlankLow, BlankHigh, Between, Done, Faulty}
use Rattle.byte_steps.specs.Automaton.{plain, more, Run}
use Rattle.byte_steps.proofs.Letters.{goes}

-- how deep the items of each open level are so far, the innermost first: no state has these numbers, and all of them together are its deepest
abbrev pub hd : List ℕ → ℕ
hd [] = 0
hd (e ∷ ds) = e

abbrev pub tl : List ℕ → List ℕ
tl [] = []
tl (e ∷ ds) = ds

abbrev pub deepen : ℕ → List ℕ → List ℕ
deepen d ds = max (hd ds) d ∷ tl ds

unfoldable pub deepest_of : List Level → List ℕ → ℕ
deepest_of [] ds = hd ds
deepest_of (l ∷ ls) ds = max (suc (length ls) + hd ds) (deepest_of ls (tl ds))

-- the walk's kind for the items of a list
abbrev pub kind_of : Items → Kind
kind_of Plain = Function
kind_of Bare = Function
kind_of Fields = Record
kind_of Texts = Symbol

module _ (s : List ℕ) where
  -- the next n items are primitives, each of one byte, and so were those before, if p
  unfoldable pub prims : ℕ → Bool → ℕ → ℕ → Bool
  prims zero p stop at = p
  prims (suc n) p stop at = prims n (p && primitive_at s stop at) stop (at + 1)

  -- a payload's end; short says that the shape has a form of one byte
  unfoldable pub closes : Bool → ℕ → ℕ → ℕ → ℕ → Out ℕ
  closes short at stop n a = eqb n stop ⇒ (short ⇒ stopped long_form at ∣ λ _. came stop (a + 1)) ∣ λ _. stopped size_wrong at

  -- the items of a list that are due, its end, and what follows it
  unfoldable pub listed : (ℕ → ℕ → Out ℕ) → ℕ → Level → ℕ → Bool → ℕ → ℕ → Out ℕ
  listed k left top due short at a =
      after (walk_items depths (walk_shape depths left) (kind_of top.items) due s top.stop at a) λ n b.
      after (closes short top.at top.stop n b) k

  abbrev pub left_for : List Level → ℕ
  left_for stack = max_levels - length stack

  -- an item was read to its end: the others, the end of the list, and so on outwards
  unfoldable pub resume : List Level → Level → List ℕ → ℕ → Out ℕ
  resume [] top ds at = eqb at (length s) ⇒ came at (hd ds) ∣ λ _. stopped size_wrong at
  resume (l ∷ ls) top ds at =
      listed (λ n d. resume ls l (deepen d (tl ds)) n) (left_for (l ∷ ls)) top top.due (prims top.due (plain top.items) top.stop at) at (hd ds)

  -- what follows a shape of the list that is no primitive
  abbrev pub rest : List Level → Level → List ℕ → ℕ → ℕ → Out ℕ
  rest stack top ds n d = resume stack top (deepen d ds) n

  -- what follows a shape of the list, which begins at at
  abbrev pub rest_at : List Level → Level → List ℕ → ℕ → ℕ → ℕ → Out ℕ
  rest_at [] top ds at n d = resume [] top (deepen d ds) n
  rest_at (l ∷ ls) top ds at n d =
      listed (λ n d. resume ls l (deepen d (tl ds)) n) (left_for (l ∷ ls)) top top.due (prims (suc top.due) (plain top.items) top.stop at) n (max (hd ds) d)

  -- where the window of a shape ends: the input, or the payload
  abbrev pub window : List Level → Level → ℕ
  window [] top = length s
  window (l ∷ ls) top = top.stop

  abbrev pub headed : List Level → Level → List ℕ → ℕ → Out ℕ
  headed stack top ds at = after (walk_shape depths (left_for stack) s (window stack top) at) (rest_at stack top ds at)

  -- a payload's list, its items and its end
  abbrev pub body_from : ℕ → ℕ → Kind → ℕ → ℕ → ℕ → ℕ → Out ℕ
  body_from a left kind at stop from count = after (walk_items depths (walk_shape depths left) kind count s stop from a) λ n b. closing depths s at stop kind n b

  abbrev pub body : ℕ → Kind → ℕ → ℕ → ℕ → ℕ → Out ℕ
  body left kind at stop from count = body_from 0 left kind at stop from count

  abbrev pub opens : List Level → Level → List ℕ → Kind → ℕ → Out ℕ
  opens stack top ds kind at = after (after_opening (opening_at s (window stack top) at kind) (body (left_for stack - 1) kind at)) (rest stack top ds)

  -- a list whose count stands at at
  abbrev pub counts : List Level → Level → List ℕ → ℕ → Out ℕ
  counts [] top ds at = stopped 0 0
  counts (l ∷ ls) top ds at =
      after (after_opening (counted_at s top.stop at (more top.items)) (body_from (hd ds) (left_for (l ∷ ls)) (kind_of top.items) top.at)) (rest ls l (tl ds))

  -- an item whose text's length stands at at
  abbrev pub texts : List Level → Level → List ℕ → ℕ → Out ℕ
  texts [] top ds at = stopped 0 0
  texts (l ∷ ls) top ds at = listed (rest ls l (tl ds)) (left_for (l ∷ ls)) top (suc top.due) false at (hd ds)

  -- an item after its text
  abbrev pub worded : Items → List Level → Level → List ℕ → ℕ → Out ℕ
  worded Plain stack top ds at = headed stack top ds at
  worded Bare stack top ds at = headed stack top ds at
  worded Fields stack top ds at = headed stack top ds at
  worded Texts stack top ds at = resume stack top ds at

  -- what the walk over the whole input says, by what the next byte is; at bytes have come
  unfoldable pub meant : Mode → List Level → Level → List ℕ → ℕ → ℕ → Out ℕ
  meant Head stack top ds at whole = headed stack top ds at
  meant (SizeLow kind from) stack top ds at whole = opens stack top ds kind from
  meant (SizeHigh kind from low) stack top ds at whole = opens stack top ds kind from
  meant (Opening kind from stop) stack top ds at whole = opens stack top ds kind from
  meant Count stack top ds at whole = counts stack top ds at
  meant (CountMore from low) stack top ds at whole = counts stack top ds from
  meant Length stack top ds at whole = texts stack top ds at
  meant (LengthMore from low) stack top ds at whole = texts stack top ds from
  meant (Letters from left m low high) stack top ds at whole =
      goes m low high (slice at (at + left) s) ⇒ worded top.items stack top ds (at + left) ∣ λ _. stopped not_utf8 from
  meant (BlankLow from) stack top ds at whole = after (closing depths s from (from + 5) Variable (from + 5) 0) (rest stack top ds)
  meant (BlankHigh from low) stack top ds at whole = after (closing depths s from (from + 5) Variable (from + 5) 0) (rest stack top ds)
  meant Between stack top ds at whole = resume stack top ds at
  meant Done stack top ds at whole = resume stack top ds whole
  meant (Faulty number place) stack top ds at whole = stopped number place

  -- there is room for n bytes from at on, in the level's payload; of the root nothing else is known yet
  abbrev pub Room : List Level → Level → ℕ → ℕ → ℕ → Type 0
  Room [] top at n whole = (at ≡ 0) × (top.stop ≡ max_bytes) × (whole ≡ 1)
  Room (l ∷ ls) top at n whole = at + n ≤ top.stop

  -- the same of a level that has a payload
  abbrev pub Inside : List Level → Level → ℕ → ℕ → Type 0
  Inside [] top at n = ⊥
  Inside (l ∷ ls) top at n = at + n ≤ top.stop

  -- a shape may end at a place
  abbrev pub Ending : List Level → Level → ℕ → ℕ → Type 0
  Ending [] top at whole = at ≡ whole
  Ending (l ∷ ls) top at whole = at ≤ top.stop

  -- what a state knows by what the next byte is
  unfoldable pub Fits : Mode → List Level → Level → ℕ → ℕ → Type 0
  Fits Head stack top at whole = Room stack top at 1 whole
  Fits (SizeLow kind from) stack top at whole = (at ≡ from + 1) × Room stack top from 3 whole
  Fits (SizeHigh kind from low) stack top at whole = (at ≡ from + 2) × Room stack top from 3 whole × (low ≡ get_or s (from + 1) 0)
  Fits (Opening kind from stop) stack top at whole = (at ≡ from + 3) × Room stack top from 3 whole × (stop ≡ from + 3 + size_at s (from + 1)) × (stop ≤ top.stop)
  Fits Count stack top at whole = Inside stack top at 1 × (plain top.items ≡ false)
  Fits (CountMore from low) stack top at whole = (at ≡ from + 1) × Inside stack top at 1 × (low ≡ get_or s from 0) × (128 ≤ low) × (plain top.items ≡ false)
  Fits Length stack top at whole = Inside stack top at 1 × (named (kind_of top.items) ≡ true)
  Fits (LengthMore from low) stack top at whole = (at ≡ from + 1) × Inside stack top at 1 × (low ≡ get_or s from 0) × (128 ≤ low) × (named (kind_of top.items) ≡ true)
  Fits (Letters from left m low high) stack top at whole = (0 < left) × Inside stack top at left
  Fits (BlankLow from) stack top at whole = (at ≡ from + 3) × Ending stack top (from + 5) whole
  Fits (BlankHigh from low) stack top at whole = (at ≡ from + 4) × Ending stack top (from + 5) whole × (low ≡ get_or s (from + 3) 0)
  Fits Between stack top at whole = Ending stack top at whole
  Fits Done stack top at whole = (stack ≡ []) × (whole ≤ at)
  Fits (Faulty number place) stack top at whole = Unit {0}

-- payloads lie inside one another, and all inside the root
unfoldable pub Nested : List Level → Level → ℕ → Type 0
Nested [] top whole = Unit {0}
Nested (l ∷ []) top whole = top.stop ≡ whole
Nested (l ∷ m ∷ ls) top whole = (top.stop ≤ l.stop) × Nested (m ∷ ls) l whole

-- a state stands after the first at bytes of s: if the root's bytes are not all there, the walk says so; else the walk says what is still meant
pub record Held (s : List ℕ) (mode : Mode) (stack : List Level) (top : Level) (at whole deepest : ℕ) : Type 0 where
  pub ds : List ℕ
  pub is : walk_all depths s ≡ meant s mode stack top ds at whole
  pub deep : deepest ≡ deepest_of stack ds

pub record Good (s : List ℕ) (mode : Mode) (stack : List Level) (top : Level) (at whole deepest : ℕ) : Type 0 where
  pub short : length s < whole → walk_all depths s ≡ stopped cut_short 0
  pub held : whole ≤ length s → Held s mode stack top at whole deepest
  pub nested : Nested stack top whole
  pub fits : Fits s mode stack top at whole

abbrev pub GoodRun : List ℕ → Run → Type 0
GoodRun s r = Good s r.mode r.stack r.top r.count r.whole r.deepest
