-- The joined sheet of two rising sheets, entry by entry in rising order.
--     first_next       the first's entry comes next, where the second's number is larger or the second has no more
--     both_next        it does, and the second's is passed too, where both have one number
--     second_next      the second's entry comes next, where the first's number is larger or the first has no more
--     joined_end       after all entries of both, nothing is left
--     over_turn, turn_is, over_end     what comes of two sheets
--     turn_deep, turn_long, turn_fits     how the entry that comes next measures
--     turns_counted    the turns are as many as the entries that are left
-- Assumes nothing.
use Prim.Native.Nat.{ℕ, zero, suc, ◌+◌, ◌≤◌, ◌<◌}
use mathlib.Core.Path.{◌≡◌, refl, ◌∙◌}
use mathlib.Core.List.{List, [], ◌∷◌, map}
use native.Mathlib.Omega.{arith}
use native.Mathlib.Numerals.{add-one}
use lib.ListN.{length, drop, drop_of_length-le}
use lib.Seq.{drop-cons, drop-nil}
use borrow.Author.Tests.{le-ltb, lt-ltb}
use Rattle.std.specs.Prelude.{Err}
use Rattle.std.specs.Iterator.{Drains}
use Rattle.std.proofs.lemmas.List.{length-map}
use Rattle.std.proofs.lemmas.Iterator.Consumers.{count_from_yields_List, YieldsList-from_shown}
use Rattle.meaning.specs.Limits.{max_bytes, max_levels}
use Rattle.meaning.specs.Refusals.{made_too_deep, made_too_long}
use Rattle.meaning.specs.Numbered.{RisingFrom, Rising, over, each}
use Rattle.meaning.specs.Sheet.{Sheet, fill}
use Rattle.meaning.proofs.Numbered.{over-less, over-more, over-same, each-rising}
use Rattle.leaves.specs.Faults.{refusal}
use Rattle.sheets.proofs.Places.{ready-within}
use Rattle.sheets.specs.Index.{sheet_in, entry}
use Rattle.merges.specs.declared.Entry.TheVariants.{First, Second}
use Rattle.merges.specs.declared.Turn.{Turn}
use Rattle.merges.specs.declared.Joined.{Joined}
use Rattle.merges.specs.declared.Span.{Span}
use Rattle.merges.specs.Merge.{joined_from, next_entry, TurnIs, joined_left, Goes, JoinedGives, span_of, measured_all}

-- What is left of a sheet after i entries begins with entry i.
rest : (σ : Sheet) (i : ℕ) → i < length σ → drop i σ ≡ entry σ i ∷ drop (i + 1) σ
rest σ i h = rw add-one (drop-cons σ i _ h)

-- What is left of a rising sheet rises from any number that entry i, if there is one, is not below.
rest-rises : (n m : ℕ) (σ : Sheet) (i : ℕ) → RisingFrom n σ → (i < length σ → m ≤ (entry σ i).number) → RisingFrom m (drop i σ)
unfolding RisingFrom
rest-rises n m [] i r h = rw drop-nil tt
rest-rises n m (e ∷ es) zero r h = (h (omega arith), r.1)
rest-rises n m (e ∷ es) (suc i) r h = rest-rises (suc e.number) m es i r.1 (λ l. h (omega arith))

-- After entry i, larger numbers are left.
after-rises : (σ : Sheet) (i : ℕ) → Rising σ → i < length σ → RisingFrom (suc (entry σ i).number) (drop (i + 1) σ)
unfolding RisingFrom
after-rises σ i r h = (rw (rest σ i h) at (rest-rises 0 0 σ i r (λ _. omega arith))).1

-- After all entries of both sheets, nothing is left.
pub joined_end : (σ τ : Sheet) (i j : ℕ) → length σ ≤ i → length τ ≤ j → joined_from σ τ i j ≡ []
unfolding over each
joined_end σ τ i j a b = rw (drop_of_length-le σ a, drop_of_length-le τ b)

module _ (s : Joined) (n : ℕ) where
  -- the two sheets
  abbrev σ : Sheet
  σ = sheet_in s.first.now.bytes.now

  abbrev τ : Sheet
  τ = sheet_in s.second.now.bytes.now

  -- Their numbers rise.
  rises : Rising σ × Rising τ
  rises = ((ready-within s.first.now.ready).rising, (ready-within s.second.now.ready).rising)

  -- as many of them passed
  abbrev passed : ℕ → ℕ → Joined
  passed i j = record { first = s.first; second = s.second; i = i; j = j }

  -- The first's entry comes next, where the second's number is larger or the second has no more.
  pub first_next : s.i < length σ → (s.j < length τ → (entry σ s.i).number < (entry τ s.j).number) → n ≡ (entry σ s.i).number
      → Goes s (record { entry = First s.i; blank = n }) (passed (s.i + 1) s.j)
  unfolding each
  first_next h l z =
      let a = each-rising (fill τ) _ (drop (s.i + 1) σ) (after-rises σ s.i rises.0 h) in
      let b = rest-rises 0 (suc (entry σ s.i).number) τ s.j rises.1 (λ m. omega (arith, l m)) in
      record {
        first = refl;
        second = refl;
        turn = record {
          there = h;
          next = refl;
          blank = z;
          goes = rw (rest σ s.i h) (over-less (next_entry σ τ (First s.i)) (each (fill τ) (drop (s.i + 1) σ)) (drop s.j τ) a b);
          onward = omega arith;
          first = λ a. omega arith;
          second = λ a. omega arith;
          fewer = omega arith;
        };
      }

  -- So it does where both have one number, and the second's is passed too.
  pub both_next : s.i < length σ → s.j < length τ → (entry σ s.i).number ≡ (entry τ s.j).number → n ≡ (entry σ s.i).number
      → Goes s (record { entry = First s.i; blank = n }) (passed (s.i + 1) (s.j + 1))
  unfolding each
  both_next h k e z =
      let a = each-rising (fill τ) _ (drop (s.i + 1) σ) (after-rises σ s.i rises.0 h) in
      record {
        first = refl;
        second = refl;
        turn = record {
          there = h;
          next = refl;
          blank = z;
          goes = rw (rest σ s.i h, rest τ s.j k) (over-same (next_entry σ τ (First s.i)) (entry τ s.j) (each (fill τ) (drop (s.i + 1) σ)) (drop (s.j + 1) τ) e a);
          onward = omega arith;
          first = λ a. omega arith;
          second = λ a. omega arith;
          fewer = omega arith;
        };
      }

  -- The second's entry comes next, where the first's number is larger or the first has no more.
  pub second_next : s.j < length τ → (s.i < length σ → (entry τ s.j).number < (entry σ s.i).number) → n ≡ (entry τ s.j).number
      → Goes s (record { entry = Second s.j; blank = n }) (passed s.i (s.j + 1))
  second_next k l z =
      let a = rest-rises 0 (suc (entry τ s.j).number) σ s.i rises.0 (λ m. omega (arith, l m)) in
      record {
        first = refl;
        second = refl;
        turn = record {
          there = k;
          next = refl;
          blank = z;
          goes = rw (rest τ s.j k) (over-more (each (fill τ) (drop s.i σ)) (entry τ s.j) (drop (s.j + 1) τ) (each-rising (fill τ) _ (drop s.i σ) a));
          onward = omega arith;
          first = λ a. omega arith;
          second = λ a. omega arith;
          fewer = omega arith;
        };
      }

-- the entries that come are those of two sheets, joined
pub record Over (σ τ : Sheet) (s : Joined) : Type 0 where
  pub first : sheet_in s.first.now.bytes.now ≡ σ
  pub second : sheet_in s.second.now.bytes.now ≡ τ

module _ {σ τ : Sheet} {s : Joined} (o : Over σ τ s) where
  -- So they are after a turn,
  pub over_turn : {t : Turn} {u : Joined} → Goes s t u → Over σ τ u
  over_turn g = record { first = rw g.first o.first; second = rw g.second o.second }

  -- which is one of those two sheets.
  pub turn_is : {t : Turn} {u : Joined} → Goes s t u → TurnIs σ τ s.i s.j t u.i u.j
  turn_is g = rw (o.first, o.second) at g.turn

  -- Where nothing is left, nothing of those two is.
  pub over_end : joined_left s ≡ [] → joined_from σ τ s.i s.j ≡ []
  over_end e = rw (o.first, o.second) at e

module _ {σ τ : Sheet} {i j k l : ℕ} {t : Turn} {s : Span} (is : TurnIs σ τ i j t k l) (e : s ≡ span_of (next_entry σ τ t.entry)) (bytes : ℕ) where
  -- Where the entry that comes next is too deep, its blank is what the entries measure as.
  pub turn_deep : max_levels < s.depth → measured_all (joined_from σ τ i j) bytes ≡ Err (refusal made_too_deep t.blank)
  unfolding measured_all
  turn_deep h = let k = rw e at h in rw (is.goes, is.blank, lt-ltb max_levels _ k)

  -- So where it is not, and too long.
  pub turn_long : s.depth ≤ max_levels → max_bytes < s.length → measured_all (joined_from σ τ i j) bytes ≡ Err (refusal made_too_long t.blank)
  unfolding measured_all
  turn_long h l = let k = rw e at h in let m = rw e at l in rw (is.goes, is.blank, le-ltb max_levels _ k, lt-ltb max_bytes _ m)

  -- Else the others do, after its bytes.
  pub turn_fits : s.depth ≤ max_levels → s.length ≤ max_bytes → measured_all (joined_from σ τ i j) bytes ≡ measured_all (joined_from σ τ k l) (bytes + s.length)
  unfolding measured_all
  turn_fits h l = let k = rw e at h in let m = rw e at l in rw (is.goes, le-ltb max_levels _ k, le-ltb max_bytes _ m, e)

-- The turns are as many as the entries that are left: each has the blank of one of them.
pub turns_counted : (s : Joined) (n : ℕ) → (xs : List Turn) × Drains JoinedGives s xs × (n ≡ length xs) → n ≡ length (joined_left s)
turns_counted s n h =
    count_from_yields_List s n h (YieldsList-from_shown JoinedGives (λ t. t.blank) blanks (λ s t e. rw e refl) (λ s t u g. rw (g.turn.goes, g.turn.blank, g.first, g.second) refl) s)
    ∙ length-map (joined_left s) (λ e. e.number)
  where
    blanks : Joined → List ℕ
    blanks s = map (λ e. e.number) (joined_left s)
