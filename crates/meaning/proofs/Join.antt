-- Filling and joining.
--     fill-join       filling with the joined sheet is filling twice
--     fill-empty      the empty sheet changes no shape
--     find-join       what is found in the joined sheet
--     join-rising     a joined sheet rises
--     join-assoc      three sheets are joined alike however they are paired
--     empty-join, join-empty       the empty sheet changes no sheet
--     fill-proper, join-proper     what is made of proper shapes is proper
-- Assumes nothing.
use Prim.Native.Nat.{ℕ, ◌<◌}
use mathlib.Core.Path.{◌≡◌, refl, sym, ◌∙◌, ap, fun_ext}
use mathlib.Core.Option.{Option, none, some, or_else, map}
use mathlib.Core.List.{[], ◌∷◌}
use Rattle.meaning.specs.Shape.{Sort, Tree, Shape, Proper}
use Rattle.meaning.specs.Numbered.{Numbered, RisingFrom, Rising, All, find, over, each}
use Rattle.meaning.specs.Sheet.{plug, Sheet, or_blank, at, fill, join}
use Rattle.meaning.proofs.Plug.{plug-plug, plug-blank, plug-proper}
use Rattle.meaning.proofs.Numbered.{find-over, find-each, over-rising, each-rising, over-all, find-all, same-list}

-- In the joined sheet is found the first sheet's shape, filled by the second, or else the second's.
pub find-join : (σ τ : Sheet) (n : ℕ) → find (join σ τ) n ≡ or_else (map (fill τ) (find σ n)) (find τ n)
find-join σ τ n = rw (find-over, find-each)

-- The joined sheet makes of a blank what the second makes of what the first makes of it.
at_join : (σ τ : Sheet) (n : ℕ) → at (join σ τ) n ≡ fill τ (at σ n)
unfolding or_blank or_else plug
at_join σ τ n = rw find-join (go (find σ n))
  where
    go : (o : Option Shape) → or_blank (or_else (map (fill τ) o) (find τ n)) n ≡ fill τ (or_blank o n)
    go none = refl
    go (some s) = refl

-- Filling with the joined sheet is filling twice.
pub fill-join : {k : Sort} (σ τ : Sheet) (t : Tree k) → fill (join σ τ) t ≡ fill τ (fill σ t)
fill-join σ τ t = rw plug-plug (ap (λ (f : ℕ → Shape). plug f t) (fun_ext (at_join σ τ)))

-- The empty sheet changes no shape.
pub fill-empty : {k : Sort} (t : Tree k) → fill [] t ≡ t
unfolding find or_blank
fill-empty t = plug-blank t

-- A joined sheet rises, if both sheets do.
pub join-rising : (σ τ : Sheet) → Rising σ → Rising τ → Rising (join σ τ)
join-rising σ τ r s = over-rising 0 (each (fill τ) σ) τ (each-rising (fill τ) 0 σ r) s

-- Three rising sheets are joined alike however they are paired.
pub join-assoc : (ρ σ τ : Sheet) → Rising ρ → Rising σ → Rising τ → join (join ρ σ) τ ≡ join ρ (join σ τ)
unfolding or_else
join-assoc ρ σ τ p q r = same-list 0 _ _ (join-rising (join ρ σ) τ (join-rising ρ σ p q) r) (join-rising ρ (join σ τ) p (join-rising σ τ q r)) found
  where
    by_first_lem : (n : ℕ) (o : Option Shape) → or_else (map (fill τ) (or_else (map (fill σ) o) (find σ n))) (find τ n) ≡ or_else (map (fill (join σ τ)) o) (or_else (map (fill τ) (find σ n)) (find τ n))
    by_first_lem n none = refl
    by_first_lem n (some s) = ap some (sym (fill-join σ τ s))

    found : (n : ℕ) → find (join (join ρ σ) τ) n ≡ find (join ρ (join σ τ)) n
    found n = rw (find-join (join ρ σ) τ n, find-join ρ σ n, find-join ρ (join σ τ) n, find-join σ τ n) (by_first_lem n (find ρ n))

-- The empty sheet, joined with a second, is the second.
pub empty-join : (σ : Sheet) → join [] σ ≡ σ
unfolding over each
empty-join σ = refl

-- A rising sheet, joined with the empty sheet, is itself.
pub join-empty : (σ : Sheet) → Rising σ → join σ [] ≡ σ
unfolding or_else find RisingFrom
join-empty σ r = same-list 0 _ _ (join-rising σ [] r tt) r (λ n. find-join σ [] n ∙ by_first_lem n (find σ n))
  where
    by_first_lem : (n : ℕ) (o : Option Shape) → or_else (map (fill []) o) (find [] n) ≡ o
    by_first_lem n none = refl
    by_first_lem n (some s) = ap some (fill-empty s)

-- an entry of a blank from 0 to 65,535 and a proper shape
abbrev pub ProperEntry : Numbered Shape → Type 0
ProperEntry e = (e.number < 65536) × Proper e.item

-- A proper tree filled by a sheet of proper entries is proper.
pub fill-proper : {k : Sort} (σ : Sheet) (t : Tree k) → All ProperEntry σ → Proper t → Proper (fill σ t)
unfolding or_blank Proper
fill-proper σ t a u = plug-proper (at σ) t (λ n h. go n h (find σ n) refl) u
  where
    go : (n : ℕ) → n < 65536 → (o : Option Shape) → find σ n ≡ o → Proper (or_blank o n)
    go n h none e = h
    go n h (some s) e = (find-all ProperEntry σ n s a e).1

-- Two sheets of proper entries are joined to one.
pub join-proper : (σ τ : Sheet) → All ProperEntry σ → All ProperEntry τ → All ProperEntry (join σ τ)
unfolding All each
join-proper σ τ a b = over-all ProperEntry (each (fill τ) σ) τ (go σ a) b
  where
    go : (σ : Sheet) → All ProperEntry σ → All ProperEntry (each (fill τ) σ)
    go [] a = tt
    go (e ∷ es) a = ((a.0.0, fill-proper τ e.item b a.0.1), go es a.1)
