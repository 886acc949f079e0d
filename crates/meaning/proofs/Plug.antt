-- Replacing all blanks at one moment.
--     plug-plug      one replacement after another is one replacement
--     plug-blank     blanks in their own places change nothing
--     plug-proper    what is made of proper shapes is proper
--     fields-kept, parameters-kept     there are as many fields and parameters
-- Assumes nothing.
use Prim.Native.Nat.{ℕ, suc, ◌<◌}
use mathlib.Core.Path.{◌≡◌, refl, ap, ap₂}
use Rattle.meaning.specs.Shape.{Sort, fields, parameters, Tree, prim, blank, array_of, map_of, record_of, function_of, symbol_of, no_fields, field, no_parameters, parameter, Shape, count, Proper}
use Rattle.meaning.specs.Sheet.{plug}

-- One replacement after another is one replacement, of each blank by what the second makes of the first's shape for it.
pub plug-plug : {k : Sort} (σ τ : ℕ → Shape) (t : Tree k) → plug τ (plug σ t) ≡ plug (λ n. plug τ (σ n)) t
unfolding plug
plug-plug σ τ (prim p) = refl
plug-plug σ τ (blank n) = refl
plug-plug σ τ (array_of s) = ap array_of (plug-plug σ τ s)
plug-plug σ τ (map_of s t) = ap₂ map_of (plug-plug σ τ s) (plug-plug σ τ t)
plug-plug σ τ (record_of f) = ap record_of (plug-plug σ τ f)
plug-plug σ τ (function_of p r) = ap₂ function_of (plug-plug σ τ p) (plug-plug σ τ r)
plug-plug σ τ (symbol_of ts) = refl
plug-plug σ τ no_fields = refl
plug-plug σ τ (field n s f) = ap₂ (field n) (plug-plug σ τ s) (plug-plug σ τ f)
plug-plug σ τ no_parameters = refl
plug-plug σ τ (parameter s p) = ap₂ parameter (plug-plug σ τ s) (plug-plug σ τ p)

-- Every blank put in its own place changes nothing.
pub plug-blank : {k : Sort} (t : Tree k) → plug blank t ≡ t
unfolding plug
plug-blank (prim p) = refl
plug-blank (blank n) = refl
plug-blank (array_of s) = ap array_of (plug-blank s)
plug-blank (map_of s t) = ap₂ map_of (plug-blank s) (plug-blank t)
plug-blank (record_of f) = ap record_of (plug-blank f)
plug-blank (function_of p r) = ap₂ function_of (plug-blank p) (plug-blank r)
plug-blank (symbol_of ts) = refl
plug-blank no_fields = refl
plug-blank (field n s f) = ap₂ (field n) (plug-blank s) (plug-blank f)
plug-blank no_parameters = refl
plug-blank (parameter s p) = ap₂ parameter (plug-blank s) (plug-blank p)

-- A proper tree in which each blank becomes a proper shape is proper.
pub plug-proper : {k : Sort} (σ : ℕ → Shape) (t : Tree k) → ((n : ℕ) → n < 65536 → Proper (σ n)) → Proper t → Proper (plug σ t)
unfolding plug Proper
plug-proper σ (prim p) h u = tt
plug-proper σ (blank n) h u = h n u
plug-proper σ (array_of s) h u = plug-proper σ s h u
plug-proper σ (map_of s t) h u = (plug-proper σ s h u.0, plug-proper σ t h u.1)
plug-proper σ (record_of f) h u = plug-proper σ f h u
plug-proper σ (function_of p r) h u = (plug-proper σ p h u.0, plug-proper σ r h u.1)
plug-proper σ (symbol_of ts) h u = u
plug-proper σ no_fields h u = tt
plug-proper σ (field n s f) h u = (u.0, plug-proper σ s h u.1, plug-proper σ f h u.2)
plug-proper σ no_parameters h u = tt
plug-proper σ (parameter s p) h u = (plug-proper σ s h u.0, plug-proper σ p h u.1)

-- A replacement keeps how many fields there are,
pub fields-kept : (σ : ℕ → Shape) (f : Tree fields) → count (plug σ f) ≡ count f
unfolding plug count
fields-kept σ no_fields = refl
fields-kept σ (field n s f) = ap suc (fields-kept σ f)

-- and how many parameters.
pub parameters-kept : (σ : ℕ → Shape) (p : Tree parameters) → count (plug σ p) ≡ count p
unfolding plug count
parameters-kept σ no_parameters = refl
parameters-kept σ (parameter s p) = ap suc (parameters-kept σ p)
