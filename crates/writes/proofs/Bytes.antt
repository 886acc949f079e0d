-- A part of a slice, as the code has it.
--     part-slice     it is the slice's bytes from a place up to another
-- Assumes nothing.
use mathlib.Core.Path.{◌≡◌, sym}
use mathlib.Core.List.{List}
use Prim.Native.Nat.{ℕ, ◌+◌, ◌-◌, ◌≤◌}
use native.Mathlib.Omega.{arith}
use lib.ListN.{take, drop}
use lib.Seq.{slice}
use Rattle.std.proofs.lemmas.List.{drop-take}

pub part-slice : (from to : ℕ) (s : List ℕ) → from ≤ to → take (to - from) (drop from s) ≡ slice from to s
part-slice from to s h = let e : from + (to - from) ≡ to = omega arith in sym (rw e at (drop-take from (to - from) s))
