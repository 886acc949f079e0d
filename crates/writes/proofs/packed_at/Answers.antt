-- `writes::packed_at` meets its contract.
use native.Mathlib.Omega.{arith}
use mathlib.Core.Path.{refl}
use Rattle.writes.proofs.Peeks.{peek-small, array_long, array-packed, map-long, map-half, map-packed}
use Rattle.writes.proofs.packed_at.Goals as goal

pub returns-in_err-item-in-Array : goal.returns-in_err-item-in-Array
returns-in_err-item-in-Array c = rw (c.in-Array.is, c.from_residual.ensures) (array_long _ _ _ c.in_err-item-in-Array.ensures)

pub overflow_add-result : goal.overflow_add-result
overflow_add-result c = let p = peek-small _ _ _ _ c.in_ok-item-in-Array.ensures in record { fits = omega arith }

pub returns-in_ok-item-in-Array : goal.returns-in_ok-item-in-Array
returns-in_ok-item-in-Array c = rw c.in-Array.is (array-packed _ _ _ _ _ c.in_ok-item-in-Array.ensures refl)

pub returns-in_err-key-in-Map : goal.returns-in_err-key-in-Map
returns-in_err-key-in-Map c = rw (c.in-Map.is, c.from_residual-in_err-key-in-Map.ensures) (map-long _ _ _ c.in_err-key-in-Map.ensures)

pub returns-in_err-value-in-Map : goal.returns-in_err-value-in-Map
returns-in_err-value-in-Map c = rw (c.in-Map.is, c.from_residual-in_err-value-in-Map.ensures) (map-half _ _ _ _ c.in_ok-key-in-Map.ensures c.in_err-value-in-Map.ensures)

pub overflow_mul-result : goal.overflow_mul-result
overflow_mul-result c = let p = peek-small _ _ _ _ c.in_ok-key-in-Map.ensures in record { fits = omega arith }

pub overflow_add-result-in-Map : goal.overflow_add-result-in-Map
overflow_add-result-in-Map c = let p = peek-small _ _ _ _ c.in_ok-key-in-Map.ensures in record { fits = omega arith }

pub overflow_add-result-in-Map-2 : goal.overflow_add-result-in-Map-2
overflow_add-result-in-Map-2 c =
    let p = peek-small _ _ _ _ c.in_ok-key-in-Map.ensures in
    let q = peek-small _ _ _ _ c.in_ok-value-in-Map.ensures in
    record { fits = omega arith }

pub returns-in_ok-value-in-Map : goal.returns-in_ok-value-in-Map
returns-in_ok-value-in-Map c = rw c.in-Map.is (map-packed _ _ _ _ c.in_ok-key-in-Map.ensures _ _ c.in_ok-value-in-Map.ensures refl)
