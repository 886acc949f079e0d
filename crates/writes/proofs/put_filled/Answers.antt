-- `writes::put_filled` meets its contract.
use native.Mathlib.Omega.{arith}
use mathlib.Core.Path.{◌≡◌}
use Prim.Native.Nat.{ℕ, ◌≤◌}
use Rattle.meaning.specs.Shape.{Shape, blank}
use Rattle.meaning.specs.Encode.{blank_bytes, encode}
use Rattle.writes.proofs.Bytes.{part-slice}
use Rattle.writes.proofs.put_filled.Goals as goal

-- A blank that stays has a blank's bytes.
stays : (n : ℕ) (t : Shape) → t ≡ blank n → encode t ≡ blank_bytes n
unfolding encode
stays n t e = rw e

pub put_blank-requires : goal.put_blank-requires
put_blank-requires c = (c.requires.0, rw (stays _ _ c.in-None.ensures) at c.requires.1)

pub returns-in-None-clause-after : goal.returns-in-None-clause-after
returns-in-None-clause-after c = rw (stays _ _ c.in-None.ensures) c.put_blank.ensures.after

pub returns-in-None-clause-wrote : goal.returns-in-None-clause-wrote
returns-in-None-clause-wrote c = rw (stays _ _ c.in-None.ensures) c.put_blank.ensures.wrote

pub returns-in-Some-clause-wrote : goal.returns-in-Some-clause-wrote
returns-in-Some-clause-wrote c = let f = c.in-Some.ensures in let h : c.in-Some.part.start ≤ c.in-Some.part.end = omega (arith, f.some) in
    rw (part-slice _ _ c.args.sheet.now.bytes.now h, f.is) at c.put_bytes.ensures
