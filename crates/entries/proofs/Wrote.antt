-- Laws of what was written into a lent buffer, and of the place after it (specs/Entries.antt, `Wrote`).
--     wrote_none     where nothing is written, the buffer and the place stay
--     wrote_after    what is written right after joins what was written
-- Assumes nothing.
use mathlib.Core.Path.{sym}
use mathlib.Core.List.{List, [], ◌++◌}
use Prim.Native.Nat.{ℕ}
use native.Mathlib.Omega.{arith}
use lib.ListN.{length, length-append}
use Rattle.buffers.proofs.Written.{written_none, written_after}
use Rattle.entries.specs.Entries.{Wrote, Room}

-- Where nothing is written, the buffer and the place stay.
pub wrote_none : (d : List ℕ) (to : ℕ) → Wrote d d to [] to
wrote_none d to = record { after = omega arith; wrote = sym (written_none d to) }

-- What is written right after joins what was written.
pub wrote_after : {d e f u v : List ℕ} {to next r : ℕ} → Room (length d) to u → Wrote d e to u next → Wrote e f next v r → Wrote d f to (u ++ v) r
wrote_after {d} {u = u} {v = v} {to = to} h p q =
    record {
      after = rw length-append (omega arith);
      wrote = cc (written_after d to u v h, p.after, p.wrote, q.wrote);
    }
