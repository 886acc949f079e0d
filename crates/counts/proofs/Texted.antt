-- The text in the bytes of a name stands after its length.
--     text_in_lem       it is the text that was written, if it is short enough for its length
--     text-none     where there are no bytes, there is no text
-- Assumes nothing.
use mathlib.Core.Path.{◌≡◌, refl}
use mathlib.Core.List.{[]}
use Prim.Native.Nat.{◌<◌}
use native.Mathlib.Nat.{zero-add}
use native.Mathlib.Omega.{arith}
use lib.ListN.{length}
use lib.Seq.{drop-nil, drop-append_seam}
use Rattle.meaning.specs.Shape.{Text}
use Rattle.meaning.specs.Encode.{text_bytes}
use Rattle.steps.proofs.Places.{leb-at}
use Rattle.counts.specs.Pieces.{text_from, text_in}

-- The text in the bytes of a text is that text.
pub text_in_lem : (t : Text) → length t < 16384 → text_in (text_bytes t) ≡ t
unfolding text_from
text_in_lem t h = rw (leb-at (text_bytes t) 0 (length t) t h (omega arith) refl, zero-add, drop-append_seam)

-- There is none in no bytes.
pub text-none : text_in [] ≡ []
text-none = drop-nil (text_from [])
