-- The laws of reading that others cite.
--     read-encode, reading-encode      bytes to shape undoes shape to bytes
--     encode-reading                   shape to bytes undoes bytes to shape
--     by-reading                       what holds of encodings and of refused inputs holds of every input
--     nothing_left                     an input is read whole
--     accepts                          what is read is exactly what is written of the shapes within the limits
--     same_bytes, prefix-free, no_start     bytes and shape determine each other
--     within                           what is to be shown of a shape within the limits
-- Assumes nothing.
use Prim.Native.Nat.{ℕ, ◌≤◌}
use mathlib.Core.Path.{◌≡◌, refl, sym, ◌∙◌, ap}
use mathlib.Core.Logic.{◌↔◌}
use mathlib.Core.List.{List, [], ◌∷◌, ◌++◌, append-nil}
use native.Mathlib.Omega.{arith}
use lib.Dec.{ltb}
use lib.ListN.{length}
use borrow.Author.Tests.{ltb-false, le-ltb}
use Rattle.meaning.specs.Limits.{max_bytes, max_levels}
use Rattle.meaning.specs.Shape.{Shape, depth, Proper}
use Rattle.meaning.specs.Encode.{encode}
use Rattle.meaning.specs.Within.{Bytes, Within}
use Rattle.meaning.specs.Reading.{Reading, got, bad, next, read_shape, at_end, reading}
use Rattle.meaning.proofs.Complete.{reads}
use Rattle.meaning.proofs.Sound.{same-got, by_next, by-else, end, shape-right}
use Rattle.meaning.proofs.Written.{encode-bytes}

-- The encoding of a shape within the limits, whatever follows it and wherever its window ends, is read as that shape.
pub read-encode : (s : Shape) → Within s → (e : ℕ) (x : List ℕ) → read_shape max_levels e (encode s ++ x) ≡ got s x
read-encode s h = reads s max_levels h.shallow h.proper (omega (arith, h.short))

-- An input that is the encoding of a shape within the limits is read as that shape.
pub reading-encode : (s : Shape) → Within s → reading (encode s) ≡ got s []
unfolding reading next at_end
reading-encode s h = rw (le-ltb max_bytes (length (encode s)) h.short, whole)
  where
    whole : read_shape max_levels (length (encode s)) (encode s) ≡ got s []
    whole = rw append-nil at (read-encode s h (length (encode s)) [])

-- At the end of the input nothing is left over.
at-end : {s t : Shape} (e : ℕ) (w v : List ℕ) → at_end e s w ≡ got t v → (w ≡ []) × (s ≡ t) × (v ≡ [])
unfolding at_end
at-end e [] v h = (refl, (same-got h).0, sym (same-got h).1)
at-end e (b ∷ w) v h = (cc, cc, cc)

-- An input that is read as a shape is read whole.
pub nothing_left : (w : List ℕ) (s : Shape) (v : List ℕ) → reading w ≡ got s v → v ≡ []
unfolding reading
nothing_left w s v h =
    by-else (ltb max_bytes (length w)) _ _ _ h λ p h.
    by_next (read_shape max_levels (length w) w) _ h λ t u d h.
    (at-end (length w) u v h).2

-- An input that is read as a shape is the encoding of that shape, and the shape is within the limits.
pub encode-reading : (w : List ℕ) (s : Shape) (v : List ℕ) → Bytes w → reading w ≡ got s v → (w ≡ encode s) × Within s
unfolding reading
encode-reading w s v b h =
    by-else (ltb max_bytes (length w)) _ _ _ h λ p h.
    by_next (read_shape max_levels (length w) w) _ h λ t u d h.
    let g = at-end (length w) u v h in
    let took = shape-right max_levels (length w) w t u b d in
    let whole : w ≡ encode t = sym (end (encode t) took.is g.0) in
    rw (← g.1) (whole, record { short = rw (← whole) (ltb-false _ _ p); shallow = took.shallow; small = rw (← whole) b; proper = took.proper })

-- What holds of the encodings of the shapes within the limits, and of an input that is refused, holds of any input as it is read.
pub by-reading : (P : List ℕ → Reading Shape → Type 0) (w : List ℕ) → Bytes w → ((s : Shape) (v : List ℕ) → Within s → P (encode s) (got s v)) → ((n p : ℕ) → P w (bad n p)) → P w (reading w)
by-reading P w b h k = go (reading w) refl
  where
    go : (r : Reading Shape) → reading w ≡ r → P w r
    go (got s v) p = let e = encode-reading w s v b p in rw e.0 (h s v e.1)
    go (bad n q) p = k n q

-- The inputs that are read as a shape are exactly the encodings of the shapes within the limits.
pub accepts : (w : List ℕ) → (Bytes w × ((s : Shape) × (reading w ≡ got s []))) ↔ ((s : Shape) × (w ≡ encode s) × Within s)
accepts w = (λ a. let g = encode-reading w a.1.0 [] a.0 a.1.1 in (a.1.0, g.0, g.1), λ a. (rw a.1 a.2.small, (a.0, rw a.1 (reading-encode a.0 a.2))))

-- Where two encodings begin the same bytes they are of one shape, and the same bytes follow.
pub prefix-free : (a b : Shape) (x y : List ℕ) → Within a → Within b → encode a ++ x ≡ encode b ++ y → (a ≡ b) × (x ≡ y)
prefix-free a b x y h k e = same-got (sym (read-encode a h 0 x) ∙ ap (read_shape max_levels 0) e ∙ read-encode b k 0 y)

-- Two shapes within the limits have the same encoding exactly if they are the same.
pub same_bytes : (a b : Shape) → Within a → Within b → (encode a ≡ encode b) ↔ (a ≡ b)
same_bytes a b h k = (λ e. (prefix-free a b [] [] h k (ap (λ (w : List ℕ). w ++ []) e)).0, λ e. ap (λ (s : Shape). encode s) e)

-- No encoding is the start of another.
pub no_start : (a b : Shape) (x : List ℕ) → Within a → Within b → encode a ++ x ≡ encode b → x ≡ []
no_start a b x h k e = (prefix-free a b x [] h k (e ∙ sym (append-nil (encode b)))).1

-- A shape is within the limits if it is short, shallow and proper: its encoding is bytes.
pub within : (s : Shape) → length (encode s) ≤ max_bytes → depth s ≤ max_levels → Proper s → Within s
within s h d u = record { short = h; shallow = d; small = encode-bytes s u (omega arith); proper = u }
