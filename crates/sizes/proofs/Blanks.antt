-- What a sheet puts in for a blank, measured in its bytes.
--     found-size       where the sheet has an encoding, its size
--     blank-inside     else the blank stays
-- Assumes nothing.
use mathlib.Core.Path.{◌≡◌, refl, sym, ap, ◌∙◌}
use mathlib.Core.List.{List}
use mathlib.Core.Bool.{Bool, true, false}
use Prim.Native.Nat.{ℕ, ◌+◌, ◌-◌}
use native.Mathlib.Omega.{arith}
use lib.Dec.{ltb}
use lib.ListN.{length, take, drop}
use Rattle.std.proofs.lemmas.List.{drop-take}
use lib.Seq.{length-slice}
use borrow.Author.Tests.{lt-ltb, le-ltb, ne_eqb}
use Rattle.meaning.specs.Shape.{Shape, blank, depth}
use Rattle.meaning.specs.FirstByte.{code, short_blanks, prim_byte}
use Rattle.meaning.specs.Encode.{sized, as_prim, blank_bytes, encode}
use Rattle.meaning.proofs.Complete.{code-small}
use Rattle.meaning.proofs.Heads.{prim-by}
use Rattle.sheets.specs.Index.{blank_in, PartIs, part}
use Rattle.sizes.specs.Sizes.{size, is_some, size_of, prim_in, SizeInside}

-- An encoding is one byte, a primitive's, exactly if its shape is a primitive.
prim-list : (t : Shape) → prim_in (encode t) ≡ is_some (as_prim t)
unfolding prim_in
prim-list =
    prim-by prim_in is_some
    (λ p. rw (le-ltb (prim_byte (code p)) 32 (omega arith), lt-ltb (prim_byte (code p)) 37 (omega (arith, code-small p))))
    (λ b h. rw (lt-ltb b 32 h))
    (λ b h. rw (le-ltb b 32 (omega arith), le-ltb b 37 h))
    (λ k q. rw (ne_eqb (length (sized k q)) 1 (omega arith)))

module _ (s : List ℕ) (n start end d : ℕ) (f : PartIs s (blank_in s n) (part start end d)) where
  -- The encoding is as long as its place is.
  found-length : end - start ≡ length (encode (blank_in s n))
  found-length = sym (length-slice start end s f.inside) ∙ ap length f.is

  -- It is the bytes there.
  found-bytes : take (end - start) (drop start s) ≡ encode (blank_in s n)
  found-bytes = let e : start + (end - start) ≡ end = omega (arith, f.some) in sym (drop-take start (end - start) s) ∙ rw e f.is

  -- So its size is that of what becomes of the blank,
  pub found-size : size (end - start) d (prim_in (take (end - start) (drop start s))) ≡ size_of (blank_in s n)
  found-size = rw (found-bytes, found-length, prim-list (blank_in s n), f.deep)

-- A blank that stays is within the limits.
pub blank-inside : (n : ℕ) → SizeInside (size_of (blank n))
unfolding encode blank_bytes depth
blank-inside n = go (ltb n short_blanks) refl
  where
    go : (u : Bool) → ltb n short_blanks ≡ u → SizeInside (size_of (blank n))
    go true p = rw p (omega arith, omega arith)
    go false p = rw p (omega arith, omega arith)
