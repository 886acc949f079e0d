-- A shape of one byte (specs/Pieces.antt, `short_piece`).
--     short-blank, short-prim, short-array, short-map     what it is, by its byte
--     single-counts, array-counts, map-counts             how many entries it adds
--     kinds, numbers                                      those of the first line, and of the second
-- Assumes nothing.
use mathlib.Core.Path.{◌≡◌, refl}
use Prim.Native.Nat.{ℕ, ◌-◌, ◌/◌, ◌%◌, ◌≤◌, ◌<◌}
use native.Mathlib.Omega.{arith}
use lib.Dec.{ltb}
use lib.Seq.{drop-nil}
use borrow.Author.Tests.{lt-ltb, le-ltb}
use Rattle.meaning.specs.FirstByte.{short_blanks, prim_byte, array_byte, map_byte}
use Rattle.meaning.specs.Table.{variable_kind}
use Rattle.meaning.proofs.Rules.{rule}
use Rattle.payloads.specs.declared.first.Kind.TheVariants.{Array, Map}
use Rattle.counts.specs.Pieces.{many, Piece, single, list_piece, packed_array, packed_map, short_piece}

module _ (b : ℕ) where
  -- A short blank is one node.
  pub short-blank : b < short_blanks → short_piece b ≡ single variable_kind b 0
  unfolding short_piece
  short-blank h = rw (lt-ltb b short_blanks h)

  -- So is a primitive.
  pub short-prim : short_blanks ≤ b → b < array_byte 0 → short_piece b ≡ single (b - prim_byte 0) 0 0
  unfolding short_piece
  short-prim h k = rw (le-ltb b short_blanks h, lt-ltb b (array_byte 0) k)

  -- A packed Array is that of a primitive.
  pub short-array : array_byte 0 ≤ b → b < map_byte 0 0 → short_piece b ≡ list_piece Array (packed_array (b - array_byte 0))
  unfolding short_piece
  short-array h k = rw (le-ltb b short_blanks (omega arith), le-ltb b (array_byte 0) h, lt-ltb b (map_byte 0 0) k)

  -- A packed Map is that of two primitives.
  pub short-map : map_byte 0 0 ≤ b → short_piece b ≡ list_piece Map (packed_map ((b - map_byte 0 0) / 5) ((b - map_byte 0 0) % 5))
  unfolding short_piece
  short-map h = rw (le-ltb b short_blanks (omega arith), le-ltb b (array_byte 0) (omega arith), le-ltb b (map_byte 0 0) h)

  -- A blank or a primitive adds one node.
  pub single-counts : b < array_byte 0 → many 1 0 0 0 ≡ (short_piece b).counts
  unfolding short_piece
  single-counts h = rule (λ (v : Piece). many 1 0 0 0 ≡ v.counts) (ltb b short_blanks) _ _ (λ _. refl) (λ _. rw (lt-ltb b (array_byte 0) h))

  -- An Array of a primitive adds two nodes and a link,
  pub array-counts : array_byte 0 ≤ b → b < map_byte 0 0 → many 2 1 0 0 ≡ (short_piece b).counts
  array-counts h k = rw (short-array h k, drop-nil)

  -- a Map of two three nodes and two links.
  pub map-counts : map_byte 0 0 ≤ b → many 3 2 0 0 ≡ (short_piece b).counts
  map-counts h = rw (short-map h, drop-nil)

-- By its byte, what it is, and how many entries it adds.
pub ruleset kinds = (short-blank, short-prim, short-array, short-map)

pub ruleset numbers = (single-counts, array-counts, map-counts)
