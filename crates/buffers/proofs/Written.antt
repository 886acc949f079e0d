-- Laws of what is written into a buffer.
--     written-length     the buffer keeps its length
--     written_none       nothing written changes nothing
--     written_one        a store writes one byte
--     written_after      what is written right after joins what was written
--     written-before     so does what is written right before
--     written_apart      what is written before a run, apart from it, may as well be written first
--     part-more          one byte more of a part
--     part-slice         a part of a slice, as the code has it
--     buffer-made        what is written from the front on is what a buffer holds after that answer
-- Assumes nothing.
use mathlib.Core.Path.{◌≡◌, sym, ◌∙◌}
use mathlib.Core.List.{List, [], ◌∷◌, ◌++◌, append_assoc}
use Prim.Native.Nat.{ℕ, suc, ◌+◌, ◌-◌, ◌≤◌, ◌<◌}
use native.Mathlib.Nat.{add-zero, zero-add, add_assoc}
use native.Mathlib.Omega.{arith}
use native.Mathlib.Numerals.{add-one}
use lib.ListN.{length, take, drop, set, get_or, length-append, length-drop, take-append-drop}
use lib.Seq.{slice, set_split, length-take-le, length-slice, take_at, drop_at, drop-drop, drop-append-le, take-append-le, take-take, take-suc}
use Rattle.std.proofs.lemmas.List.{drop-take}
use Rattle.meaning.specs.Answers.{answered, buffer_after}
use Rattle.buffers.specs.Written.{written}

pub written-length : (d : List ℕ) (to : ℕ) (w : List ℕ) → to + length w ≤ length d → length (written d to w) ≡ length d
unfolding written
written-length d to w h =
    let k : to ≤ length d = omega arith in
    simp (length-append, length-drop, length-take-le to d k) (omega arith)

pub written_none : (d : List ℕ) (to : ℕ) → written d to [] ≡ d
unfolding written
written_none d to = rw add-zero (take-append-drop to d)

pub written_one : (d : List ℕ) (to b : ℕ) → to < length d → set d to b ≡ written d to (b ∷ [])
unfolding written
written_one d to b h = rw add-one (set_split d to b h)

seam : (p x q y : List ℕ) (n : ℕ) → length (p ++ x) ≡ n → take n ((p ++ x) ++ q) ++ (y ++ drop (n + length y) ((p ++ x) ++ q)) ≡ p ++ ((x ++ y) ++ drop (length y) q)
seam p x q y n l = rw (take_at (p ++ x) q n l, ← drop-drop (length y) n ((p ++ x) ++ q), drop_at (p ++ x) q n l) (simp append_assoc)

pub written_after : (d : List ℕ) (to : ℕ) (x y : List ℕ) → to + length x ≤ length d → written (written d to x) (to + length x) y ≡ written d to (x ++ y)
unfolding written
written_after d to x y h =
    let k : to ≤ length d = omega arith in
    let l : length (take to d ++ x) ≡ to + length x = rw (length-append, length-take-le to d k) in
    rw (← append_assoc (take to d) x (drop (to + length x) d), seam (take to d) x (drop (to + length x) d) y (to + length x) l, drop-drop, length-append)
    (rw add_assoc)

pub written-before : (d : List ℕ) (to : ℕ) (x y : List ℕ) → to + length x + length y ≤ length d → written (written d (to + length x) y) to x ≡ written d to (x ++ y)
unfolding written
written-before d to x y h =
    let n : ℕ = to + length x in
    let l : length (take n d) ≡ n = length-take-le n d (omega arith) in
    rw (drop_at (take n d) (y ++ drop (n + length y) d) n l, take-append-le to (take n d) (y ++ drop (n + length y) d) (rw l (omega arith)), take-take to n d (omega arith), length-append, append_assoc, add_assoc)

-- What stands there, written there, changes nothing.
written_same : (d : List ℕ) (from to : ℕ) → from ≤ to → to ≤ length d → written d from (slice from to d) ≡ d
unfolding written
written_same d from to h k =
    let l : from + length (slice from to d) ≡ to = omega (arith, length-slice from to d k) in
    let m : from ≤ length (take to d) = rw (length-take-le to d k) h in
    rw (l, ← drop-append-le from (take to d) (drop to d) m, take-append-drop to d) (take-append-drop from d)

pub written_apart : (d : List ℕ) (to at : ℕ) (x y : List ℕ) → to + length x ≤ at → at + length y ≤ length d → written (written d at y) to x ≡ written (written d to x) at y
written_apart d to at x y h k =
    let n : ℕ = to + length x in
    let g : List ℕ = slice n at d in
    let s : written d n g ≡ d = written_same d n at h (omega arith) in
    let l : length g ≡ at - n = length-slice n at d (omega arith) in
    let m : n + length g ≡ at = omega arith in
    let o : to + length (x ++ g) ≡ at = omega (arith, length-append x g) in
    let p : written d at y ≡ written d n (g ++ y) = rw (m, s) at (written_after d n g y (omega arith)) in
    let q : written d to x ≡ written d to (x ++ g) = rw s at (written-before d to x g (omega arith)) in
    let u : written (written d to (x ++ g)) at y ≡ written d to ((x ++ g) ++ y) = rw o at (written_after d to (x ++ g) y (omega arith)) in
    rw (p, q, u, append_assoc) (written-before d to x (g ++ y) (rw length-append (omega arith)))

slice-more : (s : List ℕ) (from i : ℕ) → from + i < length s → slice from (from + (i + 1)) s ≡ slice from (from + i) s ++ (get_or s (from + i) 0 ∷ [])
slice-more s from i h =
    let z : from + (i + 1) ≡ suc (from + i) = omega arith in
    rw (z, take-suc s (from + i) 0 h) (drop-append-le from (take (from + i) s) _ (rw (length-take-le (from + i) s (omega arith)) (omega arith)))

pub part-more : (d : List ℕ) (to : ℕ) (s : List ℕ) (from i : ℕ) → from + i < length s → to + i < length d
    → set (written d to (slice from (from + i) s)) (to + i) (get_or s (from + i) 0) ≡ written d to (slice from (from + (i + 1)) s)
part-more d to s from i h k =
    let l : length (slice from (from + i) s) ≡ i = length-slice from (from + i) s (omega arith) ∙ omega arith in
    let m : to + length (slice from (from + i) s) ≤ length d = rw l (omega arith) in
    written_one (written d to (slice from (from + i) s)) (to + i) (get_or s (from + i) 0) (rw (written-length d to (slice from (from + i) s) m) k)
    ∙ rw (slice-more s from i h) (rw l at (written_after d to (slice from (from + i) s) (get_or s (from + i) 0 ∷ []) m))

pub buffer-made : (d w : List ℕ) → written d 0 w ≡ buffer_after d (answered w)
unfolding written buffer_after
buffer-made d w = rw zero-add

-- A part of a slice, as the code has it: so many items after the first ones.
pub part-slice : (from to : ℕ) (s : List ℕ) → from ≤ to → take (to - from) (drop from s) ≡ slice from to s
part-slice from to s h = let e : from + (to - from) ≡ to = omega arith in sym (rw e at (drop-take from (to - from) s))
