-- Laws of the way of the text check through a window, `Onward`.
--     stay, follow, same_place     the way from a place to itself, two ways in turn, a way to the same place
--     char-on, ascii-on            a character takes the way past itself; so does a byte under 128
--     or-under                     one test for many bytes
--     stop-here, end-here          where the way ends, the text is well formed up to there
-- Assumes nothing.
use mathlib.Core.Path.{◌≡◌, refl, ◌∙◌}
use mathlib.Core.List.{List}
use Prim.Native.Nat.{ℕ, ◌+◌, ◌≤◌, ◌<◌}
use native.Mathlib.Omega.{arith}
use lib.Bits.{bit_or, or_add_and, and_le_l, and_le_r}
use lib.ListN.{length, get_or}
use lib.Seq.{slice}
use Rattle.meaning.specs.Utf8.{char_size, well_formed}
use Rattle.meaning.proofs.Rules.{tests}
use Rattle.meaning.proofs.Utf8.{char-le}
use Rattle.meaning.proofs.Window.{window-none, window-some, window-length, window-drop}
use Rattle.leaves.specs.Onward.{Onward}
use Rattle.leaves.proofs.Text.{well-on, well-stop}

-- There is a way from a place to itself.
pub stay : (s : List ℕ) (e a : ℕ) → a ≤ e → Onward s e a a
stay s e a h = record { after = omega arith; inside = h; same = refl }

-- Two ways in turn are a way.
pub follow : {s : List ℕ} {e a b c : ℕ} → Onward s e a b → Onward s e b c → Onward s e a c
follow p q = record { after = omega arith; inside = q.inside; same = p.same ∙ q.same }

-- A way to a place is one to the same place, written otherwise.
pub same_place : {s : List ℕ} {e a b c : ℕ} → Onward s e a b → b ≤ c → c ≤ b → Onward s e a c
same_place {s} {e} {a} {b} {c} p h k = let z : b ≡ c = omega arith in rw z at p

module _ (s : List ℕ) (a e : ℕ) (k : e ≤ length s) where
  -- A character of n bytes takes the text n on.
  pub char-on : (n : ℕ) → n ≡ char_size (slice a e s) → (n ≡ 0 → ⊥) → a < e → Onward s e a (a + n)
  char-on n h z l =
      let f = char-le (slice a e s) in let g = window-length s a e k in
      record {
        after = omega arith;
        inside = omega arith;
        same = rw (well-on (slice a e s) (λ q. z (h ∙ q)), ← h, window-drop s a e n) (omega arith);
      }

  -- A byte under 128 takes the text one on.
  pub ascii-on : a < e → get_or s a 0 < 128 → Onward s e a (a + 1)
  unfolding char_size
  ascii-on l b = char-on 1 (rw (window-some s a e l k) (search tests)) (λ z. absurd (omega arith)) l

-- Of two numbers whose bits together are under a bound, each is.
pub or-under : (a b n : ℕ) → bit_or a b < n → (a < n) × (b < n)
or-under a b n h =
    (omega (arith, or_add_and a b, and_le_r a b), omega (arith, or_add_and a b, and_le_l a b))

-- Where the way ends at no character, the text is well formed up to there.
pub stop-here : {s : List ℕ} {e a b : ℕ} → Onward s e a b → char_size (slice b e s) ≡ 0 → b ≡ a + well_formed (slice a e s)
stop-here {s} {e} {a} {b} p h = let q = p.same in let r = well-stop (slice b e s) h in omega arith

-- Where it ends at the window's end, too.
pub end-here : {s : List ℕ} {e a b : ℕ} → Onward s e a b → e ≤ b → b ≡ a + well_formed (slice a e s)
unfolding char_size
end-here {s} {e} {a} {b} p h = stop-here p (rw (window-none s b e h))
