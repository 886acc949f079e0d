-- What the functions of the text check say to our own crates. Not to be believed: no exported contract cites it.
use Rattle.std.specs.Prelude.{◌≡◌, ℕ, ◌+◌, ◌≤◌, List}
use Rattle.std.proofs.Math.Seq.{slice}
use Rattle.meaning.specs.Utf8.{well_formed}

-- from a place to a place after it, in a window that ends at end: the text is well formed as far from the one as from the other
pub record Onward (s : List ℕ) (end from to : ℕ) : Type 0 where
  pub after : from ≤ to
  pub inside : to ≤ end
  pub same : from + well_formed (slice from end s) ≡ to + well_formed (slice to end s)
