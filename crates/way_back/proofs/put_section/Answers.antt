-- A section is its count in two bytes and what the shape adds to it.
use native.Mathlib.Omega.{arith}
use mathlib.Core.Path.{refl}
use Rattle.meaning.specs.Numbers.{two_bytes}
use Rattle.entries.proofs.Wrote.{wrote_after}
use Rattle.way_back.proofs.put_section.Goals as goal

pub returns : goal.returns
returns c = wrote_after {u = two_bytes c.args.count} (omega (arith, c.requires.3)) (record { after = refl; wrote = c.put_two.ensures }) c.put_at.ensures.wrote
