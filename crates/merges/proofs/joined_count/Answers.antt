-- `merges::joined_count` meets its contract.
use native.Mathlib.Omega.{arith}
use mathlib.Core.Path.{refl, ◌∙◌, ap}
use mathlib.Core.Logic.{inl}
use lib.ListN.{length}
use Rattle.sheets.proofs.Places.{ready-within}
use Rattle.merges.proofs.Merging.{turns_counted}
use Rattle.merges.proofs.joined_count.Goals as goal

pub count-requires-clause-fits : goal.count-requires-clause-fits
count-requires-clause-fits c = let s = c.new.result in inl (omega (arith, (ready-within s.first.now.ready).few, (ready-within s.second.now.ready).few))

pub returns : goal.returns
returns c = let e = c.new.ensures in turns_counted c.new.result c.count.result c.count.ensures.ran ∙ ap length (rw (e.first, e.second, e.i, e.j) refl)
