-- `merges::span_at` meets its contract.
use Rattle.sheets.specs.Index.{blank_in}
use Rattle.merges.proofs.Filling.{span_filled}
use Rattle.merges.proofs.span_at.Goals as goal

pub returns-in-First : goal.returns-in-First
returns-in-First c = let a = c.args in rw c.in-First.is (span_filled c.entry-part.ensures (blank_in a.second.now.bytes.now) c.measure-size.result c.measure-size.ensures)
