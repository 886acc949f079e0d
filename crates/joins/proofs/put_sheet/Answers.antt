-- `joins::put_sheet` meets its contract.
use Rattle.meaning.specs.Sheet.{join}
use Rattle.sheets.specs.Index.{sheet_in}
use Rattle.joins.proofs.Putting.{put-counts}
use Rattle.joins.proofs.put_sheet.Goals as goal

pub returns : goal.returns
returns c = let s = c.args in let p = c.requires in let σ = join (sheet_in s.first.now.bytes.now) (sheet_in s.second.now.bytes.now) in
    put-counts s.out.now σ s.count s.bytes _ _ _ p.0 p.3 p.5 c.put_entries.ensures c.put_two.ensures c.put_two-2.ensures
