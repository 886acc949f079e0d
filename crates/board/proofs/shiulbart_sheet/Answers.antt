-- `board::shiulbart_sheet` meets its contract: what is said of a sheet fits, and is what the call says.
use native.Mathlib.Omega.{arith}
use mathlib.Core.Path.{◌∙◌, ap}
use Rattle.meaning.proofs.Window.{bytes-by-index}
use Rattle.answers.specs.Answers.{said_put, sound_put}
use Rattle.answers.proofs.Small.{exported-sheet}
use Rattle.board.proofs.shiulbart_sheet.Goals as goal

pub in_numbers-requires : goal.in_numbers-requires
in_numbers-requires c = let w = c.args.sheet.now in rw c.check.ensures (exported-sheet w (bytes-by-index w (λ i. omega (arith, c.type_inv.sheet i)))).fits

pub returns : goal.returns
returns c = let w = c.args.sheet.now in c.in_numbers.ensures ∙ ap (said_put sound_put) c.check.ensures ∙ (exported-sheet w (bytes-by-index w (λ i. omega (arith, c.type_inv.sheet i)))).is
