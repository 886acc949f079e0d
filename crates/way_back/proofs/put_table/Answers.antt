-- A table is its four sections, one after the other.
use native.Mathlib.Omega.{arith}
use lib.ListN.{length-append}
use Rattle.entries.proofs.Wrote.{wrote_after}
use Rattle.way_back.proofs.put_table.Goals as goal

pub returns : goal.returns
returns c = let h = simp length-append at c.requires.3 in
    rw (← c.requires.1)
    (wrote_after (omega (arith, h)) c.put_section-links.ensures
    (wrote_after (omega (arith, h, c.put_section-links.ensures.after, c.put_section-links.auto)) c.put_section-names.ensures
    (wrote_after (omega (arith, h, c.put_section-links.ensures.after, c.put_section-links.auto, c.put_section-names.ensures.after, c.put_section-names.auto)) c.put_section-text.ensures c.put_section.ensures)))
