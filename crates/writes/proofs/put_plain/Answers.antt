-- `writes::put_plain` meets its contract.
use native.Mathlib.Omega.{arith}
use mathlib.Core.Path.{refl, sym, ◌∙◌}
use lib.Seq.{length-slice}
use Rattle.buffers.proofs.Written.{written_none}
use Rattle.steps.proofs.Passing.{shape-symbol, blank_cut, shape-blank}
use Rattle.sheets.specs.Index.{blank_in}
use Rattle.writes.specs.Writes.{writes}
use Rattle.writes.proofs.Bytes.{part-slice}
use Rattle.writes.proofs.put_plain.Goals as goal

pub put_bytes-requires : goal.put_bytes-requires
put_bytes-requires c = let a = c.args in let l = c.past_long-next.ensures in
    rw (part-slice _ _ a.s.now l.onward)
    (rw (shape-symbol (writes (blank_in a.sheet.now.bytes.now)) a.left a.s.now a.at c.requires.1 c.requires.2 (sym c.is_named.ensures ∙ c.if-is_named.true), ← l.is) at c.requires.3.0)

pub returns-then-is_named : goal.returns-then-is_named
returns-then-is_named c = let a = c.args in let l = c.past_long-next.ensures in
    rw (shape-symbol (writes (blank_in a.sheet.now.bytes.now)) a.left a.s.now a.at c.requires.1 c.requires.2 (sym c.is_named.ensures ∙ c.if-is_named.true), ← l.is)
    (record {
      next_is = refl;
      to_is = rw (length-slice a.at c.past_long-next.result a.s.now l.inside);
      wrote = rw (part-slice _ _ a.s.now l.onward) at c.put_bytes.ensures;
    })

pub returns-then-s-at-lt-LONG_BLANK : goal.returns-then-s-at-lt-LONG_BLANK
returns-then-s-at-lt-LONG_BLANK c = let a = c.args in rw (blank_cut (writes (blank_in a.sheet.now.bytes.now)) a.left a.s.now a.at c.requires.1 c.requires.2 (sym c.is_named.ensures ∙ c.if-is_named.false) c.if-s-at-lt-LONG_BLANK.true)
    (record { next_is = refl; to_is = omega arith; wrote = sym (written_none a.out.now a.to) })

pub put_filled-after-requires : goal.put_filled-after-requires
put_filled-after-requires c = let a = c.args in let t = c.two_at.ensures in let h = rw (shape-blank (writes (blank_in a.sheet.now.bytes.now)) a.left a.s.now a.at c.requires.1 c.requires.2 (sym c.is_named.ensures ∙ c.if-is_named.false) c.if-s-at-lt-LONG_BLANK.false, ← t.is) at c.requires.3.0 in
    (t.small, h)

pub returns : goal.returns
returns c = let a = c.args in rw (shape-blank (writes (blank_in a.sheet.now.bytes.now)) a.left a.s.now a.at c.requires.1 c.requires.2 (sym c.is_named.ensures ∙ c.if-is_named.false) c.if-s-at-lt-LONG_BLANK.false, ← c.two_at.ensures.is)
    (record { next_is = refl; to_is = c.put_filled-after.ensures.after; wrote = c.put_filled-after.ensures.wrote })
