-- `forms::put_text` meets its contract.
use native.Mathlib.Omega.{arith}
use mathlib.Core.Path.{◌≡◌, ap, ◌∙◌}
use mathlib.Core.List.{List, ◌++◌}
use Prim.Native.Nat.{ℕ, ◌+◌, ◌≤◌, ◌<◌}
use lib.ListN.{length, length-append}
use lib.Seq.{slice, length-slice}
use Rattle.meaning.specs.Numbers.{leb128}
use Rattle.meaning.specs.Table.{Name, name}
use Rattle.tables.specs.Places.{text_place, name_at}
use Rattle.buffers.specs.Written.{written}
use Rattle.buffers.proofs.Written.{written_after, part-slice}
use Rattle.forms.specs.Forms.{text_at}
use Rattle.forms.specs.Forms.{HasName}
use Rattle.forms.proofs.put_text.Goals as goal

-- what is known of name k, of which start and size were read
module _ (rest : List ℕ) (links names k : ℕ) (has : HasName rest links names k) (start size : ℕ) (e : name start size ≡ name_at rest links k) where
  -- The bytes are the length and then the text.
  is : text_at rest links names k ≡ leb128 size ++ slice (text_place links names + start) (text_place links names + start + size) rest
  is = rw (ap (λ (n : Name). n.start) e, ap (λ (n : Name). n.size) e)

  -- The text is there, and short.
  there : (text_place links names + start + size ≤ length rest) × (size < 16384)
  there = (omega (arith, has.inside, ap (λ (n : Name). n.start) e, ap (λ (n : Name). n.size) e), omega (arith, has.short, ap (λ (n : Name). n.size) e))

  -- So long are the bytes.
  long : length (text_at rest links names k) ≡ length (leb128 size) + size
  long =
      let l = length-slice (text_place links names + start) (text_place links names + start + size) rest there.0 in
      ap length is ∙ rw length-append (omega arith)

  -- Written one after the other they stand there as one.
  wrote : (d : List ℕ) (to : ℕ) → to + length (text_at rest links names k) ≤ length d
      → written (written d to (leb128 size)) (to + length (leb128 size)) (slice (text_place links names + start) (text_place links names + start + size) rest) ≡ written d to (text_at rest links names k)
  wrote d to h = rw is (written_after d to (leb128 size) _ (omega (arith, long)))

pub put_leb-start-requires : goal.put_leb-start-requires
put_leb-start-requires c = ((there _ _ _ _ c.requires.0 _ _ c.name_at-name.ensures.is).1, omega (arith, long _ _ _ _ c.requires.0 _ _ c.name_at-name.ensures.is, c.requires.1))

pub put_bytes-requires : goal.put_bytes-requires
put_bytes-requires c =
    let a = c.args in let n = c.name_at-name.result in let from = c.text_from.result + n.start in
    let l = long _ _ _ _ c.requires.0 _ _ c.name_at-name.ensures.is in
    let inside : from + n.size ≤ length a.rest.now = omega (arith, (there _ _ _ _ c.requires.0 _ _ c.name_at-name.ensures.is).0, c.text_from.ensures) in
    omega (arith, length-slice from (from + n.size) a.rest.now inside, c.put_leb-start.ensures.after, c.put_leb-start.auto, c.requires.1)

pub overflow_add-result : goal.overflow_add-result
overflow_add-result c = let l = long _ _ _ _ c.requires.0 _ _ c.name_at-name.ensures.is in
    record { fits = omega (arith, c.put_leb-start.ensures.after, c.requires.1) }

pub returns-clause-after : goal.returns-clause-after
returns-clause-after c = let a = c.args in let l = long _ _ _ _ c.requires.0 _ _ c.name_at-name.ensures.is in
    omega (arith, c.put_leb-start.ensures.after)

pub returns-clause-wrote : goal.returns-clause-wrote
returns-clause-wrote c = let a = c.args in
    rw (part-slice (c.text_from.result + c.name_at-name.result.start) (c.text_from.result + c.name_at-name.result.start + c.name_at-name.result.size) a.rest.now (omega arith)) at c.put_bytes.ensures
    ∙ rw (c.put_leb-start.ensures.after, c.put_leb-start.ensures.wrote, c.text_from.ensures) (wrote _ _ _ _ c.requires.0 _ _ c.name_at-name.ensures.is a.out.now a.to c.requires.1)
