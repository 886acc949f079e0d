-- What is read of an input into a buffer of one byte more than an encoding may have is judged as the whole input is. Assumes nothing.
--     reading-long     over 2,048 bytes: 8, whatever they are
--     judged-whole     the bytes in the buffer's front mean what all the input's bytes mean
use Rattle.std.proofs.Common.{◌≡◌, ◌≤◌, ◌<◌, ◌+◌, ℕ, Bool, true, false, List, [], ◌++◌, length, take, IfSome, arith, refl, sym, ap, ◌∙◌}
use Rattle.std.specs.Prelude.{Some, None, Result}
use Rattle.std.specs.declared.option.Option.{Option}
use Rattle.std.specs.Io.KnownBytes.{Consumes, IsAtEnd}
use lib.Dec.{ltb}
use lib.Seq.{length-take-le}
use mathlib.Core.List.{append-nil}
use lib.ListN.{length-append}
use borrow.Author.Tests.{ltb-true, ltb-false, lt-ltb}
use Rattle.meaning.specs.Limits.{max_bytes}
use Rattle.meaning.specs.Refusals.{input_too_long}
use Rattle.meaning.specs.Reading.{bad, reading}
use Rattle.leaves.specs.declared.refusals.Refusal.{Refusal}
use Rattle.reader.specs.declared.Accepted.{Accepted}
use Rattle.reader.specs.Said.{said}

reading-long : (w : List ℕ) → max_bytes < length w → reading w ≡ bad input_too_long max_bytes
unfolding reading
reading-long w h = rw (lt-ltb max_bytes (length w) h)

module _ (buffer xs ys : List ℕ) (n : ℕ) (within : n ≤ length buffer) (long : max_bytes < length buffer) (came : xs ≡ take n buffer ++ ys) where
  by-end : (b : Bool) → ltb n (length buffer) ≡ b → (n < length buffer → ys ≡ []) → reading (take n buffer) ≡ reading xs
  by-end true p end = ap reading (sym (came ∙ ap (λ l. take n buffer ++ l) (end (ltb-true _ _ p)) ∙ append-nil _))
  by-end false p end =
      let k : length (take n buffer) ≡ n = length-take-le n buffer within in
      let l : length buffer ≤ n = ltb-false _ _ p in
      let m : length xs ≡ length (take n buffer) + length ys = ap length came ∙ length-append (take n buffer) ys in
      reading-long (take n buffer) (omega arith) ∙ sym (reading-long xs (omega arith))

pub judged-whole : (old new : Option (List ℕ)) (buffer : List ℕ) (n : ℕ) (j : Result Accepted Refusal) → j ≡ said (reading (take n buffer)) → n ≤ length buffer → max_bytes < length buffer → Consumes old new (take n buffer) → (n < length buffer → IsAtEnd new) → IfSome old (λ bytes. j ≡ said (reading bytes))
judged-whole None new buffer n j is within long came end = tt
judged-whole (Some xs) None buffer n j is within long came end = absurd came
judged-whole (Some xs) (Some ys) buffer n j is within long came end = is ∙ ap said (by-end buffer xs ys n within long came (ltb n (length buffer)) refl end)
