-- What a made shape comes to in a lent buffer, by its length and depth alone: rule by rule `made`, at the place 0, and `in_room` of
-- meaning/specs/Answers.antt. Proved to be theirs (proofs/Verdicts.antt). No public contract cites it.
use Rattle.std.specs.Prelude.{ℕ, ltb, Result, Ok, Err}
use Rattle.meaning.specs.Rules.{◌⇒◌∣◌}
use Rattle.meaning.specs.Limits.{max_bytes, max_levels}
use Rattle.meaning.specs.Refusals.{buffer_short, made_too_deep, made_too_long}
use Rattle.leaves.specs.Faults.{refusal}
use Rattle.leaves.specs.declared.refusals.Refusal.{Refusal}

-- 15 and 16, both at 0, and 12 at the length needed, in a buffer of room bytes
unfoldable pub verdict_of : ℕ → ℕ → ℕ → Result ℕ Refusal
verdict_of length depth room =
    ltb max_levels depth ⇒ Err (refusal made_too_deep 0) ∣ λ _.
    ltb max_bytes length ⇒ Err (refusal made_too_long 0) ∣ λ _.
    ltb room length ⇒ Err (refusal buffer_short length) ∣ λ _.
    Ok length
