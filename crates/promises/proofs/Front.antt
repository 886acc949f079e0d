-- What a run that writes leaves in the lent buffer.
--     front-is        after `Ok n` the answer is the first n bytes of the buffer, and there are n
--     front-holds     where the answer is w, the run says so, and w is the front of the buffer
--     all-kept        where the answer is a refusal, the run says its number and place, and the buffer is as it was
--     fill-front-is, join-front-is, write-front-is, table-front-is     what a run that wrote n bytes answered
--     fill-made, join-made, write-made, table-made         what that run was lent, and what it made
--     filled_in, joined_in, wrote-in, tabled-in            what is made once is made in any room that there is for it, and else 12 has its length
--     fill-makes-in, join-makes-in, write-makes-in, table-makes-in     so every run makes it
-- Assumes nothing.
use Prim.Native.Nat.{ℕ}
use mathlib.Core.Path.{◌≡◌, sym, ◌∙◌, ap}
use mathlib.Core.List.{List}
use lib.ListN.{length, take}
use Rattle.meaning.specs.Answers.{Answer, answered, refused, in_room, fill_answer, join_answer, write_answer, table_answer}
use Rattle.meaning.proofs.Answers.{buffer-front, buffer-kept, Filled, fill-answered, fill-room, Joined, join-answered, join-room}
use Rattle.meaning.proofs.TableAnswers as Meant
use Rattle.std.specs.Prelude.{Ok, Err}
use Rattle.leaves.specs.Faults.{refusal}
use Rattle.promises.proofs.Calls.{Made, Fill, Join, Write, Tabled}
use Rattle.promises.proofs.Says.{Says, MakesIn, fill-says, join-says, write-says, table-says}

-- After `Ok n` the answer is the first n bytes of the buffer, and there are n.
pub front-is : (a : Answer) (before : List ℕ) {n : ℕ} {after : List ℕ} → Says a before (Ok n) after → (a ≡ answered (take n after)) × (length (take n after) ≡ n)
front-is (answered w) before {n} {after} s = (ap answered (sym front), rw front (cc))
  where
    front : take n after ≡ w
    front = let l : n ≡ length w = cc in rw (s.1, l) (buffer-front before w)
front-is (refused m p) before {n} {after} s = (cc, cc)

-- Where the answer is w, the run says so, and w is the front of the buffer.
pub front-holds : (a : Answer) (before w : List ℕ) {r : Made} {after : List ℕ} → Says a before r after → a ≡ answered w → (r ≡ Ok (length w)) × (take (length w) after ≡ w)
front-holds a before w s h = (s.0 ∙ rw h, rw (s.1, h) (buffer-front before w))

-- Where the answer is a refusal, the run says its number and place, and the buffer is as it was.
pub all-kept : (a : Answer) (before : List ℕ) (n p : ℕ) {r : Made} {after : List ℕ} → Says a before r after → a ≡ refused n p → (r ≡ Err (refusal n p)) × (after ≡ before)
all-kept a before n p s h = (s.0 ∙ rw h, s.1 ∙ rw h (buffer-kept before n p))

module _ {before after : List ℕ} {n : ℕ} where
  -- What a run that wrote n bytes answered.
  pub fill-front-is : {template sheet : List ℕ} → Fill template sheet before (Ok n) after → fill_answer template sheet (length before) ≡ answered (take n after)
  fill-front-is c = (front-is _ before (fill-says c)).0

  pub join-front-is : {first second : List ℕ} → Join first second before (Ok n) after → join_answer first second (length before) ≡ answered (take n after)
  join-front-is c = (front-is _ before (join-says c)).0

  pub write-front-is : {table : List ℕ} → Write table before (Ok n) after → write_answer table (length before) ≡ answered (take n after)
  write-front-is c = (front-is _ before (write-says c)).0

  pub table-front-is : {bytes : List ℕ} → Tabled bytes before (Ok n) after → table_answer bytes (length before) ≡ answered (take n after)
  table-front-is c = (front-is _ before (table-says c)).0

  -- What that run was lent, and what it made.
  pub fill-made : {template sheet : List ℕ} → Fill template sheet before (Ok n) after → Filled template sheet (take n after)
  fill-made {template} {sheet} c = fill-answered template sheet (length before) (take n after) c.small.0 c.small.1 (fill-front-is c)

  pub join-made : {first second : List ℕ} → Join first second before (Ok n) after → Joined first second (take n after)
  join-made {first} {second} c = join-answered first second (length before) (take n after) c.small.0 c.small.1 (join-front-is c)

  pub write-made : {table : List ℕ} → Write table before (Ok n) after → Meant.Wrote table (take n after)
  write-made {table} c = Meant.write-answered table (length before) (take n after) c.small (write-front-is c)

  pub table-made : {bytes : List ℕ} → Tabled bytes before (Ok n) after → Meant.Tabled bytes (take n after)
  table-made {bytes} c = Meant.table-answered bytes (length before) (take n after) c.small (table-front-is c)

-- What is made once is made in any room that there is for it, and else 12 has its length: what a fill makes,
pub filled_in : {template sheet w : List ℕ} → Filled template sheet w → (room : ℕ) → fill_answer template sheet room ≡ in_room room w
filled_in f room = rw (f.t-is, f.σ-is, f.is) (fill-room f.t f.σ room f.t_within f.σ-within f.made-within)

-- what a joining makes,
pub joined_in : {first second w : List ℕ} → Joined first second w → (room : ℕ) → join_answer first second room ≡ in_room room w
joined_in f room = rw (f.σ-is, f.τ-is, f.is) (join-room f.σ f.τ room f.σ-within f.τ-within f.made-within)

-- what the writer makes,
pub wrote-in : {table w : List ℕ} → Meant.Wrote table w → (room : ℕ) → write_answer table room ≡ in_room room w
wrote-in f room = rw (f.T-is, f.is) (Meant.write-room f.T room f.T-within f.made-within)

-- and what the way back makes.
pub tabled-in : {bytes w : List ℕ} → Meant.Tabled bytes w → (room : ℕ) → table_answer bytes room ≡ in_room room w
tabled-in f room = rw (f.s-is, f.is) (Meant.table-room f.s room f.s-within)

module _ {w before after : List ℕ} {r : Made} where
  -- So every run makes it.
  pub fill-makes-in : {template sheet : List ℕ} → Filled template sheet w → Fill template sheet before r after → MakesIn w before r after
  fill-makes-in f c = rw (← filled_in f (length before)) (fill-says c)

  pub join-makes-in : {first second : List ℕ} → Joined first second w → Join first second before r after → MakesIn w before r after
  join-makes-in f c = rw (← joined_in f (length before)) (join-says c)

  pub write-makes-in : {table : List ℕ} → Meant.Wrote table w → Write table before r after → MakesIn w before r after
  write-makes-in f c = rw (← wrote-in f (length before)) (write-says c)

  pub table-makes-in : {bytes : List ℕ} → Meant.Tabled bytes w → Tabled bytes before r after → MakesIn w before r after
  table-makes-in f c = rw (← tabled-in f (length before)) (table-says c)
