-- NOT TO BE BELIEVED: proved equal to reading (proofs/Fed.antt). A reader that is fed byte by byte: what its state is, and what a byte and the finish do.
use Rattle.std.specs.Prelude.{ℕ, ◌+◌, ◌*◌, ◌-◌, ◌%◌, max, List, [], ◌∷◌, Bool, true, false, not, length, ltb, leb, eqb, Option, Some, None}
use Rattle.meaning.specs.Rules.{◌⇒◌∣◌}
use Rattle.meaning.specs.Limits.{max_bytes, max_levels}
use Rattle.meaning.specs.Refusals.{cut_short, not_assigned, size_wrong, unfinished, over_two_bytes, not_shortest, not_utf8, long_form, too_deep, input_too_long}
use Rattle.meaning.specs.FirstByte.{class_of, short_blanks}
use Rattle.payloads.specs.First.{first_said}
use Rattle.payloads.specs.Payload.{primitive}
use Rattle.payloads.specs.declared.first.Kind.{Kind}
use Rattle.payloads.specs.declared.first.Kind.TheVariants.{Array, Map, Record, Function, Symbol, Variable}
use Rattle.payloads.specs.declared.first.First.{First}
use Rattle.payloads.specs.declared.first.First.TheVariants as By
use Rattle.reader.specs.Walk.{Out, came, stopped}
use Rattle.byte_steps.specs.declared.modes.Items.{Items}
use Rattle.byte_steps.specs.declared.modes.Items.TheVariants.{Plain, Bare, Fields, Texts}
use Rattle.byte_steps.specs.declared.modes.Level.{Level}
use Rattle.byte_steps.specs.declared.modes.Mode.{Mode}
use Rattle.byte_steps.specs.declared.modes.Mode.TheVariants.{Head, SizeLow, SizeHigh, Opening, Count, CountMore, Length, LengthMore, Letters, BlankLow, BlankHigh, Between, Done, Faulty}
use Rattle.byte_steps.specs.declared.Took.{Took}
use Rattle.byte_steps.specs.declared.Asked.{Asked}

abbrev pub took : Mode → Level → ℕ → Took
took m l d = record { mode = m; top = l; deepest = d }

abbrev pub level : ℕ → ℕ → ℕ → Items → Level
level at stop due items = record { at = at; stop = stop; due = due; items = items }

abbrev pub with_due : Level → ℕ → Level
with_due l due = level l.at l.stop due l.items

-- a list one of whose items is no primitive has no short form
abbrev pub unplain : Items → Items
unplain Plain = Bare
unplain Bare = Bare
unplain Fields = Fields
unplain Texts = Texts

abbrev pub no_primitive : Level → Level
no_primitive l = level l.at l.stop l.due (unplain l.items)

abbrev pub after_child : Level → ℕ → Level
after_child l b = primitive b ⇒ l ∣ λ _. no_primitive l

-- a shape's first byte b at a place, with so many levels open
unfoldable pub first_taken : Level → ℕ → ℕ → ℕ → ℕ → First → Took
first_taken top n deepest at b By.Unassigned = took (Faulty not_assigned at) top deepest
first_taken top n deepest at b (By.Short levels) =
    ltb max_levels (n + levels) ⇒ took (Faulty too_deep at) top deepest ∣ λ _.
    took Between (after_child top b) (max deepest (n + levels))
first_taken top n deepest at b (By.Long kind) =
    leb max_levels n ⇒ took (Faulty too_deep at) top deepest ∣ λ _.
    ltb top.stop (at + 3) ⇒ took (Faulty cut_short at) top deepest ∣ λ _.
    took (SizeLow kind at) (no_primitive top) deepest

-- the size's second byte; the payload starts at next
unfoldable pub size_taken : Level → Kind → ℕ → ℕ → ℕ → Mode
size_taken top kind at next size =
    ltb top.stop (next + size) ⇒ Faulty cut_short at ∣ λ _.
    Opening kind at (next + size)

-- what is due at a place: a shape, a text
unfoldable pub shape_due : Level → ℕ → Mode
shape_due top at = leb top.stop at ⇒ Faulty cut_short at ∣ λ _. Head

unfoldable pub length_due : Level → ℕ → Mode
length_due top at = leb top.stop at ⇒ Faulty unfinished at ∣ λ _. Length

abbrev pub item_due : Items → Level → ℕ → Mode
item_due Plain = shape_due
item_due Bare = shape_due
item_due Fields = length_due
item_due Texts = length_due

-- after an item's text
abbrev pub text_done : Items → Level → ℕ → Mode
text_done Plain top at = shape_due top at
text_done Bare top at = shape_due top at
text_done Fields top at = shape_due top at
text_done Texts top at = Between

-- a text of so many bytes from a place on, whose length stands at at
unfoldable pub text_due : Level → ℕ → ℕ → ℕ → Mode
text_due top at from size =
    ltb top.stop (from + size) ⇒ Faulty cut_short at ∣ λ _.
    eqb size 0 ⇒ text_done top.items top from ∣ λ _.
    Letters from size 0 0 0

-- so many bytes of a character are asked for yet, the first of them from low to high
abbrev pub asks : ℕ → ℕ → ℕ → Option Asked
asks more low high = Some (record { more = more; low = low; high = high })

-- RFC 3629, section 4: what a character's first byte asks for
unfoldable pub char_first : ℕ → Option Asked
char_first b =
    ltb b 128 ⇒ asks 0 0 0 ∣ λ _.
    ltb b 194 ⇒ None ∣ λ _.
    ltb b 224 ⇒ asks 1 128 191 ∣ λ _.
    eqb b 224 ⇒ asks 2 160 191 ∣ λ _.
    eqb b 237 ⇒ asks 2 128 159 ∣ λ _.
    ltb b 240 ⇒ asks 2 128 191 ∣ λ _.
    eqb b 240 ⇒ asks 3 144 191 ∣ λ _.
    ltb b 244 ⇒ asks 3 128 191 ∣ λ _.
    eqb b 244 ⇒ asks 3 128 143 ∣ λ _.
    None

unfoldable pub char_taken : ℕ → ℕ → ℕ → ℕ → Option Asked
char_taken more low high b =
    eqb more 0 ⇒ char_first b ∣ λ _.
    ltb b low ⇒ None ∣ λ _.
    ltb high b ⇒ None ∣ λ _.
    eqb more 1 ⇒ asks 0 0 0 ∣ λ _.
    asks (more - 1) 128 191

unfoldable pub text_taken : Level → ℕ → ℕ → ℕ → Option Asked → Mode
text_taken top from left next None = Faulty not_utf8 from
text_taken top from left next (Some c) =
    leb left 1 ⇒ (eqb c.more 0 ⇒ text_done top.items top next ∣ λ _. Faulty not_utf8 from) ∣ λ _.
    Letters from (left - 1) c.more c.low c.high

-- a LEB128 number's byte: over where it is whole
unfoldable pub leb_first : Level → ℕ → ℕ → Mode → Mode → Mode
leb_first top at b over going =
    ltb b 128 ⇒ over ∣ λ _.
    leb top.stop (at + 1) ⇒ Faulty unfinished at ∣ λ _.
    going

unfoldable pub leb_second : ℕ → ℕ → Mode → Mode
leb_second at c over =
    leb 128 c ⇒ Faulty over_two_bytes at ∣ λ _.
    eqb c 0 ⇒ Faulty not_shortest at ∣ λ _.
    over

-- a Function's return is one item more
abbrev pub more : Items → ℕ
more Plain = 1
more Bare = 1
more Fields = 0
more Texts = 0

unfoldable pub blank_taken : ℕ → ℕ → ℕ → Mode
blank_taken at low b =
    eqb b 0 ⇒ (ltb low short_blanks ⇒ Faulty long_form at ∣ λ _. Between) ∣ λ _.
    Between

-- a count's byte, and a text length's
unfoldable pub count_taken : Level → ℕ → ℕ → ℕ → Took
count_taken top deepest at b = took (leb_first top at b Between (CountMore at b)) (ltb b 128 ⇒ with_due top (b + more top.items) ∣ λ _. top) deepest

unfoldable pub count_more : Level → ℕ → ℕ → ℕ → ℕ → Took
count_more top deepest from low b = took (leb_second from b Between) (with_due top (low % 128 + 128 * b + more top.items)) deepest

unfoldable pub length_taken : Level → ℕ → ℕ → Mode
length_taken top at b = leb_first top at b (text_due top at (at + 1) b) (LengthMore at b)

unfoldable pub length_more : Level → ℕ → ℕ → ℕ → ℕ → Mode
length_more top from low next b = leb_second from b (text_due top from next (low % 128 + 128 * b))

-- a byte b at a place, by what it is
unfoldable pub taken : Mode → Level → ℕ → ℕ → ℕ → ℕ → Took
taken Head top n deepest at b = first_taken top n deepest at b (first_said (class_of b))
taken (SizeLow kind from) top n deepest at b = took (SizeHigh kind from b) top deepest
taken (SizeHigh kind from low) top n deepest at b = took (size_taken top kind from (at + 1) (low + 256 * b)) top deepest
taken (Opening kind from stop) top n deepest at b = took (Opening kind from stop) top deepest
taken Count top n deepest at b = count_taken top deepest at b
taken (CountMore from low) top n deepest at b = count_more top deepest from low b
taken Length top n deepest at b = took (length_taken top at b) top deepest
taken (LengthMore from low) top n deepest at b = took (length_more top from low (at + 1) b) top deepest
taken (Letters from left m low high) top n deepest at b = took (text_taken top from left (at + 1) (char_taken m low high b)) top deepest
taken (BlankLow from) top n deepest at b = took (BlankHigh from b) top deepest
taken (BlankHigh from low) top n deepest at b = took (blank_taken from low b) top (max deepest (n + 1))
taken Between top n deepest at b = took Between top deepest
taken Done top n deepest at b = took Done top deepest
taken (Faulty number place) top n deepest at b = took (Faulty number place) top deepest

-- the payload that opens, as a level, and what comes first in it
abbrev pub level_of : Kind → ℕ → ℕ → Level
level_of Array at stop = level at stop 1 Plain
level_of Map at stop = level at stop 2 Plain
level_of Record at stop = level at stop 0 Fields
level_of Function at stop = level at stop 0 Bare
level_of Symbol at stop = level at stop 0 Texts
level_of Variable at stop = level at stop 0 Bare

unfoldable pub count_due : ℕ → ℕ → Mode
count_due stop next = leb stop next ⇒ Faulty unfinished next ∣ λ _. Count

-- the state: the open levels (the input's own the last), the level in hand, what the next byte is, how many bytes came, how many the root has, and how
-- deep the deepest shape is
pub record Run : Type 0 where
  pub stack : List Level
  pub top : Level
  pub mode : Mode
  pub count : ℕ
  pub whole : ℕ
  pub deepest : ℕ

abbrev pub run : List Level → Level → Mode → ℕ → ℕ → ℕ → Run
run stack top mode count whole deepest = record { stack = stack; top = top; mode = mode; count = count; whole = whole; deepest = deepest }

abbrev pub plain : Items → Bool
plain Plain = true
plain Bare = false
plain Fields = false
plain Texts = false

-- the items are shapes, in a list without a short form
abbrev pub bare : Items → Bool
bare Plain = false
bare Bare = true
bare Fields = false
bare Texts = false

-- the items have texts
abbrev pub named : Items → Bool
named Plain = false
named Bare = false
named Fields = true
named Texts = true

-- an item is read to its end: the next is due, or its payload ends, and so on outwards
unfoldable pub settle : List Level → Level → ℕ → ℕ → ℕ → Run
settle [] top at whole deepest = run [] top Done at whole deepest
settle (l ∷ ls) top at whole deepest =
    ltb 0 top.due ⇒ run (l ∷ ls) (with_due top (top.due - 1)) (item_due top.items top at) at whole deepest ∣ λ _.
    not (eqb at top.stop) ⇒ run (l ∷ ls) top (Faulty size_wrong top.at) at whole deepest ∣ λ _.
    plain top.items ⇒ run (l ∷ ls) top (Faulty long_form top.at) at whole deepest ∣ λ _.
    settle ls l at whole deepest

-- the root's payload says how many bytes the root has
abbrev pub whole_of : List Level → ℕ → ℕ → ℕ
whole_of [] stop whole = stop
whole_of (l ∷ ls) stop whole = whole

unfoldable pub opened : Kind → List Level → Level → ℕ → ℕ → ℕ → ℕ → ℕ → Run
opened Array stack top from stop at whole deepest = settle (top ∷ stack) (level_of Array from stop) at whole (max deepest (length stack + 1))
opened Map stack top from stop at whole deepest = settle (top ∷ stack) (level_of Map from stop) at whole (max deepest (length stack + 1))
opened Record stack top from stop at whole deepest = run (top ∷ stack) (level_of Record from stop) (count_due stop at) at whole (max deepest (length stack + 1))
opened Function stack top from stop at whole deepest = run (top ∷ stack) (level_of Function from stop) (count_due stop at) at whole (max deepest (length stack + 1))
opened Symbol stack top from stop at whole deepest = run (top ∷ stack) (level_of Symbol from stop) (count_due stop at) at whole (max deepest (length stack + 1))
opened Variable stack top from stop at whole deepest =
    eqb stop (at + 2) ⇒ run stack top (BlankLow from) at whole deepest ∣ λ _.
    run stack top (Faulty size_wrong from) at whole deepest

-- what a byte led to: a payload opens, or an item is read to its end
unfoldable pub entered : Mode → List Level → Level → ℕ → ℕ → ℕ → Run
entered (Opening kind from stop) stack top at whole deepest = opened kind stack top from stop at (whole_of stack stop whole) deepest
entered Between stack top at whole deepest = settle stack top at whole deepest
entered Head stack top at whole deepest = run stack top Head at whole deepest
entered (SizeLow kind from) stack top at whole deepest = run stack top (SizeLow kind from) at whole deepest
entered (SizeHigh kind from low) stack top at whole deepest = run stack top (SizeHigh kind from low) at whole deepest
entered Count stack top at whole deepest = run stack top Count at whole deepest
entered (CountMore from low) stack top at whole deepest = run stack top (CountMore from low) at whole deepest
entered Length stack top at whole deepest = run stack top Length at whole deepest
entered (LengthMore from low) stack top at whole deepest = run stack top (LengthMore from low) at whole deepest
entered (Letters from left m low high) stack top at whole deepest = run stack top (Letters from left m low high) at whole deepest
entered (BlankLow from) stack top at whole deepest = run stack top (BlankLow from) at whole deepest
entered (BlankHigh from low) stack top at whole deepest = run stack top (BlankHigh from low) at whole deepest
entered Done stack top at whole deepest = run stack top Done at whole deepest
entered (Faulty number place) stack top at whole deepest = run stack top (Faulty number place) at whole deepest

-- a byte
unfoldable pub step : Run → ℕ → Run
step r b =
    leb max_bytes r.count ⇒ run r.stack r.top r.mode (max_bytes + 1) r.whole r.deepest ∣ λ _.
    let t = taken r.mode r.top (length r.stack) r.deepest r.count b in
    entered t.mode r.stack t.top (r.count + 1) r.whole t.deepest

-- a part
unfoldable pub fed : Run → List ℕ → Run
fed r [] = r
fed r (b ∷ w) = fed (step r b) w

unfoldable pub start : Run
start = run [] (level 0 max_bytes 0 Bare) Head 0 1 0

-- the finish
unfoldable pub verdict : Mode → ℕ → ℕ → ℕ → Out ℕ
verdict Done count whole deepest =
    ltb whole count ⇒ stopped size_wrong whole ∣ λ _.
    came count deepest
verdict (Faulty number place) count whole deepest = stopped number place
verdict Head count whole deepest = stopped cut_short 0
verdict (SizeLow kind from) count whole deepest = stopped cut_short 0
verdict (SizeHigh kind from low) count whole deepest = stopped cut_short 0
verdict Count count whole deepest = stopped cut_short 0
verdict (CountMore from low) count whole deepest = stopped cut_short 0
verdict Length count whole deepest = stopped cut_short 0
verdict (LengthMore from low) count whole deepest = stopped cut_short 0
verdict (Letters from left m low high) count whole deepest = stopped cut_short 0
verdict (BlankLow from) count whole deepest = stopped cut_short 0
verdict (BlankHigh from low) count whole deepest = stopped cut_short 0
verdict (Opening kind from stop) count whole deepest = stopped cut_short 0
verdict Between count whole deepest = stopped cut_short 0

unfoldable pub finish : Run → Out ℕ
finish r =
    ltb max_bytes r.count ⇒ stopped input_too_long max_bytes ∣ λ _.
    ltb r.count r.whole ⇒ stopped cut_short 0 ∣ λ _.
    verdict r.mode r.count r.whole r.deepest
