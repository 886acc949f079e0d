-- NOT TO BE BELIEVED: with the walk (reader/specs/Walk.antt) proved equal to reading. Only contracts between our own crates cite it.
-- 01-scope.md, "Reading order", as the code goes: the parts of a payload, by places in the input s, in a window that ends at end.
use Rattle.std.specs.Prelude.{ℕ, ◌+◌, ◌-◌, ◌≤◌, List, Bool, true, false, get_or, ltb, leb, eqb, Result, Ok, Err}
use Rattle.std.proofs.Math.Seq.{slice}
use Rattle.meaning.specs.Rules.{◌⇒◌∣◌}
use Rattle.meaning.specs.Refusals.{cut_short, size_wrong, not_utf8}
use Rattle.meaning.specs.Numbers.{of_two}
use Rattle.meaning.specs.Utf8.{utf8}
use Rattle.meaning.specs.FirstByte.{short_blanks, prim_byte}
use Rattle.leaves.specs.Leb.{leb_at}
use Rattle.leaves.specs.Faults.{refusal}
use Rattle.leaves.specs.declared.refusals.Refusal.{Refusal}
use Rattle.leaves.specs.declared.Leb.{Leb}
use Rattle.payloads.specs.declared.first.Kind.{Kind}
use Rattle.payloads.specs.declared.first.Kind.TheVariants.{Array, Map, Record, Function, Symbol, Variable}
use Rattle.payloads.specs.declared.Text.{Text}
use Rattle.payloads.specs.declared.Opening.{Opening}

-- a text that starts at a place, with the place after it; a list of so many items that starts at a place, in a payload that ends at stop
abbrev pub text_of : ℕ → ℕ → Text
text_of start next = record { start = start; next = next }

abbrev pub opening_of : ℕ → ℕ → ℕ → Opening
opening_of stop from count = record { stop = stop; from = from; count = count }

-- a text after its length
unfoldable pub text_from : List ℕ → ℕ → ℕ → Result Leb Refusal → Result Text Refusal
text_from s end at (Err r) = Err r
text_from s end at (Ok size) =
    ltb (end - size.next) size.value ⇒ Err (refusal cut_short at) ∣ λ _.
    utf8 (slice size.next (size.next + size.value) s) ⇒ Ok (text_of size.next (size.next + size.value)) ∣ λ _.
    Err (refusal not_utf8 size.next)

unfoldable pub text_at : List ℕ → ℕ → ℕ → Result Text Refusal
text_at s end at = text_from s end at (leb_at s end at)

-- whether each item of a payload's list has a text, and whether it has a shape
abbrev pub named : Kind → Bool
named Array = false
named Map = false
named Record = true
named Function = false
named Symbol = true
named Variable = false

abbrev pub shaped : Kind → Bool
shaped Array = true
shaped Map = true
shaped Record = true
shaped Function = true
shaped Symbol = false
shaped Variable = false

-- an item's text, where it has one
unfoldable pub label_at : List ℕ → ℕ → ℕ → Kind → Result Text Refusal
label_at s end at kind = named kind ⇒ text_at s end at ∣ λ _. Ok (text_of at at)

-- the list of a payload from start to stop: where it starts and how many items it has
unfoldable pub counted_by : ℕ → ℕ → Result Leb Refusal → Result Opening Refusal
counted_by stop more (Err r) = Err r
counted_by stop more (Ok count) = Ok (opening_of stop count.next (count.value + more))

unfoldable pub counted_at : List ℕ → ℕ → ℕ → ℕ → Result Opening Refusal
counted_at s stop start more = counted_by stop more (leb_at s stop start)

unfoldable pub list_of : List ℕ → ℕ → ℕ → ℕ → Kind → Result Opening Refusal
list_of s at start stop Array = Ok (opening_of stop start 1)
list_of s at start stop Map = Ok (opening_of stop start 2)
list_of s at start stop Record = counted_at s stop start 0
list_of s at start stop Function = counted_at s stop start 1
list_of s at start stop Symbol = counted_at s stop start 0
list_of s at start stop Variable = eqb (stop - start) 2 ⇒ Ok (opening_of stop stop 0) ∣ λ _. Err (refusal size_wrong at)

-- after the first byte come the size and the payload
abbrev pub size_at : List ℕ → ℕ → ℕ
size_at s at = of_two (get_or s at 0) (get_or s (at + 1) 0)

unfoldable pub opening_at : List ℕ → ℕ → ℕ → Kind → Result Opening Refusal
opening_at s end at kind =
    ltb (end - at) 3 ⇒ Err (refusal cut_short at) ∣ λ _.
    ltb (end - at - 3) (size_at s (at + 1)) ⇒ Err (refusal cut_short at) ∣ λ _.
    list_of s at (at + 3) (at + 3 + size_at s (at + 1)) kind

-- what every list has: its payload lies in the window, and its items are few
abbrev pub OpeningInside : ℕ → ℕ → Result Opening Refusal → Type 0
OpeningInside start end (Ok o) = (start ≤ o.stop) × (o.stop ≤ end) × (o.count ≤ 16384)
OpeningInside start end (Err r) = Unit {0}

-- a byte is a primitive, a primitive stands there
abbrev pub primitive : ℕ → Bool
primitive b = ltb b (prim_byte 0) ⇒ false ∣ λ _. ltb b (prim_byte 5)

unfoldable pub primitive_at : List ℕ → ℕ → ℕ → Bool
primitive_at s end at = leb end at ⇒ false ∣ λ _. primitive (get_or s at 0)

-- the number of a short blank stands there in two bytes
unfoldable pub small_at : List ℕ → ℕ → ℕ → Bool
small_at s end at =
    ltb (end - at) 2 ⇒ false ∣ λ _.
    eqb (get_or s (at + 1) 0) 0 ⇒ ltb (get_or s at 0) short_blanks ∣ λ _.
    false

-- the shape whose payload is read to its end has a form of one byte too
unfoldable pub short_form_of : List ℕ → ℕ → ℕ → Kind → Bool
short_form_of s start stop Array = primitive_at s stop start
short_form_of s start stop Map = primitive_at s stop start ⇒ primitive_at s stop (start + 1) ∣ λ _. false
short_form_of s start stop Record = false
short_form_of s start stop Function = false
short_form_of s start stop Symbol = false
short_form_of s start stop Variable = small_at s stop start
