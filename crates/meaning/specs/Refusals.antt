-- 01-scope.md, "Numbers that a refusal carries": the names of the numbers, row by row.
use Rattle.std.specs.Prelude.{ℕ}

-- 1: cut short
abbrev pub cut_short : ℕ
cut_short = 1

-- 2: first byte not assigned
abbrev pub not_assigned : ℕ
not_assigned = 2

-- 3: size does not match
abbrev pub size_wrong : ℕ
size_wrong = 3

-- 4: LEB128 unfinished, over two bytes, or not shortest
abbrev pub unfinished : ℕ
unfinished = 4

abbrev pub over_two_bytes : ℕ
over_two_bytes = 4

abbrev pub not_shortest : ℕ
not_shortest = 4

-- 5: text is not UTF-8
abbrev pub not_utf8 : ℕ
not_utf8 = 5

-- 6: long form where a short one exists
abbrev pub long_form : ℕ
long_form = 6

-- 7: deeper than 16
abbrev pub too_deep : ℕ
too_deep = 7

-- 8: input over 2,048 bytes
abbrev pub input_too_long : ℕ
input_too_long = 8

-- 9: table section broken
abbrev pub section_broken : ℕ
section_broken = 9

-- 10: table node broken
abbrev pub node_broken : ℕ
node_broken = 10

-- 11: table name broken
abbrev pub name_broken : ℕ
name_broken = 11

-- 12: lent buffer shorter than the answer
abbrev pub buffer_short : ℕ
buffer_short = 12

-- 13: sheet broken (when joining: the first)
abbrev pub sheet_broken : ℕ
sheet_broken = 13

-- 14: second sheet broken
abbrev pub second_broken : ℕ
second_broken = 14

-- 15: made shape deeper than 16
abbrev pub made_too_deep : ℕ
made_too_deep = 15

-- 16: made shape over 2,048 bytes
abbrev pub made_too_long : ℕ
made_too_long = 16

-- 17: joined sheet over 32 entries or 16,384 bytes
abbrev pub joined_too_large : ℕ
joined_too_large = 17

-- 18: no such child or name
abbrev pub no_such_part : ℕ
no_such_part = 18
