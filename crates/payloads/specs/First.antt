-- The code's own words for what a first byte says.
use Rattle.meaning.specs.FirstByte.{Class, whole, packed, long, unassigned}
use Rattle.meaning.specs.FirstByte as Meant
use Rattle.payloads.specs.declared.first.Kind.{Kind}
use Rattle.payloads.specs.declared.first.Kind.TheVariants.{Array, Map, Record, Function, Symbol, Variable}
use Rattle.payloads.specs.declared.first.First.{First}
use Rattle.payloads.specs.declared.first.First.TheVariants.{Unassigned, Short, Long}

abbrev pub kind_said : Meant.Kind → Kind
kind_said Meant.array = Array
kind_said Meant.map = Map
kind_said Meant.rec = Record
kind_said Meant.function = Function
kind_said Meant.symbol = Symbol
kind_said Meant.variable = Variable

-- a shape of one byte has depth 1, or 2 where the byte packs its children too
abbrev pub first_said : Class → First
first_said (whole s) = Short 1
first_said (packed s) = Short 2
first_said (long k) = Long (kind_said k)
first_said unassigned = Unassigned
