-- The function that takes a tuple to a more specific one, and the pairs of values that give it.
use Rattle.std.specs.Prelude.{Bool, not, ◌&&◌, ◌||◌, if◌then◌else◌, List, map, Option, Some, None}
use Rattle.std.specs.List.{list_all, zip}
use Rattle.base_types.specs.declared.values.Value.{Value}
use Rattle.base_types.specs.Meanings.{datum_of}
use Rattle.def_chase.specs.Values.{Datum, Fact, same_datum}
use Rattle.def_chase.specs.Specific.{is_constant, agree, more_specific, image_of}

-- The pairs of a value and the value at its place in the other list.
abbrev pub pairs : List Value → List Value → List (Datum × Datum)
pairs vs ws = zip (map datum_of vs) (map datum_of ws)

-- A constant is its own image.
abbrev pub keeps_constant : Datum × Datum → Bool
keeps_constant p = not (is_constant p.0) || same_datum p.0 p.1

-- The pair may stand with these in a function that keeps constants: no pair gives its value another image.
abbrev pub may_stand : List (Datum × Datum) → Datum × Datum → Bool
may_stand g p = keeps_constant p && list_all (agree p) g

-- The function that takes t to s, if s is more specific.
abbrev pub taking : Fact → Fact → Option (Datum → Datum)
taking t s = if more_specific s t then Some (image_of t s) else None
