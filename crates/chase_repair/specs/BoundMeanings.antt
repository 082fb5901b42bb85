-- The meaning of a `Bound` of the program.
use Rattle.std.specs.Prelude.{map}
use Rattle.base_types.specs.Meanings.{datum_of}
use Rattle.chase_repair.specs.Bound as meant
use Rattle.chase_repair.specs.declared.in_hand.Bound.{Bound}

-- The mapping's number and the values that a `Bound` shows.
abbrev pub bound_of : Bound → meant.Bound
bound_of b = record { mapping = b.mapping; values = map datum_of b.values.now.items }
