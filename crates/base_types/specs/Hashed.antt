-- The part of a value that goes into its hash.
use Rattle.std.specs.Prelude.{ℕ, List, [], ◌∷◌, ◌++◌}
use Rattle.std.specs.Hash.{i64, u32}
use Rattle.def_chase.specs.Values.{Datum, Number, Text, Unknown}

-- A number or a word whole; of a null its update and its place, which mostly suffice to distinguish it.
abbrev pub fed_of : Datum → List (List ℕ)
fed_of (Number i) = i64 i
fed_of (Text w) = w ∷ []
fed_of (Unknown n) = u32 n.update ++ u32 n.place
