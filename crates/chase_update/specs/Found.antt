-- The values that the named nulls of an operation stand for, as far as they have been looked up.
use Rattle.std.specs.Prelude.{Bool, List, [], ◌∷◌, Option, Some, None, find, unwrap_or, pos}
use Rattle.std.specs.Option.{option_map}
use Rattle.def_chase.specs.Values.{NullName, Datum, Number, Text, Unknown, Fact, same_datum}
use Rattle.def_chase.specs.Queries.{is_named, Reply}
use Rattle.def_steps.specs.Rewriting.{standing_for}
use Rattle.def_steps.specs.Steps.{tuples_of}

-- Named nulls, each with the value that it stands for.
abbrev pub Found : Type 0
Found = List (NullName × Datum)

-- The named null with the value that it stands for, by the tuples that hold it.
abbrev pub found_in : NullName × List Fact → NullName × Datum
found_in e = (e.0, standing_for e.0 e.1)

-- The pair is of this named null.
abbrev pub is_found : NullName → NullName × Datum → Bool
is_found n e = same_datum (Unknown e.0) (Unknown n)

-- The value that the named null stands for; the number 0 if it was not looked up.
abbrev pub stands_for : Found → NullName → Datum
stands_for found n = unwrap_or (option_map (λ (e : NullName × Datum). e.1) (find (is_found n) found)) (Number (pos 0))

-- A value of the operation with its named null resolved.
abbrev pub settled : Found → Datum → Datum
settled found (Number i) = Number i
settled found (Text w) = Text w
settled found (Unknown n) = stands_for found n

-- The first null with this update and place among the values; the number 0 if there is none.
abbrev pub first_named : NullName → List Datum → Datum
first_named n ds = unwrap_or (find (is_named n.update n.place) ds) (Number (pos 0))

-- The tuples, if there are any.
abbrev pub some_of : List Fact → Option (List Fact)
some_of [] = None
some_of (t ∷ ts) = Some (t ∷ ts)

-- The tuples of an answer to `Occurs`, if there are any.
abbrev pub holders_in : Reply → Option (List Fact)
holders_in a = some_of (tuples_of a)
