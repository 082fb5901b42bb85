-- The names of unknowns: each null of the repository has a name, which is the update that drew it and its place in that update.
use Rattle.std.specs.Prelude.{Bool, List, Option, find, unwrap_or}
use Rattle.std.specs.Option.{option_map}
use Rattle.std.specs.List.{list_any}
use Rattle.def_chase.specs.Values.{NullName, Datum, Number, Text, Unknown, Fact, under}
use Rattle.def_chase.specs.Queries.{holds_null}
use Rattle.def_steps.specs.Rewriting.{same_null}

-- Nulls with their names, in the order in which they were drawn.
abbrev pub Names : Type 0
Names = List (NullName × NullName)

-- The name of a null; a null without one is its own name.
abbrev pub name_of : Names → NullName → NullName
name_of ns n = unwrap_or (option_map (λ (p : NullName × NullName). p.1) (find (λ (p : NullName × NullName). same_null p.0 n) ns)) n

-- The value with its null replaced by its name.
abbrev pub datum_named : Names → Datum → Datum
datum_named ns (Number i) = Number i
datum_named ns (Text w) = Text w
datum_named ns (Unknown n) = Unknown (name_of ns n)

-- The tuple with its nulls replaced by their names.
abbrev pub fact_named : Names → Fact → Fact
fact_named ns t = under (datum_named ns) t

-- The null with this name, if there is one.
abbrev pub null_called : Names → NullName → Option NullName
null_called ns u = option_map (λ (p : NullName × NullName). p.0) (find (λ (p : NullName × NullName). same_null p.1 u) ns)

-- The null stands in some tuple of the repository.
abbrev pub stands_in : List Fact → NullName → Bool
stands_in D n = list_any (holds_null n.update n.place) D
