-- The meanings of the types for the state of a step in hand.
use Rattle.std.specs.Prelude.{[], ◌∷◌, ◌++◌, map, drop}
use Rattle.def_chase.specs.Values.{NullName, Datum, Unknown, Fact}
use Rattle.def_chase.specs.Queries.{Query, Present, Violation, Specific, Occurs}
use Rattle.base_types.specs.Meanings.{null_of, datum_of, fact_of}
use Rattle.chase_update.specs.Found.{Found}
use Rattle.chase_update.specs.Rows as rows
use Rattle.chase_update.specs.declared.found.ResolvedNull.{ResolvedNull}
use Rattle.chase_update.specs.declared.rows.Naming.{Naming}
use Rattle.chase_update.specs.declared.rows.Renaming.{Renaming}
use Rattle.chase_update.specs.declared.rows.Row.{Row}
use Rattle.chase_update.specs.declared.rows.Row.TheVariants.{Naming as NamingRow, Writing, Replacing, Renaming as RenamingRow, Forcing, Violating}

-- The named null and the value that a `ResolvedNull` pairs.
abbrev pub resolved_of : ResolvedNull → NullName × Datum
resolved_of s = (null_of s.name, datum_of s.value)

-- The state of a step that looks up named nulls.
abbrev pub naming_of : Naming → rows.Row
naming_of n = rows.Naming (map resolved_of n.found.items) (null_of n.name) (map null_of (drop n.next n.names.items))

-- The pairs found before, and the pair of the named null with this value.
abbrev pub found_with : Naming → Datum → Found
found_with n d = map resolved_of n.found.items ++ (null_of n.name, d) ∷ []

-- The tuple of the query; an empty one if it has none.
abbrev pub tuple_asked : Query → Fact
tuple_asked (Present t) = t
tuple_asked (Violation n) = record { relation = 0; values = [] }
tuple_asked (Specific t) = t
tuple_asked (Occurs u k) = record { relation = 0; values = [] }

-- The state of a step that looks up the null which replaces another one in these tuples.
abbrev pub renaming_of : Renaming → rows.Row
renaming_of r = rows.Renaming (null_of r.name) (Unknown (null_of r.null)) (map fact_of r.tuples.items)

-- The state of a step that asks this query.
abbrev pub row_of : Row → Query → rows.Row
row_of (NamingRow n) q = naming_of n.value
row_of Writing q = rows.Writing (tuple_asked q)
row_of (Replacing n) q = rows.Replacing (null_of n)
row_of (RenamingRow r) q = renaming_of r.value
row_of (Forcing n) q = rows.Forcing n
row_of (Violating n) q = rows.Violating n
