-- What names, causes and tables mean, in the terms of the definitions.
use Rattle.std.specs.Prelude.{◌≡◌, ℕ, ◌<◌, List, [], ◌∷◌, ◌++◌, map, length}
use Rattle.base_types.specs.Listed.{Listed}
use Rattle.base_types.specs.Meanings.{fact_of, null_of}
use Rattle.base_types.specs.declared.nulls.Null.{Null}
use Rattle.def_chase.specs.Values.{NullName}
use Rattle.ws_lines.specs.Meanings.{source_of}
use Rattle.def_workspace.specs.Places.{Cause, Place, Places}
use Rattle.ws_names.specs.declared.causes.Cause.{Cause as CauseOfProgram}
use Rattle.ws_names.specs.declared.places.Place.{Place as PlaceOfProgram}
use Rattle.ws_names.specs.declared.names.Pair.{Pair}

abbrev pub cause_of : CauseOfProgram → Cause
cause_of c = record { source = source_of c.source; variable = c.variable; image = map fact_of c.image.items }

abbrev pub place_of : PlaceOfProgram → Place
place_of p = record { cause = cause_of p.cause; number = p.number }

abbrev pub places_of : Listed PlaceOfProgram → Places
places_of ps = map place_of ps.items

-- A null with its name.
abbrev pub pair_of : Pair → NullName × NullName
pair_of p = (null_of p.null, null_of p.name)

abbrev pub null_in : Pair → Null
null_in p = p.null

abbrev pub name_in : Pair → Null
name_in p = p.name

-- The pair is the last of more than k, and is taken from the list.
pub record IsPopped (k : ℕ) (ps : List Pair) (qs : List Pair) (p : Pair) : Type 0 where
  pub many : k < length ps
  pub last : ps ≡ qs ++ p ∷ []
