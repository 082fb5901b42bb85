-- The operations that may be admitted after the updates of a session.
use Rattle.std.specs.Prelude.{ℕ, ◌^◌, ◌<◌, ◌&&◌, ◌==◌, nat_le, Bool, true, false, List, length, Option, Some, None, slice_get}
use Rattle.std.specs.List.{AllByRecursion, list_all}
use Rattle.std.specs.Str.Lossy.{utf8_valid_len}
use Rattle.def_chase.specs.Values.{NullName, Datum, Number, Text, Unknown, Fact}
use Rattle.def_chase.specs.Updates.{Operation, Adds, Removes, Replaces, Enacts}
use Rattle.def_language.specs.Layout.{IsInteger}
use Rattle.def_language.specs.Sessions.{RelationSchema}
use Rattle.def_language.specs.Validity.{IsOperation}

-- ---- in the words of the grammar

-- it puts no mapping in force
abbrev pub AddsNoMapping : Operation → Type 0
AddsNoMapping (Enacts place) = ⊥
AddsNoMapping op = Unit {0}

-- The operation may stand in a session after `before` updates, and puts no mapping in force.
abbrev pub IsAdmissible : List RelationSchema → ℕ → Operation → Type 0
IsAdmissible relations before op = IsOperation relations before op × AddsNoMapping op

-- ---- as a test

-- a null is named by its outer form, and comes from one of the first `before` updates
abbrev pub fits_null : ℕ → NullName → Bool
fits_null before n = (n.attempt == 0) && nat_le n.update before

-- the bytes are UTF-8
abbrev pub is_text : List ℕ → Bool
is_text bytes = utf8_valid_len bytes == length bytes

-- at most 256 bytes of UTF-8
abbrev pub fits_text : List ℕ → Bool
fits_text t = nat_le (length t) 256 && is_text t

abbrev pub fits_datum : ℕ → Datum → Bool
fits_datum before (Number z) = true
fits_datum before (Text t) = fits_text t
fits_datum before (Unknown n) = fits_null before n

-- the relation exists and has `columns` columns
abbrev pub has_columns : Option RelationSchema → ℕ → Bool
has_columns None columns = false
has_columns (Some r) columns = r.arity == columns

abbrev pub fits_fact : List RelationSchema → ℕ → Fact → Bool
fits_fact relations before t = has_columns (slice_get relations t.relation) (length t.values) && list_all (fits_datum before) t.values

-- The operation may be admitted after `before` updates.
abbrev pub admits : List RelationSchema → ℕ → Operation → Bool
admits relations before (Adds t) = fits_fact relations before t
admits relations before (Removes t) = fits_fact relations before t
admits relations before (Replaces n d) = fits_null before n && fits_datum before d
admits relations before (Enacts place) = false

-- ---- what is true of every operation of the program: integers have 64 bits, places 32

abbrev pub IsDatumOfProgram : Datum → Type 0
IsDatumOfProgram (Number z) = IsInteger z
IsDatumOfProgram (Text t) = Unit {0}
IsDatumOfProgram (Unknown n) = n.place < 2 ^ 32

abbrev pub IsOfProgram : Operation → Type 0
IsOfProgram (Adds t) = AllByRecursion IsDatumOfProgram t.values
IsOfProgram (Removes t) = AllByRecursion IsDatumOfProgram t.values
IsOfProgram (Replaces n d) = IsDatumOfProgram (Unknown n) × IsDatumOfProgram d
IsOfProgram (Enacts place) = Unit {0}
