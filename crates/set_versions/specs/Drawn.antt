-- Which updates drew the nulls of the rows.
use Rattle.std.specs.Prelude.{◌≡◌, ℕ, ◌<◌, false, List}
use Rattle.std.specs.List.{AllByRecursion}
use Rattle.base_types.specs.declared.tuples.Tuple.{Tuple}
use Rattle.base_types.specs.Meanings.{fact_of}
use Rattle.def_chase.specs.Queries.{holds_null}
use Rattle.def_chase.specs.Values.{Datum, Number, Text, Unknown, Fact}
use Rattle.set_versions.specs.declared.marks.Marks.{Marks}

-- The update that drew the null; 0 if the value is no null.
abbrev pub drawer : Datum → ℕ
drawer (Number i) = 0
drawer (Text w) = 0
drawer (Unknown n) = n.update

-- No update above h drew a null that the tuple holds.
abbrev pub NoneDrawnAbove : ℕ → Fact → Type 0
NoneDrawnAbove h t = (u k : ℕ) → h < u → holds_null u k t ≡ false

-- No update above h drew a null that a row holds.
abbrev pub AreDrawnUpTo : ℕ → List (Tuple × Marks) → Type 0
AreDrawnUpTo h rows = AllByRecursion (λ e. NoneDrawnAbove h (fact_of e.0)) rows
