-- Sets of relations as bits, and tables of which relation leads to which.
use Rattle.std.specs.Prelude.{◌≡◌, ℕ, ◌<◌, Bool, ◌==◌, List, Some, slice_get, if◌then◌else◌}
use Rattle.std.specs.Int.{bit_at}
use Rattle.std.specs.Int.RustNames.{bit_or}
use Rattle.lang_checks.specs.declared.relations.RelationSet.{RelationSet}

-- the set has the relation
abbrev pub among : RelationSet → ℕ → Bool
among set r = bit_at set.bits r == 1

-- each row of the table has exactly the relations below 128 to which its own number leads
abbrev pub IsTableOf : (ℕ → ℕ → Bool) → List RelationSet → Type 0
IsTableOf edge rows = (r s : ℕ) (row : RelationSet) → slice_get rows r ≡ Some row → s < 128 → among row s ≡ edge r s

-- the row, together with `middle`, the relations to which k leads, if the row has k
abbrev pub widened : RelationSet → ℕ → RelationSet → RelationSet
widened middle k row = if among row k then record { bits = bit_or row.bits middle.bits } else row
