-- The relations that a query mentions: its value depends only on their tuples.
use Rattle.std.specs.Prelude.{ℕ, ◌==◌, Bool, true, false, List, ◌++◌, Option, Some, None}
use Rattle.std.specs.List.{list_any, slice_get}
use Rattle.def_chase.specs.Values.{Fact}
use Rattle.def_chase.specs.Mappings.{Rule}
use Rattle.def_chase.specs.Queries.{Query, Present, Violation, Specific, Occurs}

-- A mapping mentions the relations of the atoms of both of its sides.
abbrev pub rule_mentions : Option Rule → ℕ → Bool
rule_mentions None r = false
rule_mentions (Some m) r = list_any (λ a. a.relation == r) (m.left ++ m.right)

-- `Present` and `Specific` mention the relation of their tuple, `Violation` the relations of its mapping, and `Occurs` every
-- relation.
abbrev pub mentions : List Rule → Query → ℕ → Bool
mentions ms (Present t) r = t.relation == r
mentions ms (Violation n) r = rule_mentions (slice_get ms n) r
mentions ms (Specific t) r = t.relation == r
mentions ms (Occurs u k) r = true

-- The query mentions the tuple's relation.
abbrev pub is_mentioned : List Rule → Query → Fact → Bool
is_mentioned ms q t = mentions ms q t.relation
