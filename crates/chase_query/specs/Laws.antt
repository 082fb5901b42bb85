-- The law of queries and answers; a public function of this crate proves it.
use Rattle.std.specs.Prelude.{List}
use Rattle.def_chase.specs.Values.{Fact}
use Rattle.def_chase.specs.Repository.{Change, IsRepository}
use Rattle.def_chase.specs.Mappings.{Rule}
use Rattle.def_chase.specs.Violations.{Scope}
use Rattle.def_chase.specs.Queries.{Query, value}
use Rattle.chase_query.specs.Kinds.{IsOfKind}

-- The value of a query over a repository is of its kind, whatever the own writes and the scope.
abbrev pub ValuesAreOfTheirKind : Type 0
ValuesAreOfTheirKind = (ms : List Rule) (q : Query) (D : List Fact) (own : List Change) (scope : Scope) → IsRepository D → IsOfKind ms q (value ms q D own scope)
