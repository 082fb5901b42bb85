-- What contracts see of a view.
use Rattle.std.specs.Prelude.{◌≡◌, List, ◌++◌}
use Rattle.def_chase.specs.Values.{Fact}
use Rattle.def_chase.specs.Repository.{Change, apply}
use Rattle.def_chase.specs.Mappings.{Rule}
use Rattle.def_chase.specs.Queries.{Query, Reply, value}
use Rattle.def_chase.specs.Violations.{Scope}

-- The tuples below the own writes, and the own writes in turn.
pub record Seen : Type 0 where
  pub below : List Fact
  pub own : List Change

-- The view after these further own writes.
abbrev pub written : Seen → List Change → Seen
written seen more = record { below = seen.below; own = seen.own ++ more }

-- The value of the query in the view, if the violations of this scope count.
abbrev pub value_seen : List Rule → Query → Seen → Scope → Reply
value_seen ms q seen scope = value ms q seen.below seen.own scope

-- The reply is the value of the query over each set that becomes E when the own writes are applied.
abbrev pub IsValueWith : List Rule → Query → List Fact → List Change → Scope → Reply → Type 0
IsValueWith ms q E own scope reply = (D : List Fact) → E ≡ apply D own → reply ≡ value ms q D own scope
