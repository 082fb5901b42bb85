-- The violations that count, in the terms of the definitions of the chase.
use Rattle.std.specs.Prelude.{◌≡◌, List, Option}
use Rattle.def_chase.specs.Values.{Fact}
use Rattle.def_chase.specs.Repository.{Change}
use Rattle.def_chase.specs.Mappings.{Rule}
use Rattle.def_chase.specs.Queries.{Reply, violation_reply}
use Rattle.def_chase.specs.Violations.{Scope, Every, Caused, first_violation}
use Rattle.base_types.specs.Meanings.{heading_of}
use Rattle.chase_violation.specs.Scopes.{scope_of, own_of}
use Rattle.chase_violation.specs.declared.scope.Scope.{Scope as ScopeOfProgram}
use Rattle.chase_eval.specs.declared.scopes.Counted.{Counted}
use Rattle.chase_eval.specs.declared.scopes.Counted.TheVariants.{Every as EveryOfProgram, Caused as CausedOfProgram}

-- The scope that a `Counted` stands for.
abbrev pub scope_meant : Counted → Scope
scope_meant EveryOfProgram = Every
scope_meant (CausedOfProgram direction) = Caused (heading_of direction)

-- If the violations of `here` count, the first violation of a mapping is its first in this scope of these own writes.
abbrev pub CountsAs : Scope → List Change → ScopeOfProgram → Type 0
CountsAs scope own here =
    (m : Rule) (E : List Fact) → first_violation (scope_of here) (own_of here) m E ≡ first_violation scope own m E

-- The reply to the query for a first violation, if the violations of `here` count.
abbrev pub reply_in : ScopeOfProgram → Option Rule → List Fact → Reply
reply_in here m E = violation_reply m (scope_of here) (own_of here) E
