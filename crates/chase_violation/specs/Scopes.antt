-- The meaning of the scopes of the program, in the terms of the definitions of the chase.
use Rattle.std.specs.Prelude.{◌≡◌, List, [], map, Option, Some}
use Rattle.def_chase.specs.Values.{Fact}
use Rattle.def_chase.specs.Mappings.{Rule}
use Rattle.def_chase.specs.Matching.{learn_all, nothing_known}
use Rattle.def_chase.specs.Repository.{Change}
use Rattle.def_chase.specs.Violations.{Scope, Every, Caused, Forward, Backward, first_violation}
use Rattle.base_types.specs.Contents.{facts_of}
use Rattle.base_types.specs.Maps.{known_of}
use Rattle.base_types.specs.Meanings.{change_of}
use Rattle.chase_match.specs.declared.matched.Matched.{Matched}
use Rattle.chase_violation.specs.declared.scope.Scope.{Scope as ScopeOfProgram}
use Rattle.chase_violation.specs.declared.scope.Scope.TheVariants.{All, Forward as ForwardScope, Backward as BackwardScope}

-- The scope that a `Scope` stands for.
abbrev pub scope_of : ScopeOfProgram → Scope
scope_of All = Every
scope_of (ForwardScope own) = Caused Forward
scope_of (BackwardScope own) = Caused Backward

-- The own writes of the scope; none if all violations count.
abbrev pub own_of : ScopeOfProgram → List Change
own_of All = []
own_of (ForwardScope own) = map change_of own.now.items
own_of (BackwardScope own) = map change_of own.now.items

-- The image of the first violation of the mapping in E that counts.
abbrev pub first_in : ScopeOfProgram → Rule → List Fact → Option (List Fact)
first_in scope m E = first_violation (scope_of scope) (own_of scope) m E

-- The binding found has the value of each variable on the left, as the image gives it.
abbrev pub Binds : Rule → Matched → Type 0
Binds m found = learn_all m.left (facts_of found.image) nothing_known ≡ Some (known_of found.binding)
