-- The taken tuples that are still to be passed.
use Rattle.std.specs.Option.{option_copied, option_to_list}
use Rattle.std.specs.Prelude.{◌≡◌, List, [], ◌++◌, map, IfNone}
use Rattle.base_types.specs.Meanings.{fact_of}
use Rattle.def_chase.specs.Repository.{IsRepository}
use Rattle.def_chase.specs.Values.{Fact}
use Rattle.set_versions.specs.declared.passing.Passing.{Passing}

-- The list of the tuples that are still to be passed.
abbrev pub to_pass : Passing → List Fact
to_pass p = map (λ e. fact_of e.0) (option_to_list (option_copied p.next) ++ p.rest)

-- The tuples to be passed are in order, and `next` is the first of them, if there is any.
pub record AreToPass (p : Passing) : Type 0 where
  pub order : IsRepository (to_pass p)
  pub end : IfNone p.next (p.rest ≡ [])
