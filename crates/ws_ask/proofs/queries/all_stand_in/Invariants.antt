use Rattle.std.proofs.Common.{◌≡◌, map, drop}
use Rattle.std.specs.List.{list_all}
use Rattle.def_chase.specs.Laws.{stands_in}
use Rattle.base_types.specs.Meanings.{pattern_of}
use Rattle.ws_ask.proofs.queries.all_stand_in.Given as goal

-- All variables before the place stand in the atoms.
abbrev pub invariant-loop-variable : goal.invariant-loop-variable
invariant-loop-variable l = list_all (λ v. stands_in v (map pattern_of l.atoms)) (drop l.variable-index l.variables) ≡ list_all (λ v. stands_in v (map pattern_of l.atoms)) l.variables
