use Rattle.std.proofs.Common.{◌≤◌, map, drop}
use Rattle.std.specs.List.{AllByRecursion}
use Rattle.def_chase.specs.Mappings.{Rule}
use Rattle.base_types.specs.Meanings.{rule_of}
use Rattle.ws_state.proofs.active.are_small.Given as goal

-- If those that are left are small, all are.
abbrev pub invariant-loop-mapping : goal.invariant-loop-mapping
invariant-loop-mapping l =
    AllByRecursion (λ (m : Rule). m.existential ≤ 64) (map rule_of (drop l.mapping-index l.mappings))
    → AllByRecursion (λ (m : Rule). m.existential ≤ 64) (map rule_of l.mappings)
