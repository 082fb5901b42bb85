use Rattle.std.proofs.Common.{◌≡◌, map, drop}
use Rattle.base_types.specs.Meanings.{datum_of}
use Rattle.def_workspace.specs.Ops.{all_found, found}
use Rattle.ws_run.proofs.Found.{after_values}
use Rattle.ws_run.proofs.resolving.found_all.Given as goal

-- All are those so far and those that are left.
abbrev pub invariant-loop-value : goal.invariant-loop-value
invariant-loop-value l =
    after_values (map datum_of l.all.items) (all_found (found l.ground.names l.ground.facts) (map datum_of (drop l.value-index l.values)))
    ≡ all_found (found l.ground.names l.ground.facts) (map datum_of l.values)
