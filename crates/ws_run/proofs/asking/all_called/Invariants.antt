use Rattle.std.proofs.Common.{◌≡◌, map, drop}
use Rattle.base_types.specs.Meanings.{fact_of}
use Rattle.def_workspace.specs.Runs.{all_called}
use Rattle.ws_run.proofs.Called.{after_called}
use Rattle.ws_run.proofs.asking.all_called.Given as goal

-- All are those so far and those of the forms that are left.
abbrev pub invariant-loop-form : goal.invariant-loop-form
invariant-loop-form l =
    after_called (map fact_of l.chosen.items) (all_called l.names (map fact_of l.tuples) (map fact_of (drop l.form-index l.forms)))
    ≡ all_called l.names (map fact_of l.tuples) (map fact_of l.forms)
