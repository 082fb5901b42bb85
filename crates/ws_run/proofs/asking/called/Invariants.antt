use Rattle.std.proofs.Common.{◌≡◌, map, drop}
use Rattle.base_types.specs.Meanings.{fact_of}
use Rattle.def_workspace.specs.Runs.{called}
use Rattle.ws_run.proofs.asking.called.Given as goal

-- The tuple is the first among those that are left.
abbrev pub invariant-loop-tuple : goal.invariant-loop-tuple
invariant-loop-tuple l = called l.names (map fact_of (drop l.tuple-index l.tuples)) (fact_of l.form) ≡ called l.names (map fact_of l.tuples) (fact_of l.form)
