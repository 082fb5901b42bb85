use Rattle.std.proofs.Common.{◌≡◌, ◌++◌}
use Rattle.std.specs.List.{flat_map}
use Rattle.core_engine.specs.Aftermaths.{conflict_in, dependence_in}
use Rattle.core_engine.proofs.aftermaths.in_order.Given as goal

abbrev pub invariant-loop-cause : goal.invariant-loop-cause
invariant-loop-cause l = record {
  conflicts : l.conflicts.items ≡ flat_map conflict_in l.yielded;
  dependences : l.dependences.items ≡ flat_map dependence_in l.yielded;
}

abbrev pub invariant-loop-dependence : goal.invariant-loop-dependence
invariant-loop-dependence l = l.conflicts.items ≡ l.initial.conflicts.items ++ l.yielded
