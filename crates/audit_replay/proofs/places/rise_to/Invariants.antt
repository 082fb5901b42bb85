use Rattle.std.proofs.Common.{◌≤◌, ◌-◌, ◌+◌, List, length}
use Rattle.def_chase.specs.Values.{Fact}
use Rattle.audit_replay.specs.Places.{Stand}
use Rattle.audit_replay.proofs.places.rise_to.Given as goal

abbrev pub invariant-up : goal.invariant-up
invariant-up l = record {
  stand : (D : List Fact) → Stand D l.updates l.fn.levels → Stand D l.updates l.levels;
  most : length l.levels ≤ l.place + 1;
}

abbrev pub decreases-up : goal.decreases-up
decreases-up l = (l.place + 1) - length l.levels
