use Rattle.std.proofs.Common.{length}
use Rattle.audit_replay.specs.Places.{StandStill}
use Rattle.audit_replay.proofs.places.sink_below.Given as goal

abbrev pub invariant-down : goal.invariant-down
invariant-down l = StandStill l.fn.levels l.levels

abbrev pub decreases-down : goal.decreases-down
decreases-down l = length l.levels
