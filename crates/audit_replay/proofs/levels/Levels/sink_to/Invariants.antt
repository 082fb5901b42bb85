use Rattle.std.proofs.Common.{◌≡◌, ◌+◌, ◌-◌, ◌≤◌, length, drop}
use Rattle.audit_replay.proofs.levels.Levels.sink_to.Given as goal

abbrev pub invariant-loop-self : goal.invariant-loop-self
invariant-loop-self l = record {
  above : l.height + 1 ≤ length l.self;
  within : length l.self ≤ length l.fn.self;
  sunk : l.self ≡ drop (length l.fn.self - length l.self) l.fn.self;
}

abbrev pub decreases-loop-self : goal.decreases-loop-self
decreases-loop-self l = length l.self
