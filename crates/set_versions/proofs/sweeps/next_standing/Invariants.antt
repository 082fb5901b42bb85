use Rattle.std.proofs.Common.{◌≡◌, length}
use Rattle.set_versions.specs.Marked.{visible}
use Rattle.set_versions.proofs.sweeps.next_standing.Given as goal

-- Those that are to come are those that were at the start.
abbrev pub invariant-loop-row : goal.invariant-loop-row
invariant-loop-row l = visible l.number l.rows ≡ visible l.number l.fn.rows

abbrev pub decreases-loop-row : goal.decreases-loop-row
decreases-loop-row l = length l.rows
