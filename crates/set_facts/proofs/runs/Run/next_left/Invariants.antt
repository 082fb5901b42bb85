use Rattle.std.proofs.Common.{◌≡◌, length}
use Rattle.set_facts.specs.Runs.{left_of, run_of}
use Rattle.set_facts.proofs.runs.Run.next_left.Given as goal

-- What is left of the run is what was left at the start.
abbrev pub invariant-loop-tuple : goal.invariant-loop-tuple
invariant-loop-tuple g l = left_of (g.H.Hides.hidden l.hidden) (run_of l.self) ≡ left_of (g.H.Hides.hidden l.hidden) (run_of l.fn.self)

abbrev pub decreases-loop-tuple : goal.decreases-loop-tuple
decreases-loop-tuple g l = length (run_of l.self)
