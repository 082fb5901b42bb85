use Rattle.std.proofs.Common.{◌≡◌, length}
use Rattle.set_facts.specs.Runs.{left_of, run_of}
use Rattle.def_chase.specs.Repository.{IsRepository}
use Rattle.set_versions.specs.Passed.{to_pass, AreToPass}
use Rattle.set_versions.proofs.sweeps.next_left.Given as goal

-- What is left of the run is what was left at the start.
abbrev pub invariant-loop-tuple : goal.invariant-loop-tuple
invariant-loop-tuple l = record {
  ready : AreToPass l.taken;
  order : IsRepository (run_of l.base);
  left : left_of (to_pass l.taken) (run_of l.base) ≡ left_of (to_pass l.fn.taken) (run_of l.fn.base);
}

abbrev pub decreases-loop-tuple : goal.decreases-loop-tuple
decreases-loop-tuple l = length (run_of l.base)
