use Rattle.std.proofs.Common.{◌≡◌, ◌++◌, map, length}
use Rattle.def_machine.specs.Trees.{result_of, log_of}
use Rattle.def_chase.specs.Queries.{value}
use Rattle.def_chase.specs.Violations.{Caused}
use Rattle.base_types.specs.Meanings.{heading_of}
use Rattle.chase_eval.specs.Watched.{AreSettled, seen_over}
use Rattle.chase_query.specs.Meanings.{reads_in}
use Rattle.chase_update.specs.Courses.{course}
use Rattle.chase_update.specs.Logged.{read_after}
use Rattle.chase_plan.proofs.plans.answer_all.Given as goal

-- What is still asked leads to the result of the whole; the reads made and those still to come are all; what is settled is so.
abbrev pub invariant-queries : goal.invariant-queries
invariant-queries g l = record {
  together :
      result_of (λ q. value l.mappings q l.view.below l.view.own (Caused (heading_of l.direction))) (course l.mappings l.program)
      ≡ result_of (λ q. value l.mappings q l.view.below l.view.own (Caused (heading_of l.direction))) (course l.mappings l.fn.program);
  read :
      reads_in l.reads.items ++ map (read_after l.made) (log_of (λ q. value l.mappings q l.view.below l.view.own (Caused (heading_of l.direction))) (course l.mappings l.program))
      ≡ map (read_after l.made) (log_of (λ q. value l.mappings q l.view.below l.view.own (Caused (heading_of l.direction))) (course l.mappings l.fn.program));
  settled : AreSettled (seen_over l.mappings (heading_of l.direction) l.view) l.settled;
}

-- How many queries are left.
abbrev pub decreases-queries : goal.decreases-queries
decreases-queries g l = length (log_of (λ q. value l.mappings q l.view.below l.view.own (Caused (heading_of l.direction))) (course l.mappings l.program))
