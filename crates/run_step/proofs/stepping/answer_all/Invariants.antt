use Rattle.std.proofs.Common.{◌≡◌, length}
use Rattle.def_machine.specs.Trees.{result_of, log_of}
use Rattle.def_chase.specs.Queries.{value}
use Rattle.def_chase.specs.Violations.{Caused}
use Rattle.chase_update.specs.Courses.{course}
use Rattle.run_step.proofs.stepping.answer_all.Given as goal

-- The view is the same; what is still asked leads to the result of the whole.
abbrev pub invariant-queries : goal.invariant-queries
invariant-queries l = record {
  same : l.view ≡ l.fn.view;
  together :
      result_of (λ q. value l.mappings q l.fn.view.below l.fn.view.own (Caused l.fn.view.heading)) (course l.mappings l.program)
      ≡ result_of (λ q. value l.mappings q l.fn.view.below l.fn.view.own (Caused l.fn.view.heading)) (course l.mappings l.fn.program);
}

-- How many queries are left.
abbrev pub decreases-queries : goal.decreases-queries
decreases-queries l = length (log_of (λ q. value l.mappings q l.fn.view.below l.fn.view.own (Caused l.fn.view.heading)) (course l.mappings l.program))
