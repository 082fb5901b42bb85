use Rattle.std.proofs.Common.{◌≡◌, None}
use Rattle.run_step.specs.Turns.{view_of}
use Rattle.ws_run.proofs.going.go_with.Given as goal

-- Between two steps; the view is of the mappings in force, in the op's direction, and sees the own writes.
abbrev pub invariant-steps : goal.invariant-steps
invariant-steps l = record {
  between : l.program.reading ≡ None;
  seen : l.view ≡ view_of l.over.run.setting.now.in_force.now l.fn.view.below l.program.attempt;
}
