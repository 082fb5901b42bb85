use Rattle.std.proofs.Common.{◌∙◌, ap}
use Rattle.cmd_frame.specs.Outputs.{view_of}
use Rattle.core_queue.specs.Settings.{settings_of}
use Rattle.cmd_threads.proofs.Made.{asked_for}
use Rattle.cmd_threads.proofs.runs.Run.work.Goals as goal

pub returns : goal.returns
returns g c =
    asked_for c.args.self.trace _ _ _ _ _ (view_of c.in_ok-output.output) c.in_ok-run.ensures.budget
    (c.in_ok-run.ensures.settings ∙ ap settings_of c.settings.ensures.same) c.in_ok-output.ensures
