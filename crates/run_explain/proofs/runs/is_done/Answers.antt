use Rattle.std.proofs.Common.{◌∙◌, ap}
use Rattle.run_explain.specs.Turns.{wants_none_done}
use Rattle.run_explain.proofs.Turning.{done_by_wish}
use Rattle.run_explain.proofs.runs.is_done.Goals as goal

pub returns : goal.returns
returns c = record { done = c.is_done_at.ensures.done ∙ ap wants_none_done c.wants.ensures.want ∙ done_by_wish c.args.program.now c.requires.between }
