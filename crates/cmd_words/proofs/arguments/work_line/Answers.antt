use Rattle.std.proofs.Common.{ap₂, ◌∙◌}
use Rattle.std.proofs.lemmas.Result.{IfOk-weaker}
use Rattle.clap.specs.Words.{with_rule}
use Rattle.cmd_words.proofs.arguments.work_line.Goals as goal

pub returns : goal.returns
returns c =
    let one = c.in_ok-arg.ensures.shape c.command_arg.ensures.local ∙ ap₂ with_rule c.bare.ensures c.command_arg.ensures.rule in
    let two = c.in_ok-arg-2.ensures.shape c.number.ensures.local ∙ ap₂ with_rule one c.number.ensures.rule in
    let three = c.in_ok-arg-3.ensures.shape c.deps_arg.ensures.local ∙ ap₂ with_rule two c.deps_arg.ensures.rule in
    let four = c.in_ok-arg-4.ensures.shape c.number-2.ensures.local ∙ ap₂ with_rule three c.number-2.ensures.rule in
    IfOk-weaker c.arg-5.result _ _ (λ r h. h.shape c.number-3.ensures.local ∙ ap₂ with_rule four c.number-3.ensures.rule) c.arg-5.ensures
