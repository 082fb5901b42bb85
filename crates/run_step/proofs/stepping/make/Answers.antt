use Rattle.std.proofs.Common.{◌∙◌, ap, refl}
use Rattle.std.proofs.lemmas.Result.{on_ok_weaker}
use Rattle.std.specs.Option.{option_map, option_copied}
use Rattle.base_types.specs.Meanings.{choice_of}
use Rattle.chase_update.specs.Courses.{between, course}
use Rattle.run_step.proofs.Answered.{stepped_is}
use Rattle.run_step.proofs.stepping.make.Goals as goal

pub returns-clause-stepped : goal.returns-clause-stepped
returns-clause-stepped c =
    let ms = c.args.mappings.now in
    on_ok_weaker c.answer_all.result (λ d. d ∙ ap between
    (stepped_is ms c.args.budget c.args.view.now.below c.args.program.now.attempt (option_map choice_of (option_copied c.args.choice))
    (course ms c.begin.new.program) c.args.view.now.below c.args.view.now.own c.args.view.now.heading
    refl c.requires.seen
    c.requires.heading c.in_ok-begin.ensures.step)) c.answer_all.ensures.answered
