use Rattle.std.proofs.Common.{subst, List}
use Rattle.core_queue.specs.Settings.{settings_of}
use Rattle.core_queue.specs.declared.updates.QueuedUpdate.{QueuedUpdate}
use Rattle.std.specs.Option.{option_map, option_copied}
use Rattle.chase_question.specs.Inquiries.{inquiry_of}
use Rattle.core_engine.specs.Told.{HasQuestionAt}
use Rattle.core_engine.proofs.Telling.{question_told}
use Rattle.core_engine.proofs.cores.Core.question.Goals as goal

pub returns : goal.returns
returns c =
    record {
      question =
          question_told _ _ c.self.inside.queue.items _ c.self.invariant.0.left c.self.view_is c.args.update (option_map inquiry_of (option_copied c.question.result))
          (subst (λ (rs : List QueuedUpdate). HasQuestionAt (settings_of c.self.inside.settings) rs c.args.update (option_map inquiry_of (option_copied c.question.result))) c.deref.ensures.value c.question.ensures.question);
    }
