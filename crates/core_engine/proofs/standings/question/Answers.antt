use Rattle.std.proofs.Common.{sym}
use Rattle.std.specs.Option.{option_map, option_copied}
use Rattle.chase_question.specs.Inquiries.{inquiry_of}
use Rattle.core_queue.specs.Settings.{settings_of}
use Rattle.core_engine.proofs.Telling.{question_is, no_question}
use Rattle.core_engine.proofs.standings.question.Goals as goal

pub returns-in-Some : goal.returns-in-Some
returns-in-Some c =
    record {
      question =
          question_is (settings_of c.args.settings) c.args.queue.now c.args.number c.committed.result c.in-Some.queued.now (option_map inquiry_of (option_copied c.question.result)) (sym c.in-Some.ensures.queued)
          c.committed.ensures.committed c.question.ensures.question;
    }

pub returns-in-None : goal.returns-in-None
returns-in-None c = record { question = no_question (settings_of c.args.settings) c.args.queue.now c.args.number (sym c.in-None.ensures.queued) }
