use Rattle.base_types.specs.Meanings.{choice_of}
use Rattle.core_queue.specs.Settings.{settings_of}
use Rattle.core_engine.proofs.Replying.{answers_from}
use Rattle.core_engine.proofs.answers.answer_at.Goals as goal

pub returns-in-Ok-clause-made : goal.returns-in-Ok-clause-made
returns-in-Ok-clause-made c =
    answers_from (settings_of c.args.settings) c.args.place (choice_of c.args.choice) c.args.queue.now c.prepare_answer.new.queue c.put_answer.new.queue c.args.history.now.items c.prepare_answer.new.history.items
    c.put_answer.new.history.items c.prepare_answer.ensures.same c.prepare_answer.ensures.long c.prepare_answer.ensures.history c.put_answer.ensures.made
