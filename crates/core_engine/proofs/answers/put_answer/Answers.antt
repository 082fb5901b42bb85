use Rattle.std.proofs.Common.{subst}
use Rattle.std.proofs.Math.ListN.{set}
use Rattle.def_chase.specs.Updates.{Choice}
use Rattle.core_queue.specs.Settings.{settings_of}
use Rattle.core_engine.specs.Answered.{TellsAnswer}
use Rattle.core_engine.proofs.Delivering.{put_with}
use Rattle.core_engine.proofs.Replying.{answers_to}
use Rattle.core_engine.proofs.answers.put_answer.Goals as goal

pub answer_entry-entry-requires-clause-numbers : goal.answer_entry-entry-requires-clause-numbers
answer_entry-entry-requires-clause-numbers c =
    put_with c.args.queue.now c.args.place c.index-queue-place.result c.answer.new.self c.requires.numbers c.requires.place c.index-queue-place.is c.answer.ensures.place

pub returns-clause-made : goal.returns-clause-made
returns-clause-made c =
    answers_to (settings_of c.args.settings) c.args.place c.args.choice c.args.queue.now c.index-queue-place.result c.answer.new.self c.args.history.now.items c.put_last.new.history.items c.answer_entry-entry.result
    c.requires.place c.index-queue-place.is c.answer.ensures.answered c.answer.ensures.place
    (subst (λ (x : Choice). TellsAnswer (settings_of c.args.settings) c.args.place x (set c.args.queue.now c.args.place c.answer.new.self) c.answer_entry-entry.result) c.requires.copied c.answer_entry-entry.ensures.told) c.put_last.ensures.all
