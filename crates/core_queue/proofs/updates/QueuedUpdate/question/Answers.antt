use Rattle.std.proofs.Common.{◌∙◌, ap}
use Rattle.def_machine.specs.Standings.{is_paused}
use Rattle.def_steps.specs.Attempts.{question_in}
use Rattle.core_queue.proofs.Deciding.{put, unput}
use Rattle.core_queue.proofs.updates.QueuedUpdate.question.Goals as goal

pub returns-then-paused : goal.returns-then-paused
returns-then-paused c = record { question = λ ms B. put c.is_paused-paused.result _ _ (question_in c.args.self.now.program.attempt.phase) c.if-paused.true (c.is_paused-paused.ensures.paused ∙ ap is_paused (c.standing.ensures.standing ms B)) c.asked.ensures.asked }

pub returns-else-paused : goal.returns-else-paused
returns-else-paused c = record { question = λ ms B. unput c.is_paused-paused.result _ (question_in c.args.self.now.program.attempt.phase) c.if-paused.false (c.is_paused-paused.ensures.paused ∙ ap is_paused (c.standing.ensures.standing ms B)) }
