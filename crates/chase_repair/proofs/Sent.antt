-- A repair may go to other threads.
use denote.Param.Send.{IsSend, sendable, view_send}
use denote.Param.SendFields.{declared_send}
use Rattle.std.proofs.Crossing.{crosses}
use Rattle.base_types.proofs.Sent.{tuple_send}
use Rattle.chase_question.specs.contracts.questions.Question as questions
use Rattle.chase_repair.specs.contracts.stages.Gathering as gatherings
use Rattle.chase_repair.specs.contracts.stages.Generation as generations
use Rattle.chase_repair.specs.contracts.stages.Stage as stages
use Rattle.chase_repair.specs.contracts.repairs.Repair as repairs
use Rattle.chase_repair.specs.contracts.repairs.Repair.TheInside as inside

question_send : IsSend questions.the_row
question_send = search (sendable, crosses, tuple_send) depth 60 fits 6000

gathering_send : IsSend gatherings.the_row
gathering_send = search (sendable, crosses, tuple_send) depth 60 fits 6000

stage_send : IsSend stages.the_row
stage_send = search (sendable, crosses, question_send, gathering_send) depth 60 fits 6000

generation_send : IsSend generations.the_row
generation_send = search (sendable, crosses) depth 60 fits 6000

inside_send : IsSend inside.the_row
inside_send = search (sendable, crosses, generation_send, stage_send, declared_send) depth 60 fits 6000

pub repair_send : IsSend repairs.the_row
repair_send = view_send _ _ _ _ _ inside_send
