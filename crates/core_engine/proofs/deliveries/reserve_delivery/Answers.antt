use Rattle.core_engine.proofs.Delivering.{same_with}
use Rattle.core_engine.proofs.Entering.{answer_room_at}
use Rattle.core_engine.proofs.deliveries.reserve_delivery.Goals as goal

pub returns-in_err-reserve_answer-clause-same : goal.returns-in_err-reserve_answer-clause-same
returns-in_err-reserve_answer-clause-same c =
    same_with c.args.queue.now c.args.place c.index-queue-place.result c.reserve_answer.new.self c.requires.place c.index-queue-place.is c.reserve_answer.ensures.same c.reserve_answer.ensures.place

pub returns-clause-room : goal.returns-clause-room
returns-clause-room c = answer_room_at c.reserve.result c.args.queue.now c.args.place c.reserve_answer.new.self c.requires.place c.in_ok-reserve_answer.ensures.room

pub returns-clause-same : goal.returns-clause-same
returns-clause-same c =
    same_with c.args.queue.now c.args.place c.index-queue-place.result c.reserve_answer.new.self c.requires.place c.index-queue-place.is c.reserve_answer.ensures.same c.reserve_answer.ensures.place
