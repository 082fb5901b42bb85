use Rattle.core_engine.proofs.Delivering.{same_with}
use Rattle.core_engine.proofs.Entering.{room_at}
use Rattle.core_engine.proofs.stepping.reserve_step.Goals as goal

pub returns-in_err-reserve_reads-clause-same : goal.returns-in_err-reserve_reads-clause-same
returns-in_err-reserve_reads-clause-same c =
    same_with c.args.queue.now c.args.place c.index-queue-place.result c.reserve_reads.new.self c.requires.place c.index-queue-place.is c.reserve_reads.ensures.same c.reserve_reads.ensures.place

pub returns-clause-room : goal.returns-clause-room
returns-clause-room c = room_at c.reserve.result c.args.queue.now c.args.place c.reserve_reads.new.self c.args.plan.now c.requires.place c.in_ok-reserve_reads.ensures.room

pub returns-clause-same : goal.returns-clause-same
returns-clause-same c =
    same_with c.args.queue.now c.args.place c.index-queue-place.result c.reserve_reads.new.self c.requires.place c.index-queue-place.is c.reserve_reads.ensures.same c.reserve_reads.ensures.place
