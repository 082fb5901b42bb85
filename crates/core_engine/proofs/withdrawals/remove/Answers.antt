use Rattle.core_engine.proofs.Delivering.{put_with}
use Rattle.core_engine.proofs.Losing.{removed_is}
use Rattle.core_engine.proofs.Placing.{fresh_above}
use Rattle.core_engine.proofs.withdrawals.remove.Goals as goal

pub restart_marked-requires-clause-from : goal.restart_marked-requires-clause-from
restart_marked-requires-clause-from c =
    put_with c.args.queue.now c.args.place c.index-queue-place.result c.withdraw.new.self c.requires.numbers c.requires.place c.index-queue-place.is c.withdraw.ensures.place

pub restart_marked-requires-clause-fresh : goal.restart_marked-requires-clause-fresh
restart_marked-requires-clause-fresh c = fresh_above c.args.queue.now c.args.place c.withdraw.new.self c.args.fresh.items c.requires.fresh

pub returns-clause-removed : goal.returns-clause-removed
returns-clause-removed c =
    removed_is c.args.queue.now c.restart_marked.new.queue c.args.place c.args.fresh.items c.index-queue-place.result c.withdraw.new.self c.requires.place c.index-queue-place.is c.withdraw.ensures.withdrawn
    c.restart_marked.ensures.restarted
