use Rattle.std.proofs.Common.{subst, sym}
use Rattle.core_queue.specs.Events.{HasStepped}
use Rattle.core_queue.specs.declared.updates.QueuedUpdate.{QueuedUpdate}
use Rattle.core_engine.proofs.Placing.{numbers_put, fresh_above, installed_is}
use Rattle.core_engine.proofs.Committing.{committed_kept, unready_kept}
use Rattle.core_engine.proofs.Unread.{unread_kept}
use Rattle.core_engine.proofs.Telling.{there_is}
use Rattle.core_engine.proofs.Marking.{grows_at}
use Rattle.core_engine.proofs.stepping.install.Goals as goal

pub restart_marked-requires-clause-from : goal.restart_marked-requires-clause-from
restart_marked-requires-clause-from c =
    numbers_put c.args.queue.now c.args.place c.args.plan c.index-queue-place.result c.follow.new.self c.requires.numbers c.requires.place c.index-queue-place.is c.requires.plan c.follow.ensures.place

pub restart_marked-requires-clause-fresh : goal.restart_marked-requires-clause-fresh
restart_marked-requires-clause-fresh c = fresh_above c.args.queue.now c.args.place c.follow.new.self c.args.fresh.items c.requires.fresh

pub returns-clause-installed : goal.returns-clause-installed
returns-clause-installed c =
    installed_is c.args.queue.now c.restart_marked.new.queue c.args.place c.args.plan c.args.fresh.items c.index-queue-place.result c.follow.new.self c.requires.place c.index-queue-place.is c.follow.ensures.stepped
    c.restart_marked.ensures.restarted

pub returns-clause-least : goal.returns-clause-least
returns-clause-least c = committed_kept c.args.queue.now c.restart_marked.new.queue c.args.place c.follow.new.self c.args.fresh.items c.restart_marked.ensures.restarted

pub returns-clause-most : goal.returns-clause-most
returns-clause-most c = unread_kept c.args.queue.now c.restart_marked.new.queue c.args.place c.follow.new.self c.args.fresh.items c.restart_marked.ensures.restarted

pub returns-clause-unready : goal.returns-clause-unready
returns-clause-unready c = unready_kept c.args.queue.now c.restart_marked.new.queue c.args.place c.follow.new.self c.args.fresh.items c.restart_marked.ensures.restarted

pub returns-clause-grows : goal.returns-clause-grows
returns-clause-grows c =
    grows_at c.args.queue.now c.restart_marked.new.queue c.args.place c.index-queue-place.result c.follow.new.self c.args.plan c.args.fresh.items c.requires.place
    (there_is c.args.queue.now c.args.place c.index-queue-place.result c.requires.place c.index-queue-place.is) c.requires.plan
    (subst (λ (q : QueuedUpdate). HasStepped c.args.plan q c.follow.new.self) (sym c.index-queue-place.is) c.follow.ensures.stepped) c.restart_marked.ensures.restarted
