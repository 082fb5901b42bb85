use Rattle.core_queue.specs.Settings.{settings_of}
use Rattle.core_engine.proofs.Committing.{same_committed, same_unready}
use Rattle.core_engine.proofs.Delivering.{delivers_from}
use Rattle.core_engine.proofs.Unread.{same_unread}
use Rattle.core_engine.proofs.deliveries.deliver_at.Goals as goal

pub make_delivery-requires-clause-least : goal.make_delivery-requires-clause-least
make_delivery-requires-clause-least c = same_committed c.args.queue.now c.reserve_delivery.new.queue c.args.least c.reserve_delivery.ensures.same c.requires.least

pub returns-clause-made : goal.returns-clause-made
returns-clause-made c =
    delivers_from (settings_of c.args.settings) c.args.place c.args.queue.now c.reserve_delivery.new.queue c.make_delivery.new.queue c.args.history.now.items c.reserve_delivery.new.history.items c.make_delivery.new.history.items
    c.reserve_delivery.ensures.same c.reserve_delivery.ensures.long c.reserve_delivery.ensures.history c.make_delivery.ensures.made

pub returns-clause-least : goal.returns-clause-least
returns-clause-least c = λ n l h. c.make_delivery.ensures.least n l (same_committed c.args.queue.now c.reserve_delivery.new.queue n c.reserve_delivery.ensures.same h)

pub returns-clause-most : goal.returns-clause-most
returns-clause-most c = λ n l h. c.make_delivery.ensures.most n l (same_unread c.args.queue.now c.reserve_delivery.new.queue n c.reserve_delivery.ensures.same h)

pub returns-clause-unready : goal.returns-clause-unready
returns-clause-unready c = λ n l h. c.make_delivery.ensures.unready n l (same_unready c.args.queue.now c.reserve_delivery.new.queue n c.reserve_delivery.ensures.same h)
