use Rattle.core_queue.specs.Settings.{settings_of}
use Rattle.std.proofs.Common.{[], ◌+◌}
use Rattle.core_engine.proofs.Committing.{committed_kept, unready_kept}
use Rattle.core_engine.proofs.Delivering.{put_with, delivers_to}
use Rattle.core_engine.proofs.Unread.{none_restarted, unread_kept}
use Rattle.core_engine.proofs.deliveries.make_delivery.Goals as goal

pub delivery_entry-entry-requires-clause-numbers : goal.delivery_entry-entry-requires-clause-numbers
delivery_entry-entry-requires-clause-numbers c =
    put_with c.args.queue.now c.args.place c.index-queue-place.result c.deliver.new.self c.requires.numbers c.requires.place c.index-queue-place.is c.deliver.ensures.place

pub delivery_entry-entry-requires-clause-least : goal.delivery_entry-entry-requires-clause-least
delivery_entry-entry-requires-clause-least c = committed_kept c.args.queue.now _ c.args.place c.deliver.new.self [] (none_restarted (c.args.place + 1) _) c.args.least c.requires.below c.requires.least

pub returns-clause-made : goal.returns-clause-made
returns-clause-made c =
    delivers_to (settings_of c.args.settings) c.args.place c.args.queue.now c.index-queue-place.result c.deliver.new.self c.args.history.now.items c.put_last.new.history.items c.delivery_entry-entry.result
    c.requires.place c.index-queue-place.is c.deliver.ensures.delivered c.deliver.ensures.place c.delivery_entry-entry.ensures.told c.put_last.ensures.all

pub returns-clause-least : goal.returns-clause-least
returns-clause-least c = committed_kept c.args.queue.now _ c.args.place c.deliver.new.self [] (none_restarted (c.args.place + 1) _)

pub returns-clause-most : goal.returns-clause-most
returns-clause-most c = unread_kept c.args.queue.now _ c.args.place c.deliver.new.self [] (none_restarted (c.args.place + 1) _)

pub returns-clause-unready : goal.returns-clause-unready
returns-clause-unready c = unready_kept c.args.queue.now _ c.args.place c.deliver.new.self [] (none_restarted (c.args.place + 1) _)
