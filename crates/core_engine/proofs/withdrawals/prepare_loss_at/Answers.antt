use Rattle.core_queue.specs.Settings.{settings_of}
use Rattle.core_engine.proofs.Losing.{loss_prepared_at}
use Rattle.core_engine.proofs.Placing.{if_ok, above_numbers, above_more, above_fresh}
use Rattle.core_engine.proofs.Telling.{between_there}
use Rattle.core_engine.proofs.withdrawals.prepare_loss_at.Goals as goal

pub prepare_loss-requires-clause-between : goal.prepare_loss-requires-clause-between
prepare_loss-requires-clause-between c = between_there c.args.queue.now c.args.place c.index-queue-place.result c.requires.numbers c.requires.place c.index-queue-place.is

pub prepare_loss-requires-clause-numbers : goal.prepare_loss-requires-clause-numbers
prepare_loss-requires-clause-numbers c =
    above_numbers c.args.queue.now c.above-upper.result.now c.args.place c.index-queue-place.result c.requires.numbers c.requires.place c.index-queue-place.is c.above-upper.ensures.rest

pub prepare_loss-requires-clause-more : goal.prepare_loss-requires-clause-more
prepare_loss-requires-clause-more c = above_more c.args.queue.now c.above-upper.result.now c.args.place c.requires.more c.above-upper.ensures.rest

pub returns-clause-left : goal.returns-clause-left
returns-clause-left c =
    if_ok c.prepare_loss.result _ _
    (λ left is. loss_prepared_at c.args.mappings.now (settings_of c.args.settings) c.committed-committed.result c.args.place c.args.versions.now c.prepare_loss.new.versions c.args.queue.now c.above-upper.result.now c.index-queue-place.result left
    c.requires.numbers c.requires.place c.index-queue-place.is c.above-upper.ensures.rest c.committed-committed.ensures.committed is)
    c.prepare_loss.ensures.left

pub returns-clause-fresh : goal.returns-clause-fresh
returns-clause-fresh c =
    if_ok c.prepare_loss.result _ _
    (λ left fresh. above_fresh c.args.queue.now c.above-upper.result.now c.args.place left.fresh.items c.above-upper.ensures.rest fresh)
    c.prepare_loss.ensures.fresh
