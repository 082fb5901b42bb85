use Rattle.core_queue.specs.Settings.{settings_of}
use Rattle.core_engine.proofs.Losing.{loss_prepared}
use Rattle.core_engine.proofs.Placing.{all_between}
use Rattle.core_engine.proofs.withdrawals.prepare_loss.Goals as goal

pub settled-requires-clause-between : goal.settled-requires-clause-between
settled-requires-clause-between c = all_between _ c.args.upper.now c.requires.numbers

pub returns-clause-left : goal.returns-clause-left
returns-clause-left c =
    loss_prepared c.args.mappings.now (settings_of c.args.settings) c.args.committed c.args.versions.now c.in_ok-after.after c.settled.new.versions c.args.item.now c.args.upper.now c.in_ok-found.found.items c.in_ok-left.left
    c.requires.numbers c.in_ok-after.ensures.lost c.in_ok-found.ensures.found c.in_ok-left.ensures.cleared c.in_ok-left.ensures.there c.in_ok-left.ensures.causes
