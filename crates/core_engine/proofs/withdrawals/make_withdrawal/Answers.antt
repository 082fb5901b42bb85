use Rattle.core_queue.specs.Settings.{settings_of}
use Rattle.core_engine.proofs.Losing.{withdraws_to}
use Rattle.core_engine.proofs.withdrawals.make_withdrawal.Goals as goal

pub returns-clause-made : goal.returns-clause-made
returns-clause-made c =
    withdraws_to c.args.mappings.now (settings_of c.args.settings) c.args.place c.args.history.now.items c.put_last.new.history.items c.args.queue.now c.remove.new.queue c.args.versions.now c.prepare_loss_at.new.versions
    c.in_ok-left.left c.withdrawal_entry-entry.result c.requires.place c.in_ok-left.ensures.left c.remove.ensures.removed c.remove.ensures.numbers c.remove.ensures.long c.withdrawal_entry-entry.ensures.told c.put_last.ensures.all
