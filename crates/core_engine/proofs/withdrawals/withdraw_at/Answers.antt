use Rattle.core_queue.specs.Settings.{settings_of}
use Rattle.core_engine.proofs.Losing.{withdraws_from}
use Rattle.core_engine.proofs.withdrawals.withdraw_at.Goals as goal

pub returns-clause-made : goal.returns-clause-made
returns-clause-made c =
    withdraws_from c.args.mappings.now (settings_of c.args.settings) c.args.place c.args.versions.now c.make_withdrawal.new.versions c.args.queue.now c.make_withdrawal.new.queue c.args.history.now.items c.reserve.new.self.items
    c.make_withdrawal.new.history.items c.reserve.ensures.same c.in_ok-make_withdrawal.ensures.made
