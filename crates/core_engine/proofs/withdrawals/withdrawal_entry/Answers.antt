use Rattle.core_engine.proofs.Losing.{withdrawal_told}
use Rattle.core_engine.proofs.withdrawals.withdrawal_entry.Goals as goal

pub returns : goal.returns
returns c =
    record {
      told =
          withdrawal_told c.args.place c.number-update.result c.committed-committed.result c.args.causes c.args.queue.now c.index-queue-place.result c.requires.numbers c.requires.place c.index-queue-place.is
          c.number-update.ensures.number c.committed-committed.ensures.committed;
    }
