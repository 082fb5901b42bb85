use Rattle.audit_replay.proofs.Placing.{withdrawal_told}
use Rattle.audit_replay.proofs.withdrawing.withdrawal_entry.Goals as goal

pub returns : goal.returns
returns c = record {
  told = withdrawal_told c.args.place c.number.result c.committed.result c.args.causes c.args.updates.now c.index-updates-place.result c.requires.numbers c.requires.within c.index-updates-place.is c.number.ensures.number c.committed.ensures.committed;
}
