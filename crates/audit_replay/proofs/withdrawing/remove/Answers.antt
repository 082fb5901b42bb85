use Rattle.audit_replay.proofs.withdrawing.remove.Goals as goal

pub returns : goal.returns
returns c = record { removed = record { made = c.in_ok-make_withdrawal.ensures.made; told = c.withdrawal_entry-entry.ensures.told }; numbers = c.in_ok-make_withdrawal.ensures.numbers; err = tt }
