use Rattle.try_lock.specs.Workers.{HasAttended}
use Rattle.try_lock.proofs.duty.TurnsDuty.attend.Given as goal

abbrev pub invariant-loop : goal.invariant-loop
invariant-loop g l = HasAttended l.desk l.initial.worker l.worker
