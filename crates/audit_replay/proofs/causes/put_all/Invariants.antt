use Rattle.std.proofs.Common.{◌≡◌, ◌++◌}
use Rattle.audit_replay.proofs.causes.put_all.Given as goal

abbrev pub invariant-loop-cause : goal.invariant-loop-cause
invariant-loop-cause l = l.causes.items ≡ l.initial.causes.items ++ l.yielded
