use Rattle.std.proofs.Common.{rules}
use Rattle.audit_replay.proofs.Restarting.{restarted_if}
use Rattle.audit_replay.proofs.restarts.restart_if_named.Goals as goal

pub returns-then-is_named-clause-restarted : goal.returns-then-is_named-clause-restarted
returns-then-is_named-clause-restarted c =
    restarted_if c.args.causes.now.items c.args.audited.now c.restart.new.self c.number.result c.is_named.result c.number.ensures.number c.is_named.ensures.named (search rules) c.in_ok-restart.ensures.restarted
