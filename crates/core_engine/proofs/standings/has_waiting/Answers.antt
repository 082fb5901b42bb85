use Rattle.std.proofs.Common.{sym, rules}
use Rattle.core_engine.proofs.Telling.{waiting_is, none_waits}
use Rattle.core_engine.proofs.standings.has_waiting.Goals as goal

pub returns-in-Some : goal.returns-in-Some
returns-in-Some c = record { waiting = waiting_is c.args.queue.now c.args.number c.in-Some.queued.now _ (sym c.in-Some.ensures.queued) (search rules) }

pub returns-in-None : goal.returns-in-None
returns-in-None c = record { waiting = none_waits c.args.queue.now c.args.number (sym c.in-None.ensures.queued) }
