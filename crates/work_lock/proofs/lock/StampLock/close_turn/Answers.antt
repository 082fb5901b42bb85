use Rattle.std.proofs.Common.{rules}
use Rattle.work_lock.proofs.TurnSteps.{counts_more, passes_turn}
use Rattle.work_lock.proofs.lock.StampLock.close_turn.Goals as goal

pub compare_exchange_with-requires : goal.compare_exchange_with-requires
compare_exchange_with-requires g c = (search rules, search rules, counts_more g.V.Grows.entries _ _ _ c.requires.turn.4.0 _ _ c.args.value c.requires.turn.4.1 (search rules) (search rules) (rw c.requires.turn.3 c.requires.extends))

pub fetch_add-served-requires : goal.fetch_add-served-requires
fetch_add-served-requires g c = (search rules, search rules, passes_turn g.V.Grows.entries _ _ _ c.requires.turn.4.0 c.args.value (search rules) (search rules) (search rules))
