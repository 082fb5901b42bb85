use Rattle.std.proofs.Common.{◌≡◌, ◌++◌, map, drop, Some}
use Rattle.ws_state.specs.declared.heads.HeadWaiting.{HeadWaiting}
use Rattle.ws_state.specs.Folds.{number_at}
use Rattle.ws_state.proofs.folding.waits_kept.Given as goal

-- Those so far and those that are left.
abbrev pub invariant-loop-one : goal.invariant-loop-one
invariant-loop-one l = map (λ (k : HeadWaiting). Some k.update.number) l.waits.items ++ map (number_at l.held) (drop l.one-index l.waiting) ≡ map (number_at l.held) l.waiting
