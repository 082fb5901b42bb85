use Rattle.std.proofs.Common.{rules, ap, ◌∙◌, sym, Some, ◌∷◌}
use Rattle.work_lock.proofs.TurnSteps.{takes_turn}
use Rattle.atomic_table.specs.Table.{rest}
use Rattle.work_lock.proofs.lock.StampLock.open.Goals as goal

pub fetch_add-number-requires : goal.fetch_add-number-requires
fetch_add-number-requires g c = (search rules, search rules, takes_turn g.V.Grows.entries _ _ _ c.requires.rest.0)

pub exchange-found-requires : goal.exchange-found-requires
exchange-found-requires g c = let h = c.wait_for.ensures.served.2 in (
  search rules,
  (Some c.wait_for.ensures.served.1, ap (λ m. m.1) h ∙ ap (λ m. (0, Some c.wait_for.ensures.served.1) ∷ rest m.1) (sym h)),
)
