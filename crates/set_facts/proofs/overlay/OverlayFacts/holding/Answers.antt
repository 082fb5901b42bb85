use Rattle.std.proofs.Common.{subst, Some}
use Rattle.std.specs.Option.{option_map, option_copied}
use Rattle.def_chase.specs.Repository.{IsRepository}
use Rattle.base_types.specs.Candidates.{is_holding}
use Rattle.base_types.specs.Meanings.{fact_of}
use Rattle.set_facts.proofs.Courses.{holding_follows}
use Rattle.set_facts.proofs.Overlays.{overlay_found, overlaid_in_order}
use Rattle.set_facts.proofs.overlay.OverlayFacts.holding.Goals as goal

pub returns-clause-found : goal.returns-clause-found
returns-clause-found g c =
    let u = c.args.name.update in
    let k = c.args.name.place in
    let past = option_map fact_of (option_copied c.args.past) in
    overlay_found (is_holding u k past) (λ t. is_holding u k (Some t)) (g.F.Facts.tuples c.self.inside.facts.now) c.self.inside.gone c.self.inside.added c.args.self.now _ _ _ _ (holding_follows u k past) c.holding-below.ensures.in_order c.holding.ensures.in_order c.self.view_is
    c.holding-below.ensures.found c.remaining-left.ensures.found c.holding.ensures.found c.least.ensures.least

pub returns-clause-in_order : goal.returns-clause-in_order
returns-clause-in_order g c = subst IsRepository c.self.view_is (overlaid_in_order (g.F.Facts.tuples c.self.inside.facts.now) c.self.inside.gone c.self.inside.added c.holding-below.ensures.in_order)
