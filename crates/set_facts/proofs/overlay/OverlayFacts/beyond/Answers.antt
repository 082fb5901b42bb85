use Rattle.std.proofs.Common.{subst}
use Rattle.std.specs.Option.{option_map, option_copied}
use Rattle.def_chase.specs.Repository.{IsRepository}
use Rattle.def_chase.specs.Cursors.{is_beyond}
use Rattle.base_types.specs.Meanings.{fact_of}
use Rattle.set_facts.proofs.Courses.{above, beyond_follows}
use Rattle.set_facts.proofs.Overlays.{overlay_found, overlaid_in_order}
use Rattle.set_facts.proofs.overlay.OverlayFacts.beyond.Goals as goal

pub returns-clause-found : goal.returns-clause-found
returns-clause-found g c =
    let past = option_map fact_of (option_copied c.args.past) in
    overlay_found (is_beyond past) above (g.F.Facts.tuples c.self.inside.facts.now) c.self.inside.gone c.self.inside.added c.args.self.now _ _ _ _ (beyond_follows past) c.beyond-below.ensures.in_order c.beyond.ensures.in_order c.self.view_is
    c.beyond-below.ensures.found c.remaining-left.ensures.found c.beyond.ensures.found c.least.ensures.least

pub returns-clause-in_order : goal.returns-clause-in_order
returns-clause-in_order g c = subst IsRepository c.self.view_is (overlaid_in_order (g.F.Facts.tuples c.self.inside.facts.now) c.self.inside.gone c.self.inside.added c.beyond-below.ensures.in_order)
