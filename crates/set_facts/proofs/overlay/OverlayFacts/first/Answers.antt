use Rattle.std.proofs.Common.{subst}
use Rattle.def_chase.specs.Repository.{IsRepository}
use Rattle.def_chase.specs.Cursors.{is_of, is_past}
use Rattle.set_facts.proofs.Courses.{relation_follows}
use Rattle.set_facts.proofs.Overlays.{overlay_found, overlaid_in_order}
use Rattle.set_facts.proofs.overlay.OverlayFacts.first.Goals as goal

pub returns-clause-found : goal.returns-clause-found
returns-clause-found g c =
    overlay_found (is_of c.args.relation) is_past (g.F.Facts.tuples c.self.inside.facts.now) c.self.inside.gone c.self.inside.added c.args.self.now _ _ _ _ (relation_follows c.args.relation) c.first-below.ensures.in_order c.first.ensures.in_order c.self.view_is
    c.first-below.ensures.found c.remaining-left.ensures.found c.first.ensures.found c.least.ensures.least

pub returns-clause-in_order : goal.returns-clause-in_order
returns-clause-in_order g c = subst IsRepository c.self.view_is (overlaid_in_order (g.F.Facts.tuples c.self.inside.facts.now) c.self.inside.gone c.self.inside.added c.first-below.ensures.in_order)
