use Rattle.std.proofs.Common.{subst}
use Rattle.def_chase.specs.Repository.{IsRepository}
use Rattle.def_chase.specs.Cursors.{is_past}
use Rattle.base_types.specs.Meanings.{fact_of}
use Rattle.set_facts.proofs.Courses.{past_follows}
use Rattle.set_facts.proofs.Overlays.{overlay_found, overlaid_in_order}
use Rattle.set_facts.proofs.overlay.OverlayFacts.after.Goals as goal

pub returns-clause-found : goal.returns-clause-found
returns-clause-found g c =
    overlay_found (is_past (fact_of c.args.tuple.now)) is_past (g.F.Facts.tuples c.self.inside.facts.now) c.self.inside.gone c.self.inside.added c.args.self.now _ _ _ _ (past_follows (fact_of c.args.tuple.now)) c.after-below.ensures.in_order c.after.ensures.in_order c.self.view_is
    c.after-below.ensures.found c.remaining-left.ensures.found c.after.ensures.found c.least.ensures.least

pub returns-clause-in_order : goal.returns-clause-in_order
returns-clause-in_order g c = subst IsRepository c.self.view_is (overlaid_in_order (g.F.Facts.tuples c.self.inside.facts.now) c.self.inside.gone c.self.inside.added c.after-below.ensures.in_order)
