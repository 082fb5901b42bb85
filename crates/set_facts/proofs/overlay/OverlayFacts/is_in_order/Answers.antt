use Rattle.std.proofs.Common.{subst}
use Rattle.def_chase.specs.Repository.{IsRepository}
use Rattle.set_facts.proofs.Overlays.{overlaid_in_order}
use Rattle.set_facts.proofs.overlay.OverlayFacts.is_in_order.Goals as goal

pub returns : goal.returns
returns g c = record { in_order = subst IsRepository c.self.view_is (overlaid_in_order (g.F.Facts.tuples c.self.inside.facts.now) c.self.inside.gone c.self.inside.added c.self.invariant) }
