use Rattle.std.proofs.Common.{subst, Some}
use Rattle.std.specs.Option.{option_map, option_copied}
use Rattle.def_chase.specs.Repository.{IsRepository}
use Rattle.def_chase.specs.Cursors.{is_scanned}
use Rattle.base_types.specs.Meanings.{fact_of, datum_of}
use Rattle.set_facts.proofs.Courses.{scanned_follows}
use Rattle.set_facts.proofs.Overlays.{overlay_found, overlaid_in_order}
use Rattle.set_facts.proofs.overlay.OverlayFacts.scan.Goals as goal

pub returns-clause-found : goal.returns-clause-found
returns-clause-found g c =
    let r = c.args.relation in
    let k = c.args.column in
    let d = datum_of c.args.value.now in
    let past = option_map fact_of (option_copied c.args.past) in
    overlay_found (is_scanned r k d past) (λ t. is_scanned r k d (Some t)) (g.F.Facts.tuples c.self.inside.facts.now) c.self.inside.gone c.self.inside.added c.args.self.now _ _ _ _ (scanned_follows r k d past) c.scan-below.ensures.in_order c.scan.ensures.in_order c.self.view_is
    c.scan-below.ensures.found c.remaining-left.ensures.found c.scan.ensures.found c.least.ensures.least

pub returns-clause-in_order : goal.returns-clause-in_order
returns-clause-in_order g c = subst IsRepository c.self.view_is (overlaid_in_order (g.F.Facts.tuples c.self.inside.facts.now) c.self.inside.gone c.self.inside.added c.scan-below.ensures.in_order)
