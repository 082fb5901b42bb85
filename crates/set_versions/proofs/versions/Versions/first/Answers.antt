use Rattle.def_chase.specs.Cursors.{is_of, is_past}
use Rattle.set_facts.proofs.Courses.{relation_follows}
use Rattle.set_facts.specs.Overlaid.{overlaid}
use Rattle.set_facts.proofs.Overlays.{overlay_found}
use Rattle.set_versions.specs.Marked.{visible}
use Rattle.set_versions.specs.Standing.{seen}
use Rattle.set_versions.proofs.Both.{seen_ordered}
use Rattle.set_versions.proofs.versions.Versions.first.Goals as goal

pub returns-clause-found : goal.returns-clause-found
returns-clause-found c =
    let n = c.args.number in
    let rows = c.table.result.now in
    overlay_found (is_of c.args.relation) is_past c.base-base.result.now c.taken.result.now (visible n rows) (seen n c.args.self.now) _ _ _ _ (relation_follows c.args.relation) c.first-below.ensures.in_order c.first.ensures.in_order
    (λ i. overlaid (c.base-base.ensures.base i) (c.taken.ensures.taken i) (visible n (c.table.ensures.rows i))) c.first-below.ensures.found c.remaining-left.ensures.found c.first.ensures.found c.least.ensures.least

pub returns-clause-in_order : goal.returns-clause-in_order
returns-clause-in_order c = seen_ordered c.args.number c.args.self.now c.base-base.ensures.kept
