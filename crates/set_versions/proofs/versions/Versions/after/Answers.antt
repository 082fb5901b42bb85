use Rattle.base_types.specs.Meanings.{fact_of}
use Rattle.def_chase.specs.Cursors.{is_past}
use Rattle.set_facts.proofs.Courses.{past_follows}
use Rattle.set_facts.specs.Overlaid.{overlaid}
use Rattle.set_facts.proofs.Overlays.{overlay_found}
use Rattle.set_versions.specs.Marked.{visible}
use Rattle.set_versions.specs.Standing.{seen}
use Rattle.set_versions.proofs.Both.{seen_ordered}
use Rattle.set_versions.proofs.versions.Versions.after.Goals as goal

pub returns-clause-found : goal.returns-clause-found
returns-clause-found c =
    let n = c.args.number in
    let rows = c.table.result.now in
    overlay_found (is_past (fact_of c.args.tuple.now)) is_past c.base-base.result.now c.taken.result.now (visible n rows) (seen n c.args.self.now) _ _ _ _ (past_follows (fact_of c.args.tuple.now)) c.after-below.ensures.in_order c.after.ensures.in_order
    (λ i. overlaid (c.base-base.ensures.base i) (c.taken.ensures.taken i) (visible n (c.table.ensures.rows i))) c.after-below.ensures.found c.remaining-left.ensures.found c.after.ensures.found c.least.ensures.least

pub returns-clause-in_order : goal.returns-clause-in_order
returns-clause-in_order c = seen_ordered c.args.number c.args.self.now c.base-base.ensures.kept
