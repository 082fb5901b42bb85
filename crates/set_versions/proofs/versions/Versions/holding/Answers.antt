use Rattle.std.proofs.Common.{Some}
use Rattle.std.specs.Option.{option_map, option_copied}
use Rattle.base_types.specs.Candidates.{is_holding}
use Rattle.base_types.specs.Meanings.{fact_of}
use Rattle.set_facts.proofs.Courses.{holding_follows}
use Rattle.set_facts.specs.Overlaid.{overlaid}
use Rattle.set_facts.proofs.Overlays.{overlay_found}
use Rattle.set_versions.specs.Marked.{visible}
use Rattle.set_versions.specs.Standing.{seen}
use Rattle.set_versions.proofs.Both.{seen_ordered}
use Rattle.set_versions.proofs.versions.Versions.holding.Goals as goal

pub returns-clause-found : goal.returns-clause-found
returns-clause-found c =
    let n = c.args.number in
    let u = c.args.name.update in
    let k = c.args.name.place in
    let past = option_map fact_of (option_copied c.args.past) in
    let rows = c.table.result.now in
    overlay_found (is_holding u k past) (λ t. is_holding u k (Some t)) c.base-base.result.now c.taken.result.now (visible n rows) (seen n c.args.self.now) _ _ _ _ (holding_follows u k past) c.holding-below.ensures.in_order c.holding.ensures.in_order
    (λ i. overlaid (c.base-base.ensures.base i) (c.taken.ensures.taken i) (visible n (c.table.ensures.rows i))) c.holding-below.ensures.found c.remaining-left.ensures.found c.holding.ensures.found c.least.ensures.least

pub returns-clause-in_order : goal.returns-clause-in_order
returns-clause-in_order c = seen_ordered c.args.number c.args.self.now c.base-base.ensures.kept
