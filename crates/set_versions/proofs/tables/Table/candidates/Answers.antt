use Rattle.std.proofs.Common.{ap, sym, ◌∙◌, ◌&&◌, map, filter, None, Some}
use Rattle.std.specs.Option.{option_map, option_copied}
use Rattle.base_types.specs.Candidates.{column_of, further_candidates}
use Rattle.base_types.specs.Meanings.{fact_of, datum_of}
use Rattle.base_types.specs.declared.tuples.Tuple.{Tuple}
use Rattle.def_chase.specs.Cursors.{is_of, is_beyond, is_scanned}
use Rattle.base_tree.specs.Orders.{is_sought}
use Rattle.set_versions.specs.Marked.{stands, visible}
use Rattle.set_versions.specs.Zones.{place_lead, place_of}
use Rattle.set_versions.specs.declared.marks.Marks.{Marks}
use Rattle.set_versions.proofs.Gathering.{few_first, scan_candidates, zone_candidates}
use Rattle.set_versions.proofs.Seeing.{lead_same, zone_same, shown_by, shown_by_lead, seen_in_order}
use Rattle.set_versions.proofs.tables.Table.candidates.Goals as goal

pub returns-in_default-clause-first : goal.returns-in_default-clause-first
returns-in_default-clause-first c =
    let n = c.args.number in
    let r = c.args.relation in
    let past = option_map fact_of (option_copied c.args.past) in
    let rows = c.self.inside.rows in
    let found = map (λ (e : Tuple × Marks). e.0) (filter (is_sought (λ k. place_of r past (fact_of k)) (λ f. stands n f.1)) rows) in
    few_first c.gather.result found (further_candidates (visible n c.args.self.now) r (option_map column_of c.args.column) past) c.gather.ensures.first
    (shown_by n (λ u. is_of r u && is_beyond past u) (λ k. place_of r past (fact_of k)) (λ f. stands n f.1) (zone_same n r past) rows
    ∙ zone_candidates (visible n rows) r past
    ∙ ap (λ es. further_candidates (visible n es) r None past) c.self.view_is
    ∙ ap (λ o. further_candidates (visible n c.args.self.now) r (option_map column_of o) past) (sym c.in_default.is))

pub returns-in_default-clause-in_order : goal.returns-in_default-clause-in_order
returns-in_default-clause-in_order c = seen_in_order c.args.number c.self.view_is c.gather.ensures.in_order

pub returns-then-column-eq0-clause-first : goal.returns-then-column-eq0-clause-first
returns-then-column-eq0-clause-first c =
    let n = c.args.number in
    let r = c.args.relation in
    let d = datum_of c.in-Some.column.value.now in
    let past = option_map fact_of (option_copied c.args.past) in
    let rows = c.self.inside.rows in
    let found = map (λ (e : Tuple × Marks). e.0) (filter (is_sought (λ k. place_lead r d past (fact_of k)) (λ f. stands n f.1)) rows) in
    few_first c.gather-then-column-eq0.result found (further_candidates (visible n c.args.self.now) r (option_map column_of c.args.column) past) (shown_by_lead rows c.new.ensures.search c.gather-then-column-eq0.ensures.first)
    (shown_by n (is_scanned r 0 d past) (λ k. place_lead r d past (fact_of k)) (λ f. stands n f.1) (lead_same n r d past) rows
    ∙ scan_candidates (visible n rows) r 0 d past
    ∙ ap (λ es. further_candidates (visible n es) r (Some (0, d)) past) c.self.view_is
    ∙ ap (λ k. further_candidates (visible n c.args.self.now) r (Some (k, d)) past) (sym c.if-column-eq0.true)
    ∙ ap (λ o. further_candidates (visible n c.args.self.now) r (option_map column_of o) past) (sym c.in-Some.is))

pub returns-then-column-eq0-clause-in_order : goal.returns-then-column-eq0-clause-in_order
returns-then-column-eq0-clause-in_order c = seen_in_order c.args.number c.self.view_is c.gather-then-column-eq0.ensures.in_order
