use Rattle.std.proofs.Common.{ap, sym, ◌∙◌, ◌&&◌, refl, [], map, filter, Some}
use Rattle.std.proofs.lemmas.Bool.{lt-ltb}
use Rattle.std.specs.Option.{option_map, option_copied}
use Rattle.base_types.specs.Candidates.{further_candidates}
use Rattle.base_types.specs.Meanings.{fact_of, datum_of}
use Rattle.base_types.specs.declared.tuples.Tuple.{Tuple}
use Rattle.def_chase.specs.Cursors.{is_scanned, has_at}
use Rattle.base_tree.specs.Orders.{is_sought}
use Rattle.set_versions.specs.Indexed.{cell_of}
use Rattle.set_versions.specs.Marked.{stands, visible}
use Rattle.set_versions.specs.Zones.{place_in, place_lead, place_of}
use Rattle.set_versions.specs.declared.cells.Cell.{Cell}
use Rattle.set_versions.specs.declared.marks.Marks.{Marks}
use Rattle.set_versions.proofs.Gathering.{few_first, scan_candidates}
use Rattle.set_versions.specs.Cells.{cell_cmp}
use Rattle.set_versions.specs.Spreads.{on_spots}
use Rattle.std.specs.Ordering.{on}
use Rattle.base_tree.specs.Few.{no_item}
use Rattle.base_tree.proofs.Keeping.{ordered_empty}
use Rattle.base_tree.proofs.Gathering.{with_nothing}
use Rattle.set_versions.proofs.Scanning.{scan_all, shelf_tells}
use Rattle.set_versions.proofs.Seeing.{lead_same, further_same, shown_by, shown_by_lead, seen_in_order}
use Rattle.set_versions.proofs.Setting.{positive, index_there}
use Rattle.set_versions.proofs.tables.Table.few_at.Goals as goal

pub returns-in_default-clause-first : goal.returns-in_default-clause-first
returns-in_default-clause-first c =
    let n = c.args.number in
    let r = c.args.relation in
    let k = c.args.column.number in
    let d = datum_of c.args.column.value.now in
    let past = option_map fact_of (option_copied c.args.past) in
    let rows = c.self.inside.rows in
    let found = map (λ (e : Tuple × Marks). e.0) (filter (is_sought (λ k. place_of r past (fact_of k)) (λ f. stands n f.1 && has_at k d (fact_of f.0))) rows) in
    few_first c.gather.result found (further_candidates (visible n c.args.self.now) r (Some (k, d)) past) c.gather.ensures.first
    (shown_by n (is_scanned r k d past) (λ k. place_of r past (fact_of k)) (λ f. stands n f.1 && has_at k d (fact_of f.0)) (further_same n r k d past) rows
    ∙ scan_candidates (visible n rows) r k d past
    ∙ ap (λ es. further_candidates (visible n es) r (Some (k, d)) past) c.self.view_is)

pub returns-in_default-clause-in_order : goal.returns-in_default-clause-in_order
returns-in_default-clause-in_order c = seen_in_order c.args.number c.self.view_is c.self.invariant.0.order

pub returns-in_default-shelf-clause-first : goal.returns-in_default-shelf-clause-first
returns-in_default-shelf-clause-first c =
    let n = c.args.number in
    let r = c.args.relation in
    let k = c.args.column.number in
    let d = datum_of c.args.column.value.now in
    let past = option_map fact_of (option_copied c.args.past) in
    let rows = c.self.inside.rows in
    let shelves = on_spots c.in-Some.index in
    few_first c.new.result [] (further_candidates (visible n c.args.self.now) r (Some (k, d)) past) (c.new.ensures.none ∙ sym (with_nothing no_item))
    (scan_all n r k d past rows [] c.self.invariant.0 (ordered_empty {V = Marks} (on cell_of cell_cmp) refl)
    (shelf_tells n r k d past rows shelves (index_there rows c.in-Some.index c.self.invariant.1 c.in-Some.is) (lt-ltb 0 k c.requires.further) (c.in_default-shelf.ensures.shelf ∙ ap shelves c.spot.ensures.spot))
    ∙ scan_candidates (visible n rows) r k d past
    ∙ ap (λ es. further_candidates (visible n es) r (Some (k, d)) past) c.self.view_is)

pub returns-in_default-shelf-clause-in_order : goal.returns-in_default-shelf-clause-in_order
returns-in_default-shelf-clause-in_order c = seen_in_order c.args.number c.self.view_is c.self.invariant.0.order

pub returns-clause-first : goal.returns-clause-first
returns-clause-first c =
    let n = c.args.number in
    let r = c.args.relation in
    let k = c.args.column.number in
    let d = datum_of c.args.column.value.now in
    let past = option_map fact_of (option_copied c.args.past) in
    let rows = c.self.inside.rows in
    let shelves = on_spots c.in-Some.index in
    let cells = c.in-Some-shelf.shelf.now.cells in
    let found = map (λ (e : Cell × Marks). e.0.tuple) (filter (is_sought (λ x. place_in r k d past (cell_of x)) (λ f. stands n f.1)) cells) in
    few_first c.gather-2.result found (further_candidates (visible n c.args.self.now) r (Some (k, d)) past) c.gather-2.ensures.first
    (scan_all n r k d past rows cells c.self.invariant.0 c.gather-2.ensures.in_order
    (shelf_tells n r k d past rows shelves (index_there rows c.in-Some.index c.self.invariant.1 c.in-Some.is) (lt-ltb 0 k c.requires.further) (c.in-Some-shelf.ensures.shelf ∙ ap shelves c.spot.ensures.spot))
    ∙ scan_candidates (visible n rows) r k d past
    ∙ ap (λ es. further_candidates (visible n es) r (Some (k, d)) past) c.self.view_is)

pub returns-clause-in_order : goal.returns-clause-in_order
returns-clause-in_order c = seen_in_order c.args.number c.self.view_is c.self.invariant.0.order
