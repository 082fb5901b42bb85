use Rattle.std.proofs.Common.{ap, sym, ◌∙◌, ◌&&◌, refl, [], Some}
use Rattle.std.proofs.lemmas.Bool.{lt-ltb}
use Rattle.std.specs.Option.{option_map, option_copied}
use Rattle.base_types.specs.Meanings.{fact_of, datum_of}
use Rattle.def_chase.specs.Cursors.{is_scanned, has_at, scan_of}
use Rattle.set_versions.specs.Marked.{stands, visible}
use Rattle.set_versions.specs.Zones.{place_lead, place_of}
use Rattle.set_versions.specs.declared.marks.Marks.{Marks}
use Rattle.set_versions.specs.Cells.{cell_cmp}
use Rattle.set_versions.specs.Indexed.{cell_of}
use Rattle.set_versions.specs.Spreads.{on_spots}
use Rattle.std.specs.Ordering.{on}
use Rattle.base_tree.proofs.Keeping.{ordered_empty}
use Rattle.set_versions.proofs.Scanning.{scan_none, scan_some, shelf_tells}
use Rattle.set_versions.proofs.Seeing.{found_by_lead, lead_same, further_same, seen_by, seen_in_order}
use Rattle.set_versions.proofs.Setting.{positive, index_there}
use Rattle.set_versions.proofs.tables.Table.scan.Goals as goal

pub returns-then-column-eq0-clause-found : goal.returns-then-column-eq0-clause-found
returns-then-column-eq0-clause-found c =
    let n = c.args.number in
    let r = c.args.relation in
    let d = datum_of c.args.value.now in
    let past = option_map fact_of (option_copied c.args.past) in
    seen_by n (is_scanned r 0 d past) (λ k. place_lead r d past (fact_of k)) (λ f. stands n f.1) (lead_same n r d past) c.self.inside.rows _ _ (found_by_lead c.self.inside.rows c.new.ensures.search c.find_in.ensures.found) c.tuple_in.ensures
    ∙ ap (λ es. scan_of (visible n es) r 0 d past) c.self.view_is
    ∙ ap (λ k. scan_of (visible n c.args.self.now) r k d past) (sym c.if-column-eq0.true)

pub returns-then-column-eq0-clause-in_order : goal.returns-then-column-eq0-clause-in_order
returns-then-column-eq0-clause-in_order c = seen_in_order c.args.number c.self.view_is c.find_in.ensures.in_order

pub returns-in_default-clause-found : goal.returns-in_default-clause-found
returns-in_default-clause-found c =
    let n = c.args.number in
    let r = c.args.relation in
    let k = c.args.column in
    let d = datum_of c.args.value.now in
    let past = option_map fact_of (option_copied c.args.past) in
    seen_by n (is_scanned r k d past) (λ k. place_of r past (fact_of k)) (λ f. stands n f.1 && has_at k d (fact_of f.0)) (further_same n r k d past) c.self.inside.rows _ _ c.find_in-in_default.ensures.found c.tuple_in-in_default.ensures
    ∙ ap (λ es. scan_of (visible n es) r k d past) c.self.view_is

pub returns-in_default-clause-in_order : goal.returns-in_default-clause-in_order
returns-in_default-clause-in_order c = seen_in_order c.args.number c.self.view_is c.self.invariant.0.order

pub returns-in_default-shelf-clause-found : goal.returns-in_default-shelf-clause-found
returns-in_default-shelf-clause-found c =
    let n = c.args.number in
    let d = datum_of c.args.value.now in
    let past = option_map fact_of (option_copied c.args.past) in
    let rows = c.self.inside.rows in
    let shelves = on_spots c.in-Some.index in
    sym (scan_none n c.args.relation c.args.column d past rows [] c.self.invariant.0 (ordered_empty {V = Marks} (on cell_of cell_cmp) refl)
    (shelf_tells n c.args.relation c.args.column d past rows shelves (index_there rows c.in-Some.index c.self.invariant.1 c.in-Some.is) (lt-ltb 0 c.args.column (positive c.args.column c.if-column-eq0.false)) (c.in_default-shelf.ensures.shelf ∙ ap shelves c.spot.ensures.spot))
    refl)
    ∙ ap (λ es. scan_of (visible n es) c.args.relation c.args.column d past) c.self.view_is

pub returns-in_default-shelf-clause-in_order : goal.returns-in_default-shelf-clause-in_order
returns-in_default-shelf-clause-in_order c = seen_in_order c.args.number c.self.view_is c.self.invariant.0.order

pub returns-in-Some-found-clause-found : goal.returns-in-Some-found-clause-found
returns-in-Some-found-clause-found c =
    let n = c.args.number in
    let d = datum_of c.args.value.now in
    let past = option_map fact_of (option_copied c.args.past) in
    let rows = c.self.inside.rows in
    let shelves = on_spots c.in-Some.index in
    let cells = c.in-Some-shelf.shelf.now.cells in
    ap (λ t. Some (fact_of t)) c.get.ensures
    ∙ sym (scan_some n c.args.relation c.args.column d past rows cells c.self.invariant.0 c.in-Some-found.ensures.in_order
    (shelf_tells n c.args.relation c.args.column d past rows shelves (index_there rows c.in-Some.index c.self.invariant.1 c.in-Some.is) (lt-ltb 0 c.args.column (positive c.args.column c.if-column-eq0.false)) (c.in-Some-shelf.ensures.shelf ∙ ap shelves c.spot.ensures.spot))
    (sym c.in-Some-found.ensures.found))
    ∙ ap (λ es. scan_of (visible n es) c.args.relation c.args.column d past) c.self.view_is

pub returns-in-Some-found-clause-in_order : goal.returns-in-Some-found-clause-in_order
returns-in-Some-found-clause-in_order c = seen_in_order c.args.number c.self.view_is c.self.invariant.0.order

pub returns-in-None-clause-found : goal.returns-in-None-clause-found
returns-in-None-clause-found c =
    let n = c.args.number in
    let d = datum_of c.args.value.now in
    let past = option_map fact_of (option_copied c.args.past) in
    let rows = c.self.inside.rows in
    let shelves = on_spots c.in-Some.index in
    let cells = c.in-Some-shelf.shelf.now.cells in
    sym (scan_none n c.args.relation c.args.column d past rows cells c.self.invariant.0 c.in-None.ensures.in_order
    (shelf_tells n c.args.relation c.args.column d past rows shelves (index_there rows c.in-Some.index c.self.invariant.1 c.in-Some.is) (lt-ltb 0 c.args.column (positive c.args.column c.if-column-eq0.false)) (c.in-Some-shelf.ensures.shelf ∙ ap shelves c.spot.ensures.spot))
    (sym c.in-None.ensures.found))
    ∙ ap (λ es. scan_of (visible n es) c.args.relation c.args.column d past) c.self.view_is

pub returns-in-None-clause-in_order : goal.returns-in-None-clause-in_order
returns-in-None-clause-in_order c = seen_in_order c.args.number c.self.view_is c.self.invariant.0.order
