use Rattle.std.proofs.Common.{ap, refl}
use Rattle.base_types.specs.Meanings.{fact_of}
use Rattle.set_versions.specs.Spreads.{on_spots, same_spots, spots_same}
use Rattle.set_versions.proofs.Setting.{has_first, has_further, positive}
use Rattle.set_versions.proofs.indexes.set_cell.Goals as goal

pub returns-then-column-eq0 : goal.returns-then-column-eq0
returns-then-column-eq0 c = record { ok = has_first (fact_of c.args.tuple.now) c.args.column c.args.marks.now (on_spots c.args.cells.now) c.if-column-eq0.true }

pub returns : goal.returns
returns c = record {
  ok = has_further (fact_of c.args.tuple.now) c.args.column c.args.marks.now (on_spots c.args.cells.now) (on_spots c.set.new.self) same_spots (record { column = c.args.column; tuple = c.in_ok-share.field-0 }) c.in_ok-share-2.field-0
      c.spot-spot.result (positive c.args.column c.if-column-eq0.false) spots_same c.in_ok-set.ensures.ok c.spot-spot.ensures refl (ap fact_of c.in_ok-share.ensures.same) c.in_ok-share-2.ensures.same;
}
