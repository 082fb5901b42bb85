use Rattle.base_types.specs.Meanings.{fact_of}
use Rattle.set_versions.specs.Spreads.{on_spots}
use Rattle.set_versions.proofs.Setting.{have_more}
use Rattle.set_versions.proofs.indexes.set_cells.Goals as goal

pub loop-column-preserved : goal.loop-column-preserved
loop-column-preserved c =
    have_more (fact_of c.args.tuple.now) c.loop-column.column c.args.marks.now (on_spots c.args.cells.now) (on_spots c.loop-column.cells) (on_spots c.set_cell.new.cells) c.loop-column.invariant c.in_ok-set_cell.ensures.ok
