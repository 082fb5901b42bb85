use Rattle.base_types.specs.Meanings.{fact_of}
use Rattle.set_versions.specs.Indexed.{CellsHave}
use Rattle.set_versions.specs.Spreads.{on_spots}
use Rattle.set_versions.proofs.indexes.set_cells.Given as goal

abbrev pub invariant-loop-column : goal.invariant-loop-column
invariant-loop-column l = CellsHave (fact_of l.tuple) l.column l.marks (on_spots l.initial.cells) (on_spots l.cells)
