use Rattle.set_versions.proofs.Drawing.{drawn_empty}
use Rattle.set_versions.proofs.Setting.{rows_empty, index_empty}
use Rattle.set_versions.specs.Spreads.{on_spots}
use Rattle.set_versions.proofs.tables.Table.none.Goals as goal

pub invariant_of-result : goal.invariant_of-result
invariant_of-result c = (rows_empty c.new.ensures.empty, index_empty {cells = on_spots c.none.result} c.new.ensures.empty c.none.ensures.none, drawn_empty 0 c.new.ensures.empty)
