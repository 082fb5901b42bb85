use Rattle.std.proofs.Common.{◌≡◌, ◌++◌, map, take}
use Rattle.std.specs.List.{flat_map}
use Rattle.run_ask.specs.Asks.{row_of}
use Rattle.run_ask.specs.Printed.{row_line}
use Rattle.run_ask.proofs.printing.push_rows.Given as goal

-- The rows before the place have been added.
abbrev pub invariant-loop-row : goal.invariant-loop-row
invariant-loop-row l = l.out.items ≡ l.initial.out.items ++ flat_map row_line (map row_of (take l.row-index l.rows))
