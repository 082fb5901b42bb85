-- The values of a row, which its copies share.
use Rattle.std.specs.Prelude.{Option, Some, None, []}
use Rattle.std.specs.declared.alloc.Global.{Global}
use Rattle.std.specs.declared.sync.Arc.{Arc}
use Rattle.base_types.specs.Listed.{Listed}
use Rattle.base_types.specs.declared.values.Value.{Value}

-- The values that are shared; no values if nothing is shared.
abbrev pub row_held : Option (Arc (Listed Value) Global) → Listed Value
row_held None = record { items = []; spare = 0 }
row_held (Some values) = values.value
