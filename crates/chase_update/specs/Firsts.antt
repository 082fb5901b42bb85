-- The list of the first writes of an attempt.
use Rattle.std.specs.Prelude.{Option, Some, None}
use mathlib.Core.List.{IsPrefix}
use Rattle.std.specs.declared.alloc.Global.{Global}
use Rattle.std.specs.declared.sync.Arc.{Arc}
use Rattle.base_types.specs.Contents.{changes_of}
use Rattle.base_types.specs.Listed.{Listed}
use Rattle.base_types.specs.declared.updates.Write.{Write}

-- If a second list is kept beside the list of all writes, it has the first of them.
abbrev pub HasFirst : Option (Arc (Listed Write) Global) → Listed Write → Type 0
HasFirst None all = Unit {0}
HasFirst (Some first) all = IsPrefix (changes_of first.value) (changes_of all)
