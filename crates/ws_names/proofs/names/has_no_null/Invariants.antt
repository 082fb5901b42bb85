use Rattle.std.proofs.Common.{◌≡◌, map, take}
use Rattle.def_workspace.specs.Names.{Names, datum_named}
use Rattle.base_types.specs.Meanings.{datum_of}
use Rattle.ws_names.proofs.names.has_no_null.Given as goal

-- The values that were gone over are the same by names.
abbrev pub invariant-loop-value : goal.invariant-loop-value
invariant-loop-value l = (ns : Names) → map (datum_named ns) (map datum_of (take l.value-index l.values)) ≡ map datum_of (take l.value-index l.values)
