use Rattle.std.proofs.Common.{◌≡◌, map, take}
use Rattle.def_workspace.specs.Names.{datum_named}
use Rattle.base_types.specs.Meanings.{datum_of}
use Rattle.ws_names.proofs.names.Names.renamed.Given as goal

-- The values so far, by names.
abbrev pub invariant-loop-value : goal.invariant-loop-value
invariant-loop-value l = map datum_of l.values.items ≡ map (datum_named l.self) (map datum_of (take l.value-index l.value-items))
