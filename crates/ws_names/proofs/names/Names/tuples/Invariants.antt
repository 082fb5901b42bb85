use Rattle.std.proofs.Common.{◌≡◌, map, take}
use Rattle.def_workspace.specs.Names.{fact_named}
use Rattle.base_types.specs.Meanings.{fact_of}
use Rattle.ws_names.proofs.names.Names.tuples.Given as goal

-- The tuples so far, by names.
abbrev pub invariant-loop-tuple : goal.invariant-loop-tuple
invariant-loop-tuple l = map fact_of l.named.items ≡ map (fact_named l.self) (map fact_of (take l.tuple-index l.tuples))
