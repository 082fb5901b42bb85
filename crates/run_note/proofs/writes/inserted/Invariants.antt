use Rattle.std.proofs.Common.{◌≡◌, ◌++◌, drop, map}
use Rattle.base_types.specs.Meanings.{change_of, fact_of}
use Rattle.def_provenance.specs.Puts.{inserted}
use Rattle.run_note.proofs.writes.inserted.Given as goal

-- Those so far, and then those of the writes that are left, are all.
abbrev pub invariant-loop-write : goal.invariant-loop-write
invariant-loop-write l = inserted (map change_of l.writes) ≡ map fact_of l.tuples.items ++ inserted (map change_of (drop l.write-index l.writes))
