use Rattle.std.proofs.Common.{◌≡◌, ◌++◌, map, drop}
use Rattle.base_types.specs.Meanings.{change_of}
use Rattle.core_engine.proofs.stepping.copied.Given as goal

abbrev pub invariant-loop-write : goal.invariant-loop-write
invariant-loop-write l = map change_of l.copies.items ++ map change_of (drop l.write-index l.writes) ≡ map change_of l.writes
