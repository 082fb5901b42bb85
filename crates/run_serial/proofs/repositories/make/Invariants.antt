use Rattle.std.proofs.Common.{◌≡◌, map}
use Rattle.std.specs.Vec.Iter.{into_iter_items}
use Rattle.def_chase.specs.Repository.{apply}
use Rattle.base_types.specs.Meanings.{change_of}
use Rattle.run_serial.proofs.repositories.make.Given as goal

-- The writes that are left lead to what all lead to, and those before them were made.
abbrev pub invariant-loop-write : goal.invariant-loop-write
invariant-loop-write l = record {
  left : apply l.facts (map change_of (into_iter_items l.write-iterator)) ≡ apply l.fn.facts (map change_of l.fn.writes.items);
  made : l.facts ≡ apply l.fn.facts (map change_of l.yielded);
}
