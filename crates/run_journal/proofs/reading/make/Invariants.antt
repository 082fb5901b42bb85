use Rattle.std.proofs.Common.{◌≡◌, map}
use Rattle.std.specs.Vec.Iter.{into_iter_items}
use Rattle.def_chase.specs.Repository.{apply}
use Rattle.base_types.specs.Meanings.{change_of}
use Rattle.run_journal.proofs.reading.make.Given as goal

-- The writes that are left lead to what all lead to.
abbrev pub invariant-loop-write : goal.invariant-loop-write
invariant-loop-write l = apply l.facts (map change_of (into_iter_items l.write-iterator)) ≡ apply l.fn.facts (map change_of l.fn.writes.items)
