use Rattle.std.proofs.Common.{◌≡◌, map}
use Rattle.def_chase.specs.Repository.{Delete}
use Rattle.base_types.specs.Meanings.{fact_of, change_of}
use Rattle.chase_repair.proofs.rewriting.deletions.Given as goal

-- The tuples so far are deleted.
abbrev pub invariant-loop-tuple : goal.invariant-loop-tuple
invariant-loop-tuple l = map change_of l.writes.items ≡ map Delete (map fact_of l.yielded)
