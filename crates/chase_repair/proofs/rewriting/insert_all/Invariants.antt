use Rattle.std.proofs.Common.{◌≡◌, ◌++◌, map, length}
use Rattle.def_chase.specs.Repository.{Insert}
use Rattle.base_types.specs.Meanings.{fact_of, change_of}
use Rattle.chase_repair.proofs.rewriting.insert_all.Given as goal

-- The writes so far and the insertions of what is left are all.
abbrev pub invariant-loop-tuple : goal.invariant-loop-tuple
invariant-loop-tuple l =
    map change_of l.writes.items ++ map Insert (map fact_of l.left.keys) ≡ map change_of l.fn.writes.items ++ map Insert (map fact_of l.fn.set.keys)

-- How many are left.
abbrev pub decreases-loop-tuple : goal.decreases-loop-tuple
decreases-loop-tuple l = length l.left.keys
