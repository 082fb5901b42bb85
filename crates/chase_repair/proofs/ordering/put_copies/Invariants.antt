use Rattle.std.proofs.Common.{◌≡◌, map, take}
use Rattle.def_chase.specs.Repository.{apply, Insert}
use Rattle.base_types.specs.Meanings.{fact_of}
use Rattle.chase_repair.proofs.ordering.put_copies.Given as goal

-- The set has the tuples so far besides what it had.
abbrev pub invariant-loop-tuple : goal.invariant-loop-tuple
invariant-loop-tuple l = map fact_of l.set.keys ≡ apply (map fact_of l.fn.set.keys) (map Insert (map fact_of (take l.tuple-index l.tuples)))
