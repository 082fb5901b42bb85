use Rattle.std.proofs.Common.{◌≡◌, map, drop}
use Rattle.base_types.specs.Meanings.{fact_of}
use Rattle.def_chase.specs.Repository.{Insert, apply}
use Rattle.run_explain.proofs.seeking.seek_all.Given as goal

-- What is sought with those that are left is all.
abbrev pub invariant-loop-tuple : goal.invariant-loop-tuple
invariant-loop-tuple l = apply l.fn.sought (map Insert (map fact_of l.tuples)) ≡ apply l.sought (map Insert (map fact_of (drop l.tuple-index l.tuples)))
