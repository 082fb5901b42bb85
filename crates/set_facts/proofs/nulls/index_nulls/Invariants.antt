use Rattle.std.proofs.Common.{map}
use Rattle.base_types.specs.Meanings.{fact_of}
use Rattle.set_facts.proofs.ByNull.{IsNullIndexTo}
use Rattle.set_facts.proofs.nulls.index_nulls.Given as goal

-- All tuples that are not left are kept.
abbrev pub invariant-loop-tuple : goal.invariant-loop-tuple
invariant-loop-tuple l =
    (goal.iterator-loop-tuple).can_next l.tuple-iterator ×
    (goal.iterator-loop-tuple).is_finite l.tuple-iterator ×
    IsNullIndexTo l.facts (map fact_of l.tuple-iterator) l.by_null
