use Rattle.std.proofs.Common.{◌≡◌, map, ◌++◌}
use Rattle.base_types.specs.Meanings.{fact_of}
use Rattle.set_facts.proofs.plain.PlainFacts.list.Given as goal

-- What has been copied and what is left are all.
abbrev pub invariant-loop-tuple : goal.invariant-loop-tuple
invariant-loop-tuple l =
    (goal.iterator-loop-tuple).can_next l.tuple-iterator ×
    (goal.iterator-loop-tuple).is_finite l.tuple-iterator ×
    (map fact_of l.list.items ++ map fact_of l.tuple-iterator ≡ l.self)
