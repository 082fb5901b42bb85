use Rattle.base_types.specs.Meanings.{fact_of}
use Rattle.set_facts.specs.ByNull.{DropsHolder}
use Rattle.set_facts.proofs.ByNull.{named_before}
use Rattle.set_facts.proofs.nulls.drop_nulls.Given as goal

-- The tuple is gone from the nulls that were gone over.
abbrev pub invariant-loop-value : goal.invariant-loop-value
invariant-loop-value l = DropsHolder (named_before l.value-index l.value-items) (fact_of l.tuple) l.initial.by_null l.by_null
