use Rattle.std.proofs.Common.{◌&&◌, not}
use Rattle.base_types.specs.Meanings.{fact_of}
use Rattle.set_facts.proofs.Changing.{ChangedBelow, SameFrom}
use Rattle.set_facts.proofs.columns.sweep.Given as goal

-- The columns that were gone over have dropped the tuple, and the others are as before.
abbrev pub invariant-loop-column : goal.invariant-loop-column
invariant-loop-column l = record {
  dropped : ChangedBelow (λ a b. a && not b) l.column (fact_of l.tuple) l.initial.columns.items l.columns.items;
  others : SameFrom l.column l.initial.columns.items l.columns.items;
}
