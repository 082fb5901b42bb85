use Rattle.std.proofs.Common.{◌≡◌, ℕ, ◌-◌, ◌+◌, length}
use Rattle.set_facts.specs.Indexes.{columns_of}
use Rattle.set_facts.proofs.relations.reach.Given as goal

-- The relations keep the columns that they had.
abbrev pub invariant-loop-alloc : goal.invariant-loop-alloc
invariant-loop-alloc l = (r : ℕ) → columns_of l.relations.items r ≡ columns_of l.initial.relations.items r

abbrev pub decreases-loop-alloc : goal.decreases-loop-alloc
decreases-loop-alloc l = l.relation + 1 - length l.relations.items
