use Rattle.std.proofs.Common.{◌-◌, ◌+◌, length}
use Rattle.set_facts.specs.Indexes.{AreSame}
use Rattle.set_facts.proofs.columns.reach.Given as goal

-- The columns keep what they kept.
abbrev pub invariant-loop-alloc : goal.invariant-loop-alloc
invariant-loop-alloc l = AreSame l.initial.columns.items l.columns.items

abbrev pub decreases-loop-alloc : goal.decreases-loop-alloc
decreases-loop-alloc l = l.column + 1 - length l.columns.items
