use Rattle.std.proofs.Common.{◌≡◌, ◌-◌, ◌+◌, length}
use Rattle.lang_checks.specs.Bases.{gathered, AreApart}
use Rattle.lang_checks.proofs.bases.reach.Given as goal

-- The sets have what they had, and are apart.
abbrev pub invariant-loop-alloc : goal.invariant-loop-alloc
invariant-loop-alloc l = record {
  same : gathered l.relations.items ≡ gathered l.initial.relations.items;
  apart : AreApart 0 l.relations.items;
}

abbrev pub decreases-loop-alloc : goal.decreases-loop-alloc
decreases-loop-alloc l = l.relation + 1 - length l.relations.items
