use Rattle.std.proofs.Common.{◌≡◌, ◌-◌, length, drop}
use Rattle.lang_checks.specs.Bases.{gathered}
use Rattle.lang_checks.proofs.bases.are_so_many.Given as goal

-- As many as are left stand in the sets that are left.
abbrev pub invariant-loop-facts : goal.invariant-loop-facts
invariant-loop-facts l = l.left - length (gathered (drop l.facts-index l.relations)) ≡ l.most - length (gathered l.relations)
