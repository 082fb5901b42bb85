use Rattle.std.proofs.Common.{◌≡◌, map}
use Rattle.base_types.specs.Meanings.{fact_of}
use Rattle.lang_checks.specs.Bases.{gathered}
use Rattle.lang_checks.proofs.bases.Base.into_list.Given as goal

-- The tuples of the sets so far.
abbrev pub invariant-loop-facts : goal.invariant-loop-facts
invariant-loop-facts l = map fact_of l.tuples.items ≡ gathered l.yielded
