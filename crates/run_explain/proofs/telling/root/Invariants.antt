use Rattle.std.proofs.Common.{◌≡◌, ◌++◌, map}
use Rattle.base_types.specs.Meanings.{fact_of}
use Rattle.def_provenance.specs.Reasons.{rooted}
use Rattle.run_explain.specs.ReasonMeanings.{reason_of}
use Rattle.run_explain.proofs.telling.root.Given as goal

-- Those so far were told.
abbrev pub invariant-loop-tuple : goal.invariant-loop-tuple
invariant-loop-tuple l = map reason_of l.reasons.items ≡ map reason_of l.fn.reasons.items ++ map rooted (map fact_of l.yielded)
