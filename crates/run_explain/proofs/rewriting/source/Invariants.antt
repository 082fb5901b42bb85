use Rattle.std.proofs.Common.{◌≡◌, map, drop}
use Rattle.base_types.specs.Meanings.{fact_of}
use Rattle.run_note.specs.Meanings.{rewriting_of}
use Rattle.def_provenance.specs.Reasons.{source}
use Rattle.run_explain.proofs.rewriting.source.Given as goal

-- The first of all is the first of those that are left.
abbrev pub invariant-loop-from : goal.invariant-loop-from
invariant-loop-from l =
    source (map fact_of l.deleted) (fact_of l.tuple) (rewriting_of l.rewriting)
    ≡ source (map fact_of (drop l.from-index l.deleted)) (fact_of l.tuple) (rewriting_of l.rewriting)
