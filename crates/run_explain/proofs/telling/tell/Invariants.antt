use Rattle.std.proofs.Common.{◌≡◌, ◌++◌, map, filter, not}
use Rattle.base_types.specs.Meanings.{fact_of}
use Rattle.def_chase.specs.Repository.{Insert, apply, has}
use Rattle.def_provenance.specs.Notes.{reason_by}
use Rattle.run_note.specs.Meanings.{note_of}
use Rattle.run_explain.specs.ReasonMeanings.{reason_of}
use Rattle.run_explain.proofs.ReasonsTold.{resting}
use Rattle.run_explain.proofs.telling.tell.Given as goal

-- The reasons for those so far were told, and what they rest on is sought.
abbrev pub invariant-loop-tuple : goal.invariant-loop-tuple
invariant-loop-tuple l = record {
  told : map reason_of l.reasons.items ≡ map reason_of l.fn.reasons.items ++ map (reason_by (note_of l.note)) (map fact_of l.yielded);
  sought :
      l.sought
      ≡ apply (filter (λ t. not (has (map fact_of l.note.puts.items) t)) l.fn.sought)
      (map Insert (resting (map (reason_by (note_of l.note)) (map fact_of l.yielded))));
}
