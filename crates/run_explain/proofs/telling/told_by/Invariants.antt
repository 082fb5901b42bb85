use Rattle.std.proofs.Common.{◌≡◌, ◌++◌, ◌∷◌, [], length, map, reverse}
use Rattle.base_types.specs.Meanings.{fact_of}
use Rattle.def_chase.specs.Repository.{IsRepository}
use Rattle.def_provenance.specs.Notes.{told_by}
use Rattle.run_note.specs.Meanings.{note_of}
use Rattle.run_explain.specs.ReasonMeanings.{reason_of}
use Rattle.run_explain.proofs.telling.told_by.Given as goal

-- What is told is what is told so far, and then what is told by the notes that are left of what is still sought.
abbrev pub invariant-notes : goal.invariant-notes
invariant-notes l = record {
  sorted : IsRepository l.sought;
  together :
      told_by (reverse (map note_of l.fn.notes.items)) (fact_of l.fn.tuple ∷ [])
      ≡ map reason_of l.reasons.items ++ told_by (reverse (map note_of l.left.items)) l.sought;
}

-- How many notes are left.
abbrev pub decreases-notes : goal.decreases-notes
decreases-notes l = length l.left.items
