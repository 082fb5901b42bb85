use Rattle.std.proofs.Common.{◌∙◌, ap, ◌∷◌, [], map, reverse}
use Rattle.std.proofs.lemmas.List.{map-append}
use Rattle.base_types.specs.Meanings.{fact_of}
use Rattle.def_provenance.specs.Notes.{told_by}
use Rattle.run_note.specs.Meanings.{note_of}
use Rattle.run_explain.specs.ReasonMeanings.{reason_of}
use Rattle.run_explain.proofs.ReasonsTold.{told_on}
use Rattle.run_explain.proofs.telling.told_by.Goals as goal

pub notes-preserved : goal.notes-preserved
notes-preserved c =
    record {
      sorted = c.in_ok-tell.ensures.sorted;
      together =
          told_on
          (told_by (reverse (map note_of c.args.notes.items)) (fact_of c.args.tuple ∷ []))
          (map reason_of c.notes.reasons.items) (map reason_of c.tell.new.reasons.items)
          (map note_of c.notes.left.items) (map note_of c.pop.new.self.items) (note_of c.in-Some.note)
          c.notes.sought c.tell.new.sought
          c.notes.invariant.together
          (ap (map note_of) c.in-Some.ensures.last ∙ map-append note_of c.pop.new.self.items (c.in-Some.note ∷ []))
          c.in_ok-tell.ensures.told.0 c.in_ok-tell.ensures.told.1;
    }
