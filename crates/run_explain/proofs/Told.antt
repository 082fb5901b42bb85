-- The explanation by what a run told and its notes.
use Rattle.std.specs.Prelude.{if◌then◌else◌}
use Rattle.std.proofs.Common.{◌≡◌, ◌∙◌, ap, ℕ, Some, None, List, [], ◌∷◌, reverse}
use Rattle.def_chase.specs.Values.{Fact}
use Rattle.def_chase.specs.Repository.{has}
use Rattle.def_chase.specs.Mappings.{Rule}
use Rattle.base_types.specs.Contents.{facts_of}
use Rattle.chase_update.specs.Results.{ResultTold, result_in, result_of}
use Rattle.chase_update.specs.declared.results.SessionResult.{SessionResult}
use Rattle.def_steps.specs.Chase.{every}
use Rattle.def_steps.specs.Serial.{Request, serial_result, turns_of}
use Rattle.def_provenance.specs.Courses.{serial_steps}
use Rattle.def_provenance.specs.Laws.{NotesTell}
use Rattle.def_provenance.specs.Notes.{Noted, notes_of, told_by}
use Rattle.def_provenance.specs.Reasons.{explained, explanation}

-- What is told of a run and by its notes, where the tuple is left, is the explanation.
pub told_where : (ms : List Rule) (B : ℕ) (D : List Fact) (rs : List Request) (t : Fact) (run : SessionResult) (ns : List Noted) → NotesTell
    → result_of run ≡ result_in (serial_result ms B D rs) → ns ≡ notes_of (serial_steps every ms B D (turns_of ms B rs))
    → (if has (facts_of run.repository) t then Some (told_by (reverse ns) (t ∷ [])) else None) ≡ explanation ms B D rs t
told_where ms B D rs t run ns law e f = λ i. if has (left i) t then Some (all i) else None
  where
    left : facts_of run.repository ≡ (serial_result ms B D rs).repository
    left = ap (λ (r : ResultTold). r.repository) e

    all : told_by (reverse ns) (t ∷ []) ≡ explained (reverse (serial_steps every ms B D (turns_of ms B rs))) (t ∷ [])
    all = ap (λ xs. told_by (reverse xs) (t ∷ [])) f ∙ law (serial_steps every ms B D (turns_of ms B rs)) (t ∷ [])
