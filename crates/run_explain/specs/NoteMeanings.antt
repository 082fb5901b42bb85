-- What notes of a list mean, and what a step adds to them.
use Rattle.std.specs.Prelude.{◌≡◌, List, ◌++◌, map, Option}
use Rattle.def_chase.specs.Values.{Fact}
use Rattle.def_chase.specs.Mappings.{Rule}
use Rattle.def_chase.specs.Updates.{Choice}
use Rattle.def_steps.specs.Attempts.{Attempt}
use Rattle.def_provenance.specs.Notes.{Noted, noted}
use Rattle.base_types.specs.Listed.{Listed}
use Rattle.run_note.specs.Meanings.{note_of}
use Rattle.run_note.specs.Steps.{step_of}
use Rattle.run_note.specs.declared.notes.Note.{Note}

-- What the notes of a list note.
abbrev pub notes_in : Listed Note → List Noted
notes_in ns = map note_of ns.items

-- What the step of P over D with this answer puts has been noted.
abbrev pub HasNoted : List Rule → List Fact → Option Choice → Attempt → Listed Note → Listed Note → Type 0
HasNoted ms D c P ns ns' = notes_in ns' ≡ notes_in ns ++ noted (step_of ms D P c)
