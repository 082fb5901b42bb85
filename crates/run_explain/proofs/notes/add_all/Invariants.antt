use Rattle.std.proofs.Common.{◌≡◌, ◌++◌, map}
use Rattle.run_note.specs.Meanings.{note_of}
use Rattle.run_explain.proofs.notes.add_all.Given as goal

-- Those so far were added.
abbrev pub invariant-loop-note : goal.invariant-loop-note
invariant-loop-note l = map note_of l.notes.items ≡ map note_of l.fn.notes.items ++ map note_of l.yielded
