use Rattle.std.specs.Prelude.{if◌then◌else◌}
use Rattle.std.proofs.Common.{◌∙◌, ◌++◌, ap, map, []}
use Rattle.run_note.specs.Meanings.{note_of}
use Rattle.run_explain.proofs.runs.ended.Goals as goal

pub returns-clause-noted : goal.returns-clause-noted
returns-clause-noted c =
    c.in_ok-keep.ensures.kept
    ∙ ap (λ b. map note_of c.args.notes.now.items ++ (if b then map note_of c.args.made.items else [])) c.is_done-done.ensures.done
