use Rattle.std.proofs.Common.{◌∙◌, ◌++◌, ap, List, map}
use Rattle.std.proofs.lemmas.List.{append-nil}
use Rattle.std.proofs.Math.ListN.{drop_of_length-le}
use Rattle.chase_update.specs.Results.{finish_of}
use Rattle.def_provenance.specs.Notes.{Noted}
use Rattle.lang_session.specs.declared.sessions.SessionUpdate.{SessionUpdate}
use Rattle.lang_session.specs.Meanings.{request_of, update_of}
use Rattle.run_serial.specs.Runs.{after, told_from}
use Rattle.run_serial.proofs.Onward.{ends_here}
use Rattle.run_note.specs.Meanings.{note_of}
use Rattle.run_explain.specs.Turns.{noted_from}
use Rattle.run_explain.proofs.Turning.{noted_end}
use Rattle.run_explain.proofs.runs.take_all.Goals as goal

pub returns-clause-told : goal.returns-clause-told
returns-clause-told c =
    let ms = c.args.chase.now.mappings.now in
    let fs = map finish_of c.loop-update.finishes.items in
    c.loop-update.invariant.together
    ∙ (ap (λ (us : List SessionUpdate). after fs (told_from ms c.args.chase.now.budget c.loop-update.facts c.loop-update.number (map request_of (map update_of us))))
    (drop_of_length-le c.args.updates.now c.loop-update-test.false)
    ∙ ends_here ms c.args.chase.now.budget c.loop-update.facts c.loop-update.number fs)

pub returns-clause-noted : goal.returns-clause-noted
returns-clause-noted c =
    let ms = c.args.chase.now.mappings.now in
    let ns = map note_of c.loop-update.notes.items in
    c.loop-update.invariant.noted
    ∙ ap (λ (us : List SessionUpdate). ns ++ noted_from ms c.args.chase.now.budget c.loop-update.facts c.loop-update.number (map request_of (map update_of us)))
    (drop_of_length-le c.args.updates.now c.loop-update-test.false)
    ∙ ap (λ (more : List Noted). ns ++ more) (noted_end ms c.args.chase.now.budget c.loop-update.facts c.loop-update.number)
    ∙ append-nil ns
