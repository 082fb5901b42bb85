use Rattle.std.proofs.Common.{◌≡◌, ◌++◌, suc, drop, map}
use Rattle.def_chase.specs.Repository.{IsRepository}
use Rattle.chase_update.specs.Results.{finish_of}
use Rattle.lang_session.specs.Meanings.{request_of, update_of}
use Rattle.run_serial.specs.Runs.{after, told_from}
use Rattle.run_note.specs.Meanings.{note_of}
use Rattle.run_explain.specs.Turns.{noted_from}
use Rattle.run_explain.proofs.runs.take_all.Given as goal

-- What is told and noted of the whole is what is so far and then of the updates that are left.
abbrev pub invariant-loop-update : goal.invariant-loop-update
invariant-loop-update l = record {
  sorted : IsRepository l.facts;
  number : l.number ≡ suc l.update-index;
  together :
      after (map finish_of l.fn.finishes.items) (told_from l.chase.mappings.now l.chase.budget l.fn.facts 1 (map request_of (map update_of l.updates)))
      ≡ after (map finish_of l.finishes.items) (told_from l.chase.mappings.now l.chase.budget l.facts l.number (map request_of (map update_of (drop l.update-index l.updates))));
  noted :
      map note_of l.fn.notes.items ++ noted_from l.chase.mappings.now l.chase.budget l.fn.facts 1 (map request_of (map update_of l.updates))
      ≡ map note_of l.notes.items ++ noted_from l.chase.mappings.now l.chase.budget l.facts l.number (map request_of (map update_of (drop l.update-index l.updates)));
}
