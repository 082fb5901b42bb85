use Rattle.std.proofs.lemmas.Result.{IfOk-at_ok}
use Rattle.run_serial.specs.Trails.{IsTrailed}
use Rattle.lang_session.specs.Meanings.{session_of}
use Rattle.cmd_plain.proofs.JournalOutputs.{left_few, left_logged, run_of}
use Rattle.cmd_plain.proofs.journaling.JournalSessionCommand.make.Goals as goal

pub journal_output-requires-clause-writes : goal.journal_output-requires-clause-writes
journal_output-requires-clause-writes c =
    let s = session_of c.args.session in
    let steps = c.args.self.now.budget in
    let left = IfOk-at_ok (IsTrailed steps s) c.in-Ok.is c.in_ok-left.ensures.left in
    left_logged steps s c.in-Ok.left left (c.trails_are_logged.ensures.logged steps s (run_of s steps c.requires.valid c.is_within.ensures.some c.is_within.ensures.most))

pub journal_output-requires-clause-few : goal.journal_output-requires-clause-few
journal_output-requires-clause-few c =
    let s = session_of c.args.session in
    let steps = c.args.self.now.budget in
    let left = IfOk-at_ok (IsTrailed steps s) c.in-Ok.is c.in_ok-left.ensures.left in
    left_few steps s c.in-Ok.left left (c.trails_are_logged.ensures.few steps s) c.requires.valid.update_count
