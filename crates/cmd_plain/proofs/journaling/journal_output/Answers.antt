use Rattle.run_serial.specs.Trails.{trailed_of}
use Rattle.lang_session.specs.Meanings.{session_of}
use Rattle.cmd_plain.proofs.JournalOutputs.{told_text}
use Rattle.cmd_plain.proofs.Journals.{some_of}
use Rattle.cmd_plain.proofs.journaling.journal_output.Goals as goal

pub returns-in-Some : goal.returns-in-Some
returns-in-Some c =
    let made = some_of _ c.in_ok-text.field-0 c.in-Some.text c.in-Some.is c.in_ok-text.ensures.text in
    told_text (session_of c.args.session) (trailed_of c.args.left) c.ending_by-ending.result c.in-Some.text.items c.ending_by-ending.ensures made.0 made.1
