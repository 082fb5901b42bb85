use Rattle.std.proofs.Common.{subst, length, Result, Err}
use Rattle.base_devices.specs.InMemory.{state_of}
use Rattle.def_language.specs.Printing.{printed}
use Rattle.run_journal.specs.Answers.{CreateTold}
use Rattle.run_journal.specs.Journals.{Hold}
use Rattle.run_journal.specs.declared.journals.CreateFault.{CreateFault}
use Rattle.lang_session.specs.Meanings.{session_of}
use Rattle.cmd_plain.proofs.Journals.{opening_long}
use Rattle.cmd_plain.proofs.journaling.begin.Goals as goal

pub returns-in-Err-TooLarge-clause-none : goal.returns-in-Err-TooLarge-clause-none
returns-in-Err-TooLarge-clause-none c =
    let s = session_of c.args.session.now in
    let told = subst (λ (r : Result Hold CreateFault). CreateTold (length (printed s)) c.args.disk.now c.create.new.disk (state_of c.args.disk.now) (state_of c.create.new.disk) r) c.in-Err-TooLarge.is c.create.ensures.told in
    let large = subst (λ (f : CreateFault). CreateTold (length (printed s)) c.args.disk.now c.create.new.disk (state_of c.args.disk.now) (state_of c.create.new.disk) (Err f)) c.in-Err-TooLarge.field-0-is told in
    opening_long s large.1
