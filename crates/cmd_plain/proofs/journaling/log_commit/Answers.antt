use Rattle.std.proofs.Common.{ap, subst, length, List, ℕ, Result, Err, arith}
use Rattle.base_types.specs.Contents.{changes_of}
use Rattle.base_devices.specs.InMemory.{state_of}
use Rattle.run_journal.specs.Answers.{AppendTold}
use Rattle.run_journal.specs.Journals.{Hold}
use Rattle.run_journal.specs.declared.journals.AppendFault.{AppendFault}
use Rattle.run_journal.specs.Format.{commit_text, logged}
use Rattle.lang_session.specs.Meanings.{session_of}
use Rattle.cmd_plain.proofs.Journals.{commit_long, disk_long}
use Rattle.cmd_plain.proofs.journaling.log_commit.Goals as goal

pub returns-then-bytes-gt-INPUT_LIMIT-clause-none : goal.returns-then-bytes-gt-INPUT_LIMIT-clause-none
returns-then-bytes-gt-INPUT_LIMIT-clause-none c =
    disk_long c.args.disk.now (session_of c.args.session.now) (logged (changes_of c.args.commit.now.writes)) c.args.place (length c.bytes.result.now)
    (ap (λ (bs : List ℕ). length bs) c.bytes.ensures) (omega (arith, c.if-bytes-gt-INPUT_LIMIT.true))

pub returns-in-Err-TooLarge-clause-none : goal.returns-in-Err-TooLarge-clause-none
returns-in-Err-TooLarge-clause-none c =
    let s = session_of c.args.session.now in
    let ws = logged (changes_of c.args.commit.now.writes) in
    let told = subst (λ (r : Result Hold AppendFault). AppendTold c.args.place (length (commit_text s.relations c.args.commit.now.number ws)) c.args.disk.now c.append.new.disk (state_of c.args.disk.now) (state_of c.append.new.disk) r) c.in-Err-TooLarge.is c.append.ensures.told in
    let large = subst (λ (f : AppendFault). AppendTold c.args.place (length (commit_text s.relations c.args.commit.now.number ws)) c.args.disk.now c.append.new.disk (state_of c.args.disk.now) (state_of c.append.new.disk) (Err f)) c.in-Err-TooLarge.field-0-is told in
    commit_long c.args.disk.now s ws c.args.place c.args.commit.now.number c.requires.next large.2
