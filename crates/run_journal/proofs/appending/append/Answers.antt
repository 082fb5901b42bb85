use Rattle.std.specs.Prelude.{Result, IfOk, OnOk}
use Rattle.std.proofs.Common.{◌≡◌, ◌∙◌, subst, ◌++◌, ◌∷◌, [], ap, sym, length, ℕ, arith}
use Rattle.base_devices.specs.States.{State}
use Rattle.base_roll.specs.Format.{framed}
use Rattle.base_roll.specs.Rolls.{IsAt as IsRollAt, IsInHand as IsRollInHand}
use Rattle.def_language.specs.Printing.{printed}
use Rattle.lang_session.specs.Meanings.{session_of}
use Rattle.run_journal.specs.Answers.{AppendTold, writes_of}
use Rattle.run_journal.specs.Format.{commit_text, texts, journal_text, IsCommit}
use Rattle.base_roll.proofs.Onwards.{resting}
use Rattle.run_journal.specs.Journals.{Hold, IsAt, IsJournal}
use Rattle.run_journal.specs.declared.journals.AppendFault.{AppendFault}
use Rattle.run_journal.proofs.Onwards.{rolled, in_hand, within, appending, appended, appended_text, told}
use Rattle.run_journal.proofs.appending.append.Goals as goal

pub returns-in-Err-clause-images : goal.returns-in-Err-clause-images
returns-in-Err-clause-images g c = λ commits at. resting (IsJournal (session_of c.args.session.now)) (g.D.Disk.state c.args.disk.now) commits (writes_of c.args.commit.now) (at.journal, at.settled)

pub returns-then-len-gt-PAYLOAD_LIMIT-clause-images : goal.returns-then-len-gt-PAYLOAD_LIMIT-clause-images
returns-then-len-gt-PAYLOAD_LIMIT-clause-images g c = λ commits at. resting (IsJournal (session_of c.args.session.now)) (g.D.Disk.state c.args.disk.now) commits (writes_of c.args.commit.now) (at.journal, at.settled)

pub append-logged-requires : goal.append-logged-requires
append-logged-requires g c =
    let old : State = g.D.Disk.state c.args.disk.now in
    record { roll = subst (IsRollInHand old) (sym c.roll.ensures) (in_hand old (session_of c.args.session.now) c.args.journal c.requires.journal) }

pub returns-clause-images : goal.returns-clause-images
returns-clause-images g c = λ commits at.
    let s = session_of c.args.session.now in
    let ws = writes_of c.args.commit.now in
    let old : State = g.D.Disk.state c.args.disk.now in
    let new : State = g.D.Disk.state c.append-logged.new.disk in
    let before = framed (printed s) in
    let is : c.deref.result.now ≡ commit_text s.relations c.args.commit.now.number ws = c.deref.ensures.value ∙ c.in-Ok.ensures in
    let one : IsCommit s.relations c.args.commit.now.number ws = record { number = c.numbers_fit.ensures; writes = c.requires.writes; short = omega (arith, ap length c.in-Ok.ensures) } in
    let held : IsRollAt before (texts s.relations 1 commits) old c.roll.result = subst (IsRollAt before (texts s.relations 1 commits) old) (sym c.roll.ensures) (rolled old s commits c.args.journal at) in
    appending s c.args.commit.now.number ws one c.deref.result.now is old new c.args.journal c.requires.next commits at
    (c.append-logged.ensures.images before (texts s.relations 1 commits) held)

pub returns-clause-acknowledged : goal.returns-clause-acknowledged
returns-clause-acknowledged g c = λ commits at.
    let s = session_of c.args.session.now in
    let ws = writes_of c.args.commit.now in
    let old : State = g.D.Disk.state c.args.disk.now in
    let new : State = g.D.Disk.state c.append-logged.new.disk in
    let before = framed (printed s) in
    let is : c.deref.result.now ≡ commit_text s.relations c.args.commit.now.number ws = c.deref.ensures.value ∙ c.in-Ok.ensures in
    let one : IsCommit s.relations c.args.commit.now.number ws = record { number = c.numbers_fit.ensures; writes = c.requires.writes; short = omega (arith, ap length c.in-Ok.ensures) } in
    let held : IsRollAt before (texts s.relations 1 commits) old c.roll.result = subst (IsRollAt before (texts s.relations 1 commits) old) (sym c.roll.ensures) (rolled old s commits c.args.journal at) in
    subst (λ (r : Result Hold AppendFault). IfOk r (λ j. IsAt new s (commits ++ ws ∷ []) j)) (sym c.answer.ensures)
    (appended s c.args.commit.now.number ws one c.deref.result.now is old new c.args.journal c.requires.next commits at
    c.append-logged.result (c.append-logged.ensures.acknowledged before (texts s.relations 1 commits) held))

pub returns-clause-bytes : goal.returns-clause-bytes
returns-clause-bytes g c = λ commits at whole.
    let s = session_of c.args.session.now in
    let ws = writes_of c.args.commit.now in
    let old : State = g.D.Disk.state c.args.disk.now in
    let new : State = g.D.Disk.state c.append-logged.new.disk in
    let before = framed (printed s) in
    let is : c.deref.result.now ≡ commit_text s.relations c.args.commit.now.number ws = c.deref.ensures.value ∙ c.in-Ok.ensures in
    let one : IsCommit s.relations c.args.commit.now.number ws = record { number = c.numbers_fit.ensures; writes = c.requires.writes; short = omega (arith, ap length c.in-Ok.ensures) } in
    let held : IsRollAt before (texts s.relations 1 commits) old c.roll.result = subst (IsRollAt before (texts s.relations 1 commits) old) (sym c.roll.ensures) (rolled old s commits c.args.journal at) in
    subst (λ (r : Result Hold AppendFault). OnOk r (new.bytes ≡ journal_text s (commits ++ ws ∷ []))) (sym c.answer.ensures)
    (appended_text s c.args.commit.now.number ws one c.deref.result.now is old new c.args.journal c.requires.next commits at
    c.append-logged.result (c.append-logged.ensures.bytes before (texts s.relations 1 commits) held whole))

pub returns-clause-told : goal.returns-clause-told
returns-clause-told g c =
    let s = session_of c.args.session.now in
    let ws = writes_of c.args.commit.now in
    let old : State = g.D.Disk.state c.args.disk.now in
    let new : State = g.D.Disk.state c.append-logged.new.disk in
    let size : ℕ = length (commit_text s.relations c.args.commit.now.number ws) in
    let is : c.deref.result.now ≡ commit_text s.relations c.args.commit.now.number ws = c.deref.ensures.value ∙ c.in-Ok.ensures in
    subst (λ (r : Result Hold AppendFault). AppendTold c.args.journal size c.args.disk.now c.append-logged.new.disk old new r) (sym c.answer.ensures)
    (told c.args.journal c.roll.result c.args.commit.now.number size (length c.deref.result.now) (length old.bytes) c.args.disk.now c.append-logged.new.disk old new c.roll.ensures (ap length is) (omega (arith, ap length c.in-Ok.ensures))
    (within old s c.args.journal c.requires.journal) c.requires.small c.append-logged.result c.append-logged.ensures.told)
