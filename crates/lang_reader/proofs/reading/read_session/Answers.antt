use Rattle.std.specs.Prelude.{◌≡◌, Result, Ok, Err, IfOk}
use Rattle.def_language.specs.Faults.{Wrong}
use Rattle.def_language.specs.Lines.{read}
use Rattle.def_language.specs.Sessions.{SessionData}
use Rattle.def_language.specs.Validity.{IsSession}
use Rattle.lang_session.specs.declared.sessions.Session.{Session}
use Rattle.lang_session.specs.Meanings.{session_of}
use Rattle.lang_reader.specs.declared.faults.ReadFailure.{ReadFailure}
use Rattle.lang_reader.specs.Answers.{GivesWhole}
use Rattle.lang_reader.proofs.reading.read_session.Goals as goal

valid : (result : Result Session ReadFailure) (answer : Result SessionData Wrong) → GivesWhole session_of result answer → ((s : SessionData) → answer ≡ Ok s → IsSession s) → IfOk result (λ session. IsSession (session_of session))
valid (Ok session) answer is law = law (session_of session) is
valid (Err failure) answer is law = tt

pub returns-in-None-clause-valid : goal.returns-in-None-clause-valid
returns-in-None-clause-valid c = valid c.read_text.result (read c.args.bytes.now) c.read_text.ensures (c.spelled_sessions_are_valid.ensures c.args.bytes.now)
