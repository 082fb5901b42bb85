use Rattle.std.proofs.Common.{ap, subst, sym}
use Rattle.def_language.specs.Sessions.{SessionData}
use Rattle.def_language.specs.Validity.{IsSession}
use Rattle.run_laws.specs.Logged.{AreLogged, commits_of}
use Rattle.run_serial.specs.Trails.{trails_of}
use Rattle.lang_session.specs.Meanings.{session_of}
use Rattle.cmd_plain.proofs.journaling.journal_left.Goals as goal

pub journal_of-requires-clause-session : goal.journal_of-requires-clause-session
journal_of-requires-clause-session c = subst IsSession (sym c.opening_of-opening.ensures) (c.openings_are_sessions.ensures (session_of c.args.session) c.requires.session)

pub journal_of-requires-clause-no_updates : goal.journal_of-requires-clause-no_updates
journal_of-requires-clause-no_updates c = ap (λ (t : SessionData). t.updates) c.opening_of-opening.ensures

pub journal_of-requires-clause-writes : goal.journal_of-requires-clause-writes
journal_of-requires-clause-writes c =
    subst (λ (t : SessionData). AreLogged t.relations (commits_of (trails_of c.args.left.trails))) (sym c.opening_of-opening.ensures) c.requires.writes
