use Rattle.run_laws.proofs.SavedSessions.{saved_is_session}
use Rattle.run_laws.specs.Kept.{saved_by}
use Rattle.run_laws.proofs.laws.saved_sessions_are_sessions.Goals as goal

pub returns-clause-session : goal.returns-clause-session
returns-clause-session c = λ budget s v some within small. saved_is_session s v budget some within small

pub returns-clause-spelled : goal.returns-clause-spelled
returns-clause-spelled c = λ budget s v some within small. c.sessions_are_read_again.ensures (saved_by budget s) (saved_is_session s v budget some within small)
