use Rattle.std.proofs.Common.{subst}
use Rattle.core_queue.specs.Settings.{settings_of}
use Rattle.run_serial.specs.Meanings.{IsSerialRun}
use Rattle.lang_session.specs.Meanings.{session_of}
use Rattle.work_session.specs.Runs.{Run}
use Rattle.work_session.proofs.Running.{worked_serially}
use Rattle.work_session.proofs.sessions.WorkedSession.result.Goals as goal

pub returns : goal.returns
returns c = record {
  serial = subst (λ (r : Run). IsSerialRun r.budget r.session c.in_ok-told.told) c.self.view_is
      (worked_serially (session_of c.self.inside.session.now) c.self.inside.budget (settings_of c.self.inside.settings) c.self.inside.core c.in_ok-told.told c.is_legal.ensures.budget c.is_legal.ensures.sorted c.self.invariant c.in_ok-told.ensures.told);
}
