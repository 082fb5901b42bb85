use Rattle.cmd_threads.proofs.Performed.{written}
use Rattle.cmd_threads.proofs.laws.performed_runs_write_their_trace.Goals as goal

pub returns : goal.returns
returns c = written c.spelled_sessions_are_valid.ensures c.runs_meet_their_mappings.ensures
