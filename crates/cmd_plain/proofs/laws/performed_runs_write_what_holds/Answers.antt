use Rattle.cmd_plain.proofs.Performed.{written}
use Rattle.cmd_plain.proofs.laws.performed_runs_write_what_holds.Goals as goal

pub returns : goal.returns
returns c = written c.spelled_sessions_are_valid.ensures c.runs_meet_their_mappings.ensures
