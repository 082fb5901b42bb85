use Rattle.audit_replay.proofs.Deciding.{quiet_is}
use Rattle.audit_replay.proofs.Going.{its_numbers}
use Rattle.audit_replay.proofs.replays.Replay.is_quiet.Goals as goal

pub is_quiet-requires : goal.is_quiet-requires
is_quiet-requires c = record { from = its_numbers c.args.self.now c.requires.replay c.as_slice.result.now c.as_slice.ensures.value }

pub returns : goal.returns
returns c = record { quiet = quiet_is c.args.self.now c.as_slice.result.now c.is_quiet.result c.as_slice.ensures.value c.is_quiet.ensures.quiet }
