-- Whatever the bytes are, what they commit is serial.
use Rattle.core_queue.specs.Settings.{settings_of}
use Rattle.yt_live.proofs.Legal.{histories_serial}
use Rattle.yt_live.proofs.serving.serve.Goals as goal

pub returns-in-Ok-clause-serial : goal.returns-in-Ok-clause-serial
returns-in-Ok-clause-serial g c = λ front rest h. histories_serial c.spelled_sessions_are_valid.ensures c.args.budget (settings_of c.args.settings) c.is_within.ensures.some front

pub returns-in-Err-clause-serial : goal.returns-in-Err-clause-serial
returns-in-Err-clause-serial g c = λ front rest h. histories_serial c.spelled_sessions_are_valid.ensures c.args.budget (settings_of c.args.settings) c.is_within.ensures.some front
