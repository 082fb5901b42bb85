-- Whatever the bytes are, what they commit is serial.
use Rattle.std.proofs.Common.{arith}
use Rattle.yt_live.specs.Curates.{default_settings}
use Rattle.yt_live.proofs.Legal.{histories_serial}
use Rattle.yt_live.proofs.curating.curate.Goals as goal

pub returns-in-empty-clause-serial : goal.returns-in-empty-clause-serial
returns-in-empty-clause-serial g c = λ front rest h. histories_serial c.spelled_sessions_are_valid.ensures 100 default_settings (omega arith) front

pub returns-in-len1-up-clause-serial : goal.returns-in-len1-up-clause-serial
returns-in-len1-up-clause-serial g c = λ front rest h. histories_serial c.spelled_sessions_are_valid.ensures 100 default_settings (omega arith) front
