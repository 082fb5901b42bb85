use Rattle.std.proofs.Common.{refl, []}
use Rattle.run_laws.specs.Logged.{commits_of}
use Rattle.run_serial.specs.Trails.{trails_of}
use Rattle.lang_session.specs.Meanings.{session_of}
use Rattle.cmd_plain.proofs.Journals.{long_on, none_of}
use Rattle.cmd_plain.proofs.journaling.journal_of.Goals as goal

pub returns-in_default-clause-none : goal.returns-in_default-clause-none
returns-in_default-clause-none c =
    long_on (session_of c.args.session.now) [] (commits_of (trails_of c.args.trails)) (commits_of (trails_of c.args.trails)) refl
    (none_of c.in_ok-place.field-0 c.in_default.is c.in_ok-place.ensures.none)
