use Rattle.std.proofs.Common.{length}
use Rattle.lang_session.specs.Meanings.{session_of}
use Rattle.run_journal.proofs.SoFar.{HasRead}
use Rattle.run_journal.proofs.reading.read_commits.Given as goal

abbrev pub invariant-records : goal.invariant-records
invariant-records l = HasRead l.bytes (session_of l.session) l.commits l.rest l.facts

abbrev pub decreases-records : goal.decreases-records
decreases-records l = length l.rest
