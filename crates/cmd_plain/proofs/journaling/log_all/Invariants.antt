use Rattle.std.proofs.Common.{◌≡◌, ◌+◌, length, map}
use Rattle.base_types.specs.Contents.{changes_of}
use Rattle.run_laws.specs.Logged.{commits_of}
use Rattle.lang_session.specs.Meanings.{session_of}
use Rattle.cmd_plain.specs.Journaled.{HasJournal}
use Rattle.cmd_plain.proofs.journaling.log_all.Given as goal

-- The disk has a commit for each trail so far.
abbrev pub invariant-loop-writes : goal.invariant-loop-writes
invariant-loop-writes l = record {
  made : HasJournal l.disk (session_of l.session) (commits_of (map changes_of l.yielded)) l.gate;
  number : l.number ≡ length l.yielded + 1;
}
