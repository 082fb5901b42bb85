use Rattle.std.proofs.Common.{◌≡◌, ◌+◌, map, drop}
use Rattle.def_language.specs.Sessions.{answer_count}
use Rattle.lang_session.specs.Meanings.{update_of}
use Rattle.cmd_plain.proofs.counts.count_answers.Given as goal

-- What was counted and what is left are all.
abbrev pub invariant-loop-update : goal.invariant-loop-update
invariant-loop-update l = l.count + answer_count (map update_of (drop l.update-index l.updates)) ≡ answer_count (map update_of l.updates)
