use Rattle.std.proofs.Common.{◌≡◌, ◌++◌, ◌-◌, ◌+◌, map}
use Rattle.lang_session.specs.Meanings.{update_of}
use Rattle.run_drill.specs.Drilled.{updates_from}
use Rattle.run_drill.proofs.updates.updates.Given as goal

-- Those so far, and then those that are still drawn, are all.
abbrev pub invariant-loop-before : goal.invariant-loop-before
invariant-loop-before l = updates_from 1 l.count l.seed ≡ map update_of l.updates.items ++ updates_from (l.before + 1) (l.count - l.before) l.state
