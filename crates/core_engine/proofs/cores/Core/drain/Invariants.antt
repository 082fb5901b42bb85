use Rattle.core_laws.specs.Turns.{work_after}
use Rattle.core_engine.specs.Drained.{HasTurned}
use Rattle.core_engine.proofs.cores.Core.drain.Given as goal

-- Turns have led here.
abbrev pub invariant-turns : goal.invariant-turns
invariant-turns l = HasTurned l.initial.self l.self

-- The work that is left.
abbrev pub decreases-turns : goal.decreases-turns
decreases-turns l = work_after l.self.over l.self.history
