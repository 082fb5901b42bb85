use Rattle.std.proofs.Common.{◌≡◌, map, take, drop, ◌++◌}
use Rattle.lang_checks.specs.Tables.{widened}
use Rattle.lang_checks.proofs.cycles.widen.Given as goal

abbrev pub invariant-loop-place : goal.invariant-loop-place
invariant-loop-place l = l.rows ≡ map (widened l.middle l.between) (take l.place l.initial.rows) ++ drop l.place l.initial.rows
