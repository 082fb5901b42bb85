use Rattle.std.proofs.Common.{◌≡◌, take, map}
use Rattle.chase_update.specs.Results.{finish_of}
use Rattle.run_drill.specs.SummaryMeanings.{IsWithin, totals_of}
use Rattle.run_drill.specs.Totals.{totals}
use Rattle.run_drill.proofs.totals.totals_by.Given as goal

-- The totals are those of the updates that were passed.
abbrev pub invariant-loop-before : goal.invariant-loop-before
invariant-loop-before l = (totals_of l.totals ≡ totals (map finish_of (take l.before l.finishes))) × IsWithin l.before l.totals
