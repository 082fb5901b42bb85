use Rattle.std.proofs.Common.{List, length}
use Rattle.def_chase.specs.Mappings.{Rule}
use Rattle.def_chase.specs.Values.{Fact}
use Rattle.chase_query.specs.Meanings.{reads_in}
use Rattle.def_steps.specs.Attempts.{Attempt}
use Rattle.chase_plan.specs.Settled.{AreValidOver, HasSettledBy}
use Rattle.chase_plan.proofs.settling.learn_last.Given as goal

-- Where all reads are valid so are those that are left, and what was learnt is right.
abbrev pub invariant-entries : goal.invariant-entries
invariant-entries l =
    (ms : List Rule) (D : List Fact) (P : Attempt) → AreValidOver ms D P (reads_in l.log) → HasSettledBy l.made ms D P l.fn.settled
    → AreValidOver ms D P (reads_in l.rest) × HasSettledBy l.made ms D P l.settled

-- How many entries are left.
abbrev pub decreases-entries : goal.decreases-entries
decreases-entries l = length l.rest
