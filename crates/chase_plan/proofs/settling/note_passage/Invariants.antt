use Rattle.std.proofs.Common.{◌≡◌, ◌-◌}
use Rattle.chase_query.specs.Meanings.{passing}
use Rattle.chase_plan.specs.Settled.{all_noted}
use Rattle.chase_plan.proofs.settling.note_passage.Given as goal

-- With those that are left it comes to what all of them come to.
abbrev pub invariant-loop-number : goal.invariant-loop-number
invariant-loop-number l =
    all_noted l.fn.settled (passing l.passage.start (l.passage.end - l.passage.start) l.passage.own) ≡ all_noted l.settled (passing l.number (l.passage.end - l.number) l.passage.own)
