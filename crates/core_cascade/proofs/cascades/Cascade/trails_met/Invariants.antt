use Rattle.std.proofs.Common.{◌≡◌, ◌++◌, true, drop}
use Rattle.std.specs.List.{list_all}
use Rattle.core_conflict.specs.Trails.{trails_of}
use Rattle.core_cascade.specs.Reached.{MeetAlike}
use Rattle.core_cascade.specs.Walks.{has_own_impact}
use Rattle.core_cascade.proofs.cascades.Cascade.trails_met.Given as goal

-- Those that were put in meet, with those that are left, what all of them meet.
abbrev pub invariant-loop-member : goal.invariant-loop-member
invariant-loop-member l = record {
  left : list_all (has_own_impact l.self.mappings.now) (drop l.member-index l.lost.members.items) ≡ true;
  alike : MeetAlike l.self.mappings.now (trails_of (l.met.items ++ drop l.member-index l.lost.members.items)) (trails_of l.lost.members.items) l.reader;
}
