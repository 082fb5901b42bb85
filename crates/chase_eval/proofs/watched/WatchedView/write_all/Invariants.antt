use Rattle.std.proofs.Common.{◌≡◌, map, take, drop}
use Rattle.base_types.specs.Meanings.{change_of}
use Rattle.chase_eval.specs.Watched.{watched_on}
use Rattle.chase_eval.proofs.watched.WatchedView.write_all.Given as goal

-- With the writes that are left, what is seen with all of them; and those before them were added.
abbrev pub invariant-loop-write : goal.invariant-loop-write
invariant-loop-write g l = record {
  left : watched_on l.self (map change_of (drop l.write-index l.writes)) ≡ watched_on l.fn.self (map change_of l.writes);
  made : l.self ≡ watched_on l.fn.self (map change_of (take l.write-index l.writes));
}
