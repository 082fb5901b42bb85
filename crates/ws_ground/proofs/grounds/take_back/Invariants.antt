use Rattle.std.proofs.Common.{◌≡◌, map, length, drop, take}
use Rattle.base_types.specs.Meanings.{change_of}
use Rattle.ws_ground.specs.Trails.{before}
use Rattle.ws_ground.proofs.grounds.take_back.Given as goal

-- What was there before the writes to be taken back stays, and so do the others.
abbrev pub invariant-writes : goal.invariant-writes
invariant-writes l = record {
  facts : before (map change_of (drop l.count l.trail.items)) l.facts ≡ before (map change_of (drop l.count l.fn.trail.items)) l.fn.facts;
  kept : take l.count l.trail.items ≡ take l.count l.fn.trail.items;
}

-- How many writes are left.
abbrev pub decreases-writes : goal.decreases-writes
decreases-writes l = length l.trail.items
