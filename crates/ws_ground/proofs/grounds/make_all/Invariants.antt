use Rattle.std.proofs.Common.{◌≡◌, map}
use Rattle.std.specs.Vec.Iter.{into_iter_items}
use Rattle.def_chase.specs.Repository.{apply}
use Rattle.base_types.specs.Meanings.{change_of}
use Rattle.ws_ground.specs.Trails.{HasMade}
use Rattle.ws_ground.proofs.grounds.make_all.Given as goal

-- The writes so far are made, and those that are left lead to what all lead to.
abbrev pub invariant-writes : goal.invariant-writes
invariant-writes l = record {
  made : HasMade l.fn.trail.items l.fn.facts l.trail.items l.facts;
  left : apply l.facts (map change_of (into_iter_items l.write-iterator)) ≡ apply l.fn.facts (map change_of l.fn.writes.items);
}
