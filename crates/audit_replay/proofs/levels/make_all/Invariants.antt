use Rattle.std.proofs.Common.{◌≡◌, map, drop}
use Rattle.std.specs.Prelude.{reverse}
use Rattle.base_types.specs.Meanings.{change_of}
use Rattle.def_chase.specs.Repository.{apply}
use Rattle.audit_replay.proofs.levels.make_all.Given as goal

abbrev pub invariant-loop-write : goal.invariant-loop-write
invariant-loop-write l = record {
  made : apply l.facts (map change_of (drop l.write-index l.writes)) ≡ apply l.fn.facts (map change_of l.writes);
  back : apply l.facts (reverse (map change_of l.back.items)) ≡ l.fn.facts;
}
