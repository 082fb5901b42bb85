use Rattle.base_types.specs.Contents.{rules_in}
use Rattle.base_types.specs.Meanings.{change_of}
use Rattle.core_conflict.specs.Impacts.{IsImpactWithin, has_change}
use Rattle.core_conflict.proofs.Gathering.{Gathers}
use Rattle.core_conflict.proofs.impacts.Impact.with.Given as goal

abbrev pub invariant-loop-write : goal.invariant-loop-write
invariant-loop-write l = record {
  more : IsImpactWithin l.fn.self l.all;
  has : Gathers IsImpactWithin (λ v. has_change v (rules_in l.mappings) l.sense) change_of l.writes l.write-index l.all;
}
