use Rattle.base_types.specs.Meanings.{fact_of, rule_of}
use Rattle.core_conflict.specs.Impacts.{IsImpactWithin, has_rule}
use Rattle.core_conflict.proofs.Gathering.{Gathers}
use Rattle.core_conflict.proofs.impacts.Impact.by_each.Given as goal

abbrev pub invariant-loop-mapping : goal.invariant-loop-mapping
invariant-loop-mapping l = record {
  more : IsImpactWithin l.fn.self l.all;
  has : Gathers IsImpactWithin (λ v. has_rule v l.adds (fact_of l.tuple)) rule_of l.mappings l.mapping-index l.all;
}
