use Rattle.std.proofs.Common.{ap, map}
use Rattle.base_types.specs.Meanings.{fact_of}
use Rattle.set_facts.proofs.Indexing.{index_goes_on}
use Rattle.set_facts.proofs.indexed.index_all.Goals as goal

pub loop-tuple-preserved : goal.loop-tuple-preserved
loop-tuple-preserved c = (
  tt,
  tt,
  index_goes_on c.args.facts.now (map fact_of c.loop-tuple.tuple-iterator) (map fact_of c.next.new.self) c.loop-tuple.relations.items c.keep.new.relations.items (fact_of c.in-Some.tuple.now) (ap (map fact_of) c.in-Some.ensures.steps) c.in_ok-keep.ensures.ok c.loop-tuple.invariant.2,
)
