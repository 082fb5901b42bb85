use Rattle.std.proofs.Common.{ap, map}
use Rattle.base_types.specs.Meanings.{fact_of}
use Rattle.set_facts.proofs.ByNull.{nulls_go_on}
use Rattle.set_facts.proofs.nulls.index_nulls.Goals as goal

pub loop-tuple-preserved : goal.loop-tuple-preserved
loop-tuple-preserved c = (
  tt,
  tt,
  nulls_go_on c.args.facts.now (map fact_of c.loop-tuple.tuple-iterator) (map fact_of c.next.new.self) c.loop-tuple.by_null c.keep_nulls.new.by_null (fact_of c.in-Some.tuple.now) (ap (map fact_of) c.in-Some.ensures.steps) c.in_ok-keep_nulls.ensures.ok c.loop-tuple.invariant.2,
)
