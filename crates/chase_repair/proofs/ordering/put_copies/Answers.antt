use Rattle.std.proofs.Common.{◌∙◌, ap, map, take, ◌+◌, ◌∷◌, []}
use Rattle.def_chase.specs.Values.{Fact}
use Rattle.def_chase.specs.Repository.{apply, Insert}
use Rattle.base_types.specs.Meanings.{fact_of}
use Rattle.chase_repair.proofs.Sets.{one_more, facts_more}
use Rattle.chase_repair.proofs.ordering.put_copies.Goals as goal

pub loop-tuple-preserved : goal.loop-tuple-preserved
loop-tuple-preserved c =
    one_more (map fact_of c.args.set.now.keys) (map fact_of c.loop-tuple.set.keys) (map fact_of c.put.new.set.keys) (map fact_of (take c.loop-tuple.tuple-index c.args.tuples.now)) (map fact_of (take (c.loop-tuple.tuple-index + 1) c.args.tuples.now)) (fact_of c.tuple-item.result)
    c.loop-tuple.invariant (c.in_ok-put.ensures.ok ∙ ap (λ (t : Fact). apply (map fact_of c.loop-tuple.set.keys) (Insert t ∷ [])) c.in_ok-copy.ensures.same)
    (facts_more fact_of c.args.tuples.now c.loop-tuple.tuple-index c.tuple-item.result c.loop-tuple-test.true c.tuple-item.is)
