use Rattle.std.proofs.Common.{◌∙◌, ap, map, take, ◌+◌, ◌∷◌, []}
use Rattle.def_chase.specs.Values.{Fact, under}
use Rattle.def_chase.specs.Repository.{apply, Insert}
use Rattle.base_types.specs.Meanings.{fact_of}
use Rattle.base_types.specs.Maps.{images_of, moved_by}
use Rattle.chase_repair.proofs.Sets.{one_more, images_more}
use Rattle.chase_repair.proofs.rewriting.moved_in_order.Goals as goal

pub loop-tuple-preserved : goal.loop-tuple-preserved
loop-tuple-preserved c =
    let g = under (moved_by (images_of c.args.sub.now)) in
    let i = c.loop-tuple.tuple-index in
    let ts = c.args.tuples.now in
    one_more [] (map fact_of c.loop-tuple.set.keys) (map fact_of c.put.new.set.keys) (map g (map fact_of (take i ts))) (map g (map fact_of (take (i + 1) ts))) (g (fact_of c.tuple-item.result))
    c.loop-tuple.invariant (c.in_ok-put.ensures.ok ∙ ap (λ (t : Fact). apply (map fact_of c.loop-tuple.set.keys) (Insert t ∷ [])) c.in_ok-apply.ensures.value)
    (images_more g fact_of ts i c.tuple-item.result c.loop-tuple-test.true c.tuple-item.is)
