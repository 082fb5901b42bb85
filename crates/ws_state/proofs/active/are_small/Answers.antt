use Rattle.ws_state.proofs.Smallness.{one_small, all_small}
use Rattle.ws_state.proofs.active.are_small.Goals as goal

pub loop-mapping-preserved : goal.loop-mapping-preserved
loop-mapping-preserved c =
    one_small c.args.mappings.now c.loop-mapping.mapping-index c.mapping-item.result c.loop-mapping-test.true c.mapping-item.is (c.is_small.ensures.small c.if-not-is_small.false) c.loop-mapping.invariant

pub returns : goal.returns
returns c = record { small = λ e. all_small c.args.mappings.now c.loop-mapping.mapping-index c.loop-mapping-test.false c.loop-mapping.invariant }
