use Rattle.ws_names.proofs.Kept.{named_all, named_more}
use Rattle.ws_names.proofs.names.has_no_null.Goals as goal

pub loop-value-preserved : goal.loop-value-preserved
loop-value-preserved c = λ ns.
    named_more ns c.args.values.now c.loop-value.value-index c.value-item.result c.loop-value-test.true c.value-item.is
    (c.is_null.ensures.same c.if-is_null.false ns) (c.loop-value.invariant ns)

pub returns : goal.returns
returns c = record { same = λ t ns. named_all ns c.args.values.now c.loop-value.value-index c.loop-value-test.false (c.loop-value.invariant ns) }
