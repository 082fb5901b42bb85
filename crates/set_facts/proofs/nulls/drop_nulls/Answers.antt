use Rattle.base_types.specs.Meanings.{datum_of, fact_of}
use Rattle.def_chase.specs.Queries.{holds_null, is_named}
use Rattle.std.proofs.Common.{◌+◌}
use Rattle.set_facts.proofs.ByNull.{named_before, named_next, named_all, drops_none, dropped_next, dropped_like}
use Rattle.set_facts.proofs.nulls.drop_nulls.Goals as goal

pub loop-value-init : goal.loop-value-init
loop-value-init c = drops_none (fact_of c.args.tuple.now) c.args.by_null.now

pub loop-value-preserved : goal.loop-value-preserved
loop-value-preserved c =
    let vs = c.as_slice-value-items.result.now in
    let i = c.loop-value.value-index in
    let v = c.value-item.result in
    dropped_next (fact_of c.args.tuple.now) (named_before i vs) (λ u k. is_named u k (datum_of v)) (named_before (i + 1) vs) c.args.by_null.now c.loop-value.by_null c.drop_at.new.by_null
    (λ u k. named_next vs i v u k c.loop-value-test.true c.value-item.is) c.loop-value.invariant c.drop_at.ensures.dropped

pub returns : goal.returns
returns c =
    let vs = c.as_slice-value-items.result.now in
    let i = c.loop-value.value-index in
    record {
      dropped = dropped_like (fact_of c.args.tuple.now) (named_before i vs) (λ u k. holds_null u k (fact_of c.args.tuple.now)) c.args.by_null.now c.loop-value.by_null
          (λ u k. named_all c.args.tuple.now vs i u k c.loop-value-test.false c.as_slice-value-items.ensures.items) c.loop-value.invariant;
    }
