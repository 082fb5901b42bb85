use Rattle.base_types.specs.Meanings.{datum_of}
use Rattle.set_facts.proofs.ByNull.{named_all}
use Rattle.std.proofs.Common.{sym, ◌∙◌}
use Rattle.set_versions.specs.Drawn.{drawer}
use Rattle.set_versions.proofs.Drawing.{none_more, raised_by}
use Rattle.set_versions.proofs.nulls.raised.Goals as goal

pub loop-value-preserved : goal.loop-value-preserved
loop-value-preserved c =
    let vs = c.as_slice-value-items.result.now in
    let v = c.value-item.result in
    let both = raised_by c.args.bound c.loop-value.newest c.drawn_by.result (drawer (datum_of v)) c.max-newest.result c.drawn_by.ensures c.max-newest.ensures c.loop-value.invariant.least in
    record {
      above = none_more vs c.loop-value.value-index v c.loop-value.newest c.max-newest.result c.loop-value-test.true c.value-item.is both.2 both.1 c.loop-value.invariant.above;
      least = both.0;
    }

pub returns-clause-above : goal.returns-clause-above
returns-clause-above c u k l =
    sym (named_all c.args.tuple.now c.as_slice-value-items.result.now c.loop-value.value-index u k c.loop-value-test.false c.as_slice-value-items.ensures.items) ∙ c.loop-value.invariant.above u k l
