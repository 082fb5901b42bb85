use Rattle.std.proofs.Common.{◌∙◌, ap, sym, map, take}
use Rattle.base_types.specs.Meanings.{datum_of}
use Rattle.def_steps.specs.Rewriting.{nulls_in}
use Rattle.chase_repair.specs.Nulls.{with_null_of}
use Rattle.chase_repair.proofs.Sets.{facts_more}
use Rattle.chase_repair.proofs.Distinct.{nulls_more}
use Rattle.chase_repair.proofs.nulls.nulls_in.Goals as goal

pub loop-value-preserved : goal.loop-value-preserved
loop-value-preserved c =
    let vs = c.args.values.now in
    let i = c.loop-value.value-index in
    let d = datum_of c.value-item.result in
    c.in_ok-add_null_of.ensures.ok ∙ ap (λ ns. with_null_of ns d) c.loop-value.invariant
    ∙ sym (ap nulls_in (facts_more datum_of vs i c.value-item.result c.loop-value-test.true c.value-item.is) ∙ nulls_more (map datum_of (take i vs)) d)
