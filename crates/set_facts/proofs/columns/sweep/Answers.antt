use Rattle.std.proofs.Common.{◌∙◌, ap, sym, List, map, length, arith, ◌&&◌, not}
use Rattle.std.specs.Prelude.{slice_get}
use Rattle.def_chase.specs.Values.{Datum}
use Rattle.def_chase.specs.Cursors.{is_datum}
use Rattle.base_types.specs.Meanings.{fact_of, datum_of}
use Rattle.base_types.specs.declared.values.Value.{Value}
use Rattle.set_facts.proofs.Changing.{at_place, none_past, one_more, fewer_same, all_changed}
use Rattle.def_chase.proofs.Bools.{and-true}
use Rattle.set_facts.proofs.columns.sweep.Goals as goal

pub loop-column-preserved : goal.loop-column-preserved
loop-column-preserved c =
    let t = fact_of c.args.tuple.now in
    let k = c.loop-column.column in
    let ls = c.args.columns.now.items in
    let ms = c.loop-column.columns.items in
    let ns = c.sweep_at.new.columns.items in
    let i = c.loop-column.invariant in
    let at = λ (d : Datum). ap (λ (xs : List Value). is_datum d (slice_get (map datum_of xs) k)) (sym c.as_slice-values.ensures.items) ∙ at_place c.as_slice-values.result.now k c.index-values-column.result d c.loop-column-test.true c.index-values-column.is in
    record {
      dropped = one_more (λ a b. a && not b) t k ls ms i.dropped i.others ns (datum_of c.index-values-column.result) at c.sweep_at.ensures.dropped c.sweep_at.ensures.others;
      others = fewer_same (λ a b. a && not b) t k ls ms i.dropped i.others ns c.sweep_at.ensures.others;
    }

pub returns : goal.returns
returns c =
    let t = fact_of c.args.tuple.now in
    let long = ap (length {A = Value}) c.as_slice-values.ensures.items in
    record {
      dropped = all_changed (λ a b. a && not b) t c.loop-column.column c.args.columns.now.items c.loop-column.columns.items c.loop-column.invariant.dropped c.loop-column.invariant.others and-true
          (λ j d h. none_past c.args.tuple.now.values.items j d (omega (arith, h, long, c.loop-column-test.false)));
    }
