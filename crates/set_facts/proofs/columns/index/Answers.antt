use Rattle.std.proofs.Common.{◌∙◌, ap, sym, List, map, length, arith, ◌||◌}
use Rattle.std.specs.Prelude.{slice_get}
use Rattle.def_chase.specs.Values.{Datum}
use Rattle.def_chase.specs.Cursors.{is_datum}
use Rattle.base_types.specs.Meanings.{fact_of, datum_of}
use Rattle.base_types.specs.declared.values.Value.{Value}
use Rattle.set_facts.proofs.Groups.{or-false, held_err}
use Rattle.set_facts.proofs.Changing.{at_place, none_past, one_more, fewer_same, all_changed, some_added}
use Rattle.set_facts.proofs.columns.index.Goals as goal

pub loop-column-preserved : goal.loop-column-preserved
loop-column-preserved c =
    let t = fact_of c.args.tuple.now in
    let k = c.loop-column.column in
    let ls = c.args.columns.now.items in
    let ms = c.loop-column.columns.items in
    let ns = c.add_at.new.columns.items in
    let i = c.loop-column.invariant in
    let at = λ (d : Datum). ap (λ (xs : List Value). is_datum d (slice_get (map datum_of xs) k)) (sym c.as_slice-values.ensures.items) ∙ at_place c.as_slice-values.result.now k c.index-values-column.result d c.loop-column-test.true c.index-values-column.is in
    record {
      added = one_more (λ a b. a || b) t k ls ms i.added i.others ns (datum_of c.index-values-column.result) at c.in_ok-add_at.ensures.ok c.add_at.ensures.others;
      others = fewer_same (λ a b. a || b) t k ls ms i.added i.others ns c.add_at.ensures.others;
    }

pub returns-in_err-add_at-clause-err : goal.returns-in_err-add_at-clause-err
returns-in_err-add_at-clause-err c =
    let i = c.loop-column.invariant in
    held_err c.from_residual.result (some_added (fact_of c.args.tuple.now) c.loop-column.column c.args.columns.now.items c.loop-column.columns.items c.add_at.new.columns.items i.added i.others c.in_err-add_at.ensures.err)

pub returns-clause-ok : goal.returns-clause-ok
returns-clause-ok c =
    let long = ap (length {A = Value}) c.as_slice-values.ensures.items in
    let i = c.loop-column.invariant in
    all_changed (λ a b. a || b) (fact_of c.args.tuple.now) c.loop-column.column c.args.columns.now.items c.loop-column.columns.items i.added i.others or-false
    (λ j d h. none_past c.args.tuple.now.values.items j d (omega (arith, h, long, c.loop-column-test.false)))
