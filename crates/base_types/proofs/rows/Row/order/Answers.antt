use Rattle.std.proofs.Common.{◌∙◌, ap, map}
use Rattle.std.specs.Cmp.Lexicographic.{slice_cmp}
use Rattle.def_chase.specs.Values.{datum_cmp}
use Rattle.base_types.specs.Meanings.{datum_of}
use Rattle.base_types.proofs.Along.{along}
use Rattle.base_types.proofs.rows.Row.order.Goals as goal

pub returns : goal.returns
returns c =
    let xs = c.as_slice.result.now in
    let ys = c.as_slice-2.result.now in
    let first = ap (λ l. slice_cmp datum_cmp (map datum_of l) (map datum_of ys)) c.as_slice.ensures.items in
    let second = ap (λ l. slice_cmp datum_cmp (map datum_of c.args.self.now.items) (map datum_of l)) c.as_slice-2.ensures.items in
    record { order = c.order.ensures.order ∙ along datum_of datum_cmp xs ys ∙ first ∙ second }
