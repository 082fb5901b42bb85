use Rattle.base_types.proofs.OuterForms.{rows_decide}
use Rattle.base_types.proofs.tuples.Tuple.outer_eq.Goals as goal

pub returns : goal.returns
returns c = record {
  answer = rows_decide c.args.self.now c.args.other.now c.as_slice.result.now c.as_slice-2.result.now c.if-self-other.false c.as_slice.ensures.items c.as_slice-2.ensures.items c.are_outer_eq.result c.are_outer_eq.ensures.answer;
}
