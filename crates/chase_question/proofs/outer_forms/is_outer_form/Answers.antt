use Rattle.chase_question.proofs.Rows.{rows_decide}
use Rattle.chase_question.proofs.outer_forms.is_outer_form.Goals as goal

pub returns : goal.returns
returns c = record {
  answer = rows_decide c.args.tuple.now c.args.form.now c.as_slice.result.now c.as_slice-2.result.now c.if-tuple-form.false c.as_slice.ensures.items c.as_slice-2.ensures.items c.are_outer_forms.result c.are_outer_forms.ensures.answer;
}
