use Rattle.std.proofs.Common.{◌∙◌, ap, sym}
use Rattle.base_types.specs.Meanings.{choice_of, fact_of}
use Rattle.chase_question.specs.Inquiries.{inquiry_of}
use Rattle.chase_question.specs.declared.questions.Question.{Question}
use Rattle.ws_run.specs.Asking.{choice_in}
use Rattle.ws_run.proofs.asking.choice_for.Goals as goal

pub returns-in_ok-choice-in-Positive : goal.returns-in_ok-choice-in-Positive
returns-in_ok-choice-in-Positive c = record {
  choice = c.in_ok-choice-in-Positive.ensures.choice c.in-Positive.mapping (fact_of c.in-Positive.tuple)
      ∙ sym (ap (λ (q : Question). choice_in c.args.names.now (inquiry_of q) (choice_of c.args.choice.now)) c.in-Positive.is);
}

pub returns-in_ok-choice-in-Negative : goal.returns-in_ok-choice-in-Negative
returns-in_ok-choice-in-Negative c = record {
  choice = c.in_ok-choice-in-Negative.ensures.choice c.in-Negative.mapping
      ∙ sym (ap (λ (q : Question). choice_in c.args.names.now (inquiry_of q) (choice_of c.args.choice.now)) c.in-Negative.is);
}
