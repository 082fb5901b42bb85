use Rattle.std.proofs.Common.{rules, tests, map}
use Rattle.std.proofs.lemmas.Iterator.Search.{all_from_yields_List}
use Rattle.base_types.specs.Meanings.{fact_of}
use Rattle.base_types.proofs.Iterated.{mapped_from_slice}
use Rattle.def_steps.specs.Questions.{is_outer_of}
use Rattle.chase_question.proofs.questions.all_are_outer_forms.Goals as goal

pub returns : goal.returns
returns c = record {
  answer = all_from_yields_List (is_outer_of (map fact_of c.args.tuples.now.items)) _ _ _ c.all.ensures.ran (mapped_from_slice fact_of c.args.forms.now.items cc) (λ x b q k. search (rules, tests));
}
