use Rattle.std.proofs.Common.{rules, tests}
use Rattle.std.proofs.lemmas.Iterator.Search.{any_from_yields_List}
use Rattle.def_chase.specs.Values.{Fact, outer, same_fact}
use Rattle.base_types.specs.Meanings.{fact_of}
use Rattle.base_types.proofs.Iterated.{mapped_from_slice}
use Rattle.chase_question.proofs.outer_forms.has_outer_form.Goals as goal

pub returns : goal.returns
returns c = record {
  answer = any_from_yields_List (λ (t : Fact). same_fact (outer t) (fact_of c.args.form.now)) _ _ _ c.any.ensures.ran (mapped_from_slice fact_of c.args.tuples.now.items cc) (λ x b q k. search (rules, tests));
}
