use Rattle.std.proofs.Common.{◌≡◌, rules, tests, ap, map, find, is_some, unwrap_or, ◌∙◌, Bool, Option}
use Rattle.std.proofs.lemmas.Iterator.Search.{find_from_yields_List}
use Rattle.std.specs.Option.{option_map, option_copied}
use Rattle.def_chase.specs.Values.{Fact, outer, same_fact}
use Rattle.base_types.specs.Meanings.{fact_of}
use Rattle.base_types.proofs.Iterated.{mapped_from_slice, read_found}
use Rattle.def_chase.proofs.Searches.{found_any}
use Rattle.chase_question.proofs.Finding.{read_some}
use Rattle.chase_question.proofs.named.candidate.Goals as goal

pub returns : goal.returns
returns c =
    let test : Fact → Bool = λ s. same_fact (outer s) (fact_of c.args.form.now) in
    let found : option_map fact_of (option_copied c.find.result) ≡ find test (map fact_of c.args.candidates.now.items) =
    read_found fact_of c.find.result ∙ find_from_yields_List test _ _ c.find.result c.find.ensures.ran (mapped_from_slice fact_of c.args.candidates.now.items cc) (λ x b q k. search (rules, tests)) in
    record {
      found = found;
      fitting = read_some fact_of (option_copied c.find.result) ∙ ap is_some found ∙ found_any test (map fact_of c.args.candidates.now.items);
      chosen = λ t. ap (λ (o : Option Fact). unwrap_or o t) found;
    }
