use Rattle.std.proofs.Common.{◌≡◌, ◌∙◌, List, map, subst, IfOk}
use Rattle.base_types.specs.Meanings.{fact_of}
use Rattle.def_language.specs.Words.{Word}
use Rattle.def_language.specs.Grammar.{fact_words}
use Rattle.def_language.specs.Printing.{written_fact}
use Rattle.lang_schema.specs.Pages.{with_words}
use Rattle.lang_print.proofs.Onward.{separated_map}
use Rattle.lang_print.proofs.choices.with_facts.Goals as goal

pub returns : goal.returns
returns c =
    let relations = c.args.schema.now in
    let tuples = c.args.tuples.now.items in
    subst (λ (ws : List Word). IfOk c.with_separated.result (λ p. p ≡ with_words c.args.page ws))
    (separated_map (λ t. fact_words (written_fact relations t)) fact_of tuples ∙ separated_map fact_words (written_fact relations) (map fact_of tuples))
    (rw c.as_slice.ensures.items at c.with_separated.ensures.words)
