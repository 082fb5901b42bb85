use Rattle.std.proofs.Common.{◌≤◌, length, map}
use Rattle.lang_forms.specs.Views.{fact_of as fact_meant}
use Rattle.def_language.specs.Parts.{last_fact}
use Rattle.def_language.specs.Reading.{many}
use Rattle.lang_forms.specs.Views.{words_of}
use Rattle.lang_forms.proofs.Items.{Keeps}
use Rattle.lang_forms.proofs.mappings.last_facts.Given as goal

abbrev pub invariant-items : goal.invariant-items
invariant-items l = Keeps last_fact (map fact_meant l.found.items) (words_of l.rest) (length (words_of l.rest)) (many (length (words_of l.words)) last_fact (words_of l.words)) × (length (words_of l.rest) ≤ length (words_of l.words))

abbrev pub decreases-items : goal.decreases-items
decreases-items l = length (words_of l.rest)
