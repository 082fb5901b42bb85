use Rattle.std.proofs.Common.{◌≤◌, length, map}
use Rattle.lang_schema.specs.Meanings.{term_of as term_meant}
use Rattle.def_language.specs.declared.Wanted.TheVariants as missing
use Rattle.def_language.specs.Parts.{item_at, term_of}
use Rattle.def_language.specs.Reading.{many}
use Rattle.lang_forms.specs.Views.{words_of}
use Rattle.lang_forms.proofs.Items.{Keeps}
use Rattle.lang_forms.proofs.parts.terms_at.Given as goal

abbrev pub invariant-items : goal.invariant-items
invariant-items l = Keeps (item_at missing.Term term_of) (map term_meant l.found.items) (words_of l.rest) (length (words_of l.rest)) (many (length (words_of l.words)) (item_at missing.Term term_of) (words_of l.words)) × (length (words_of l.rest) ≤ length (words_of l.words))

abbrev pub decreases-items : goal.decreases-items
decreases-items l = length (words_of l.rest)
