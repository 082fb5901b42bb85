use Rattle.std.proofs.Common.{◌≤◌, length, map}
use Rattle.base_types.specs.Meanings.{datum_of}
use Rattle.def_language.specs.declared.Wanted.TheVariants as missing
use Rattle.def_language.specs.Parts.{item_at, value_of}
use Rattle.def_language.specs.Reading.{many}
use Rattle.lang_forms.specs.Views.{words_of}
use Rattle.lang_forms.proofs.Items.{Keeps}
use Rattle.lang_forms.proofs.parts.values_at.Given as goal

abbrev pub invariant-items : goal.invariant-items
invariant-items l = Keeps (item_at missing.Value value_of) (map datum_of l.found.items) (words_of l.rest) (length (words_of l.rest)) (many (length (words_of l.words)) (item_at missing.Value value_of) (words_of l.words)) × (length (words_of l.rest) ≤ length (words_of l.words))

abbrev pub decreases-items : goal.decreases-items
decreases-items l = length (words_of l.rest)
