use Rattle.std.proofs.Common.{◌≤◌, length, map}
use Rattle.lang_schema.specs.Meanings.{atom_of as atom_meant}
use Rattle.def_language.specs.Parts.{right_atom}
use Rattle.def_language.specs.Reading.{many}
use Rattle.lang_forms.specs.Views.{words_of}
use Rattle.lang_forms.proofs.Items.{Keeps}
use Rattle.lang_forms.proofs.mappings.right_atoms.Given as goal

abbrev pub invariant-items : goal.invariant-items
invariant-items l = Keeps right_atom (map atom_meant l.found.items) (words_of l.rest) (length (words_of l.rest)) (many (length (words_of l.words)) right_atom (words_of l.words)) × (length (words_of l.rest) ≤ length (words_of l.words))

abbrev pub decreases-items : goal.decreases-items
decreases-items l = length (words_of l.rest)
