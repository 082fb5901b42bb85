use Rattle.std.proofs.Common.{◌≡◌, ◌∷◌, take, map}
use Rattle.std.specs.Prelude.{flat_map}
use Rattle.base_types.specs.Meanings.{pattern_of}
use Rattle.def_language.specs.Words.{comma}
use Rattle.def_language.specs.Grammar.{atom_words}
use Rattle.def_language.specs.Printing.{written_atom}
use Rattle.lang_schema.specs.Pages.{with_words}
use Rattle.lang_schema.proofs.statements.with_other_atoms.Given as goal

abbrev pub invariant-loop-atom : goal.invariant-loop-atom
invariant-loop-atom l = l.page ≡ with_words l.initial.page (flat_map (λ a. comma ∷ atom_words a) (map (written_atom l.schema (map (λ n. n.items) l.names)) (map pattern_of (take l.atom-index l.atoms))))
