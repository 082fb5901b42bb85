use Rattle.std.proofs.Common.{◌≡◌, ◌∷◌, take, map}
use Rattle.std.specs.Prelude.{flat_map}
use Rattle.base_types.specs.Meanings.{slot_of}
use Rattle.def_language.specs.Words.{comma}
use Rattle.def_language.specs.Grammar.{one_word, term_word}
use Rattle.def_language.specs.Printing.{written_term}
use Rattle.lang_schema.specs.Pages.{with_words}
use Rattle.lang_schema.proofs.statements.with_other_terms.Given as goal

abbrev pub invariant-loop-term : goal.invariant-loop-term
invariant-loop-term l = l.page ≡ with_words l.initial.page (flat_map (λ t. comma ∷ one_word term_word t) (map (written_term (map (λ n. n.items) l.names)) (map slot_of (take l.term-index l.terms))))
