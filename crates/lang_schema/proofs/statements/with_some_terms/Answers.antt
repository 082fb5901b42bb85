use Rattle.std.proofs.Common.{◌≡◌, map, subst, IfOk}
use Rattle.base_types.specs.Meanings.{slot_of}
use Rattle.def_language.specs.Grammar.{one_word, term_word}
use Rattle.def_language.specs.Printing.{written_term}
use Rattle.lang_schema.specs.Pages.{Written}
use Rattle.lang_schema.proofs.Lined.{after_first}
use Rattle.lang_schema.proofs.statements.with_some_terms.Goals as goal

pub returns : goal.returns
returns c = subst (λ (q : Written). IfOk c.with_other_terms.result (λ p. p ≡ q))
    (after_first (one_word term_word) c.args.page c.in_ok-page.page (written_term (map (λ n. n.items) c.args.names.now) (slot_of c.args.first.now)) (map (written_term (map (λ n. n.items) c.args.names.now)) (map slot_of c.args.others.now)) c.in_ok-page.ensures)
    c.with_other_terms.ensures
