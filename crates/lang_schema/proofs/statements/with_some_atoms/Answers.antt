use Rattle.std.proofs.Common.{◌≡◌, map, subst, IfOk}
use Rattle.base_types.specs.Meanings.{pattern_of}
use Rattle.def_language.specs.Grammar.{atom_words}
use Rattle.def_language.specs.Printing.{written_atom}
use Rattle.lang_schema.specs.Pages.{Written}
use Rattle.lang_schema.proofs.Lined.{after_first}
use Rattle.lang_schema.proofs.statements.with_some_atoms.Goals as goal

pub returns : goal.returns
returns c = subst (λ (q : Written). IfOk c.with_other_atoms.result (λ p. p ≡ q))
    (after_first atom_words c.args.page c.in_ok-page.page (written_atom c.args.schema.now (map (λ n. n.items) c.args.names.now) (pattern_of c.args.first.now)) (map (written_atom c.args.schema.now (map (λ n. n.items) c.args.names.now)) (map pattern_of c.args.others.now)) c.in_ok-page.ensures)
    c.with_other_atoms.ensures
