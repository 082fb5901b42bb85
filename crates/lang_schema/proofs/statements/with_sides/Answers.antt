use Rattle.std.proofs.Common.{◌≡◌, map, subst, IfOk}
use Rattle.base_types.specs.Meanings.{pattern_of}
use Rattle.def_language.specs.Grammar.{atom_words, separated}
use Rattle.def_language.specs.Printing.{written_atom}
use Rattle.lang_schema.specs.Pages.{Written}
use Rattle.lang_schema.proofs.Lined.{both_sides}
use Rattle.lang_schema.proofs.statements.with_sides.Goals as goal

pub returns : goal.returns
returns c = subst (λ (q : Written). IfOk c.with_atoms-2.result (λ p. p ≡ q))
    (both_sides c.args.page c.in_ok-with_atoms.field-0 c.in_ok-half.half (separated atom_words (map (written_atom c.args.schema.now (map (λ n. n.items) c.args.names.now)) (map pattern_of c.args.left.now)))
    (separated atom_words (map (written_atom c.args.schema.now (map (λ n. n.items) c.args.names.now)) (map pattern_of c.args.right.now))) c.in_ok-with_atoms.ensures c.in_ok-half.ensures.word)
    c.with_atoms-2.ensures
