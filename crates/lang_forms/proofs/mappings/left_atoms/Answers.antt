use Rattle.std.proofs.Common.{◌≡◌, ◌++◌, ◌∷◌, [], length, map, ap, arith}
use Rattle.std.proofs.lemmas.List.{map_push}
use Rattle.std.proofs.lemmas.Result.{err_from_is_err_and}
use Rattle.lang_schema.specs.Meanings.{atom_of as atom_meant}
use Rattle.def_language.specs.Parts.{left_atom}
use Rattle.lang_forms.specs.Views.{words_of}
use Rattle.lang_forms.proofs.Items.{begins, more, last, fails}
use Rattle.lang_forms.proofs.mappings.left_atoms.Goals as goal

pub items-init : goal.items-init
items-init c = (begins left_atom _ (words_of c.args.words) (length (words_of c.args.words)) (ap (map atom_meant) c.new-found.ensures.empty), omega arith)

pub returns-in_err-item : goal.returns-in_err-item
returns-in_err-item c =
    let p = err_from_is_err_and c.from_residual.result c.from_residual.ensures.1 in
    record { gives = rw (p.1, p.2) (fails c.in_err-item.field-0.0 left_atom (map atom_meant c.items.found.items) (words_of c.items.rest) (length (words_of c.items.rest)) _ c.items.invariant.0 c.in_err-item.ensures.gives); shorter = rw p.1 tt }

pub items-preserved : goal.items-preserved
items-preserved c =
    let grown : map atom_meant c.push.new.self.items ≡ map atom_meant c.items.found.items ++ atom_meant c.in_ok-item.item ∷ [] = rw c.in_ok-push.ensures.ok (map_push atom_meant c.items.found.items c.in_ok-item.item) in
    (rw grown (more left_atom (map atom_meant c.items.found.items) (words_of c.items.rest) (length (words_of c.items.rest)) _ (atom_meant c.in_ok-item.item) (words_of c.in_ok-item.after) (length (words_of c.in_ok-item.after)) c.items.invariant.0 c.in_ok-item.ensures.shorter (rw c.if-not-more.false at c.in_ok-item.ensures.gives)), omega (arith, c.in_ok-item.ensures.shorter, c.items.invariant.1))

pub returns-then-not-more-clause-gives : goal.returns-then-not-more-clause-gives
returns-then-not-more-clause-gives c =
    let grown : map atom_meant c.push.new.self.items ≡ map atom_meant c.items.found.items ++ atom_meant c.in_ok-item.item ∷ [] = rw c.in_ok-push.ensures.ok (map_push atom_meant c.items.found.items c.in_ok-item.item) in
    rw grown (last left_atom (map atom_meant c.items.found.items) (words_of c.items.rest) (length (words_of c.items.rest)) _ (atom_meant c.in_ok-item.item) (words_of c.in_ok-item.after) c.items.invariant.0 (rw c.if-not-more.true at c.in_ok-item.ensures.gives))

pub returns-then-not-more-clause-shorter : goal.returns-then-not-more-clause-shorter
returns-then-not-more-clause-shorter c = omega (arith, c.in_ok-item.ensures.shorter, c.items.invariant.1)
