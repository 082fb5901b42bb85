use Rattle.std.proofs.Common.{◌≡◌, ◌++◌, ◌∷◌, [], length, map, ap, arith}
use Rattle.std.proofs.lemmas.List.{map_push}
use Rattle.std.proofs.lemmas.Result.{err_from_is_err_and}
use Rattle.lang_schema.specs.Meanings.{term_of as term_meant}
use Rattle.def_language.specs.declared.Wanted.TheVariants as missing
use Rattle.def_language.specs.Parts.{item_at, term_of}
use Rattle.lang_forms.specs.Views.{words_of}
use Rattle.lang_forms.proofs.Items.{begins, more, last, fails}
use Rattle.lang_forms.proofs.parts.terms_at.Goals as goal

pub items-init : goal.items-init
items-init c = (begins (item_at missing.Term term_of) _ (words_of c.args.words) (length (words_of c.args.words)) (ap (map term_meant) c.new-found.ensures.empty), omega arith)

pub returns-in_err-item : goal.returns-in_err-item
returns-in_err-item c =
    let p = err_from_is_err_and c.from_residual.result c.from_residual.ensures.1 in
    record { gives = rw (p.1, p.2) (fails c.in_err-item.field-0.0 (item_at missing.Term term_of) (map term_meant c.items.found.items) (words_of c.items.rest) (length (words_of c.items.rest)) _ c.items.invariant.0 c.in_err-item.ensures.gives); shorter = rw p.1 tt }

pub items-preserved : goal.items-preserved
items-preserved c =
    let grown : map term_meant c.push.new.self.items ≡ map term_meant c.items.found.items ++ term_meant c.in_ok-item.item ∷ [] = rw c.in_ok-push.ensures.ok (map_push term_meant c.items.found.items c.in_ok-item.item) in
    (rw grown (more (item_at missing.Term term_of) (map term_meant c.items.found.items) (words_of c.items.rest) (length (words_of c.items.rest)) _ (term_meant c.in_ok-item.item) (words_of c.in_ok-item.after) (length (words_of c.in_ok-item.after)) c.items.invariant.0 c.in_ok-item.ensures.shorter (rw c.if-not-more.false at c.in_ok-item.ensures.gives)), omega (arith, c.in_ok-item.ensures.shorter, c.items.invariant.1))

pub returns-then-not-more-clause-gives : goal.returns-then-not-more-clause-gives
returns-then-not-more-clause-gives c =
    let grown : map term_meant c.push.new.self.items ≡ map term_meant c.items.found.items ++ term_meant c.in_ok-item.item ∷ [] = rw c.in_ok-push.ensures.ok (map_push term_meant c.items.found.items c.in_ok-item.item) in
    rw grown (last (item_at missing.Term term_of) (map term_meant c.items.found.items) (words_of c.items.rest) (length (words_of c.items.rest)) _ (term_meant c.in_ok-item.item) (words_of c.in_ok-item.after) c.items.invariant.0 (rw c.if-not-more.true at c.in_ok-item.ensures.gives))

pub returns-then-not-more-clause-shorter : goal.returns-then-not-more-clause-shorter
returns-then-not-more-clause-shorter c = omega (arith, c.in_ok-item.ensures.shorter, c.items.invariant.1)
