use Rattle.std.proofs.Common.{◌≡◌, ◌++◌, ◌∷◌, [], length, map, ap, arith, List}
use Rattle.std.proofs.lemmas.List.{map_push}
use Rattle.std.proofs.lemmas.Result.{err_from_is_err_and}
use Rattle.lang_forms.specs.Views.{words_of}
use Rattle.lang_forms.proofs.Items.{begins, more, last, fails}
use Rattle.run_ask.specs.Written.{head_at, head_name}
use Rattle.run_ask.proofs.parsing.head_at.Goals as goal

pub items-init : goal.items-init
items-init c = (begins head_name _ (words_of c.args.words) (length (words_of c.args.words)) (ap (map (λ n. n.items)) c.new-found.ensures.empty), omega arith)

pub returns-in_err-item : goal.returns-in_err-item
unfolding head_at
returns-in_err-item c =
    let p = err_from_is_err_and c.from_residual.result c.from_residual.ensures.1 in
    record { gives = rw (p.1, p.2) (fails c.in_err-item.field-0.0 head_name (map (λ n. n.items) c.items.found.items) (words_of c.items.rest) (length (words_of c.items.rest)) _ c.items.invariant.0 c.in_err-item.ensures.gives) }

pub items-preserved : goal.items-preserved
items-preserved c =
    let grown : map (λ n. n.items) c.push.new.self.items ≡ map (λ n. n.items) c.items.found.items ++ c.in_ok-item.item.items ∷ [] = rw c.in_ok-push.ensures.ok (map_push (λ n. n.items) c.items.found.items c.in_ok-item.item) in
    (rw grown (more head_name (map (λ n. n.items) c.items.found.items) (words_of c.items.rest) (length (words_of c.items.rest)) _ c.in_ok-item.item.items (words_of c.in_ok-item.after) (length (words_of c.in_ok-item.after)) c.items.invariant.0 c.in_ok-item.ensures.shorter (rw c.if-not-more.false at c.in_ok-item.ensures.gives)), omega (arith, c.in_ok-item.ensures.shorter, c.items.invariant.1))

pub returns-then-not-more : goal.returns-then-not-more
unfolding head_at
returns-then-not-more c =
    let grown : map (λ n. n.items) c.push.new.self.items ≡ map (λ n. n.items) c.items.found.items ++ c.in_ok-item.item.items ∷ [] = rw c.in_ok-push.ensures.ok (map_push (λ n. n.items) c.items.found.items c.in_ok-item.item) in
    record { gives = rw grown (last head_name (map (λ n. n.items) c.items.found.items) (words_of c.items.rest) (length (words_of c.items.rest)) _ c.in_ok-item.item.items (words_of c.in_ok-item.after) c.items.invariant.0 (rw c.if-not-more.true at c.in_ok-item.ensures.gives)) }
