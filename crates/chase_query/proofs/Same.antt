-- Whether two answers are one is whether they have one form and the same tuples.
use Rattle.std.proofs.Common.{◌≡◌, ◌∙◌, ap, sym, List, map, Bool}
use Rattle.std.specs.Bool.{Decides}
use Rattle.std.specs.Cmp.Lexicographic.{pointwise}
use Rattle.std.specs.Ordering.{eq_by_cmp, on}
use Rattle.def_chase.specs.Values.{fact_cmp}
use Rattle.def_chase.specs.Queries.{Image, Tuples}
use Rattle.base_types.specs.Listed.{Listed}
use Rattle.chase_query.specs.declared.replies.Reply.{Reply}
use Rattle.chase_query.specs.declared.replies.Reply.TheVariants.{Image as ImageAnswer, Tuples as TuplesAnswer}
use Rattle.chase_query.specs.Meanings.{reply_of}
use Rattle.base_types.specs.declared.tuples.Tuple.{Tuple}
use Rattle.base_types.specs.Meanings.{fact_of}
use Rattle.base_types.proofs.Exact.{same_fact_decides, pointwise_decides}

rows_decide : (xs ys : List Tuple) → Decides (pointwise (eq_by_cmp (on fact_of fact_cmp)) xs ys) (map fact_of xs ≡ map fact_of ys)
rows_decide xs ys = pointwise_decides fact_of (eq_by_cmp (on fact_of fact_cmp)) (λ s t. same_fact_decides (fact_of s) (fact_of t)) xs ys

images_decide : (xs ys : List Tuple) → Decides (pointwise (eq_by_cmp (on fact_of fact_cmp)) xs ys) (Image (map fact_of xs) ≡ Image (map fact_of ys))
images_decide xs ys = let d = rows_decide xs ys in (λ e. ap Image (d.0 e), λ e. d.1 (cc e))

lists_decide : (xs ys : List Tuple) → Decides (pointwise (eq_by_cmp (on fact_of fact_cmp)) xs ys) (Tuples (map fact_of xs) ≡ Tuples (map fact_of ys))
lists_decide xs ys = let d = rows_decide xs ys in (λ e. ap Tuples (d.0 e), λ e. d.1 (cc e))

-- Two answers of one form are one where their tuples are.
pub images_same : (a b : Reply) (xs ys : Listed Tuple) (r : Bool) → a ≡ ImageAnswer xs → b ≡ ImageAnswer ys → r ≡ pointwise (eq_by_cmp (on fact_of fact_cmp)) xs.items ys.items → Decides r (reply_of a ≡ reply_of b)
images_same a b xs ys r e f t = let d = images_decide xs.items ys.items in (λ h. ap reply_of e ∙ d.0 (sym t ∙ h) ∙ sym (ap reply_of f), λ h. t ∙ d.1 (sym (ap reply_of e) ∙ h ∙ ap reply_of f))

pub lists_same : (a b : Reply) (xs ys : Listed Tuple) (r : Bool) → a ≡ TuplesAnswer xs → b ≡ TuplesAnswer ys → r ≡ pointwise (eq_by_cmp (on fact_of fact_cmp)) xs.items ys.items → Decides r (reply_of a ≡ reply_of b)
lists_same a b xs ys r e f t = let d = lists_decide xs.items ys.items in (λ h. ap reply_of e ∙ d.0 (sym t ∙ h) ∙ sym (ap reply_of f), λ h. t ∙ d.1 (sym (ap reply_of e) ∙ h ∙ ap reply_of f))
