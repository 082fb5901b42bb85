use Rattle.std.specs.Prelude.{◌≡◌, ◌≢◌, ◌+◌, ◌-◌, ◌<◌, ◌^◌, ℕ, suc, true, false, List, [], ◌∷◌, ◌++◌, length, take, IfSome, IfNone, MatchOption, Option, Some, None, drop}
use Rattle.std.proofs.Common.{sym, ap, subst, ◌∙◌, arith, Bor, eqb}
use Rattle.std.proofs.lemmas.Bool.{false≢true}
use Rattle.std.proofs.lemmas.Bool.Decides.{Decides-eqb}
use Rattle.std.proofs.lemmas.Slice.Eq.{ends_is, strip_prefix_is}
use Rattle.std.specs.Cmp.Lexicographic.{pointwise}
use Rattle.audit_claims.specs.Forms.{HasLines, HasNoLines, IsCounted, counted, ended}
use Rattle.audit_claims.proofs.Counted.{counted_apart, counted_ends, feeds, feeds_counted, feeds_lines, feeds_past, lines_at_end}
use Rattle.audit_claims.proofs.forms.counted_lines.Goals as goal

pub returns-then-not-ends_with-clause-none : goal.returns-then-not-ends_with-clause-none
returns-then-not-ends_with-clause-none c lines has =
    let ends = counted_ends (length lines) lines in
    let is = (ends_is Decides-eqb c.args.text.now (10 ∷ []) c.ends_with.result c.ends_with.ensures.value).1 ends.0 (has.head ∙ ends.1) in
    absurd (false≢true (sym c.if-not-ends_with.true ∙ is))

pub overflow_sub-line_feeds : goal.overflow_sub-line_feeds
overflow_sub-line_feeds c =
    let is = (ends_is Decides-eqb c.args.text.now (10 ∷ []) c.ends_with.result c.ends_with.ensures.value).0 c.if-not-ends_with.false in
    omega (arith, c.line_feeds.ensures.count, feeds_past c.args.text.now _ is)

lines_found : (text : List ℕ) (n : ℕ) (found : Option (Bor (List ℕ))) → n + 1 ≡ feeds text → n < 2 ^ 64 → (front : List ℕ) → text ≡ front ++ 10 ∷ []
    → MatchOption found ((rest : List ℕ) → text ≢ counted n [] ++ rest) (λ x. text ≡ counted n [] ++ x.now)
    → IfSome found (λ rest. (lines : List (List ℕ)) × IsCounted text rest.now lines)
lines_found text n None many low front ends cases = tt
lines_found text n (Some rest) many low front ends cases =
    let it = lines_at_end (counted n []) rest.now front (sym cases ∙ ends) in
    let head : text ≡ counted n rest.now = cases ∙ counted_apart n rest.now in
    let all : feeds text ≡ suc (feeds rest.now) = ap feeds head ∙ feeds_counted n rest.now low in
    let same : n ≡ length it.lines = omega (arith, all, many, it.count) in
    (it.lines, record { head = head ∙ ap (λ k. counted k rest.now) same; of = it.of })

none_found : (text : List ℕ) (n : ℕ) (found : Option (Bor (List ℕ))) → n + 1 ≡ feeds text → length text < 2 ^ 64
    → MatchOption found ((rest : List ℕ) → text ≢ counted n [] ++ rest) (λ x. text ≡ counted n [] ++ x.now)
    → IfNone found (HasNoLines text)
none_found text n (Some rest) many low cases = tt
none_found text n None many low cases = λ (lines : List (List ℕ)) (has : HasLines text lines).
    let all = feeds_lines text lines low has in
    let same : length lines ≡ n = omega (arith, all, many) in
    cases (ended lines) (has.head ∙ ap (λ k. counted k (ended lines)) same ∙ sym (counted_apart n (ended lines)))

-- what the call tells of the rest, with the first line written out
stripped : (text p line : List ℕ) (found : Option (Bor (List ℕ))) → p ≡ line → MatchOption found (pointwise eqb (take (length p) text) p ≡ false) (λ x. (pointwise eqb (take (length p) text) p ≡ true) × (x.now ≡ drop (length p) text) × (length x.now + length p ≡ length text))
    → MatchOption found ((rest : List ℕ) → text ≢ line ++ rest) (λ x. text ≡ line ++ x.now)
stripped text p line found is cases =
    subst (λ l. MatchOption found ((rest : List ℕ) → text ≢ l ++ rest) (λ x. text ≡ l ++ x.now)) is (strip_prefix_is Decides-eqb text p found cases)

pub returns-clause-lines : goal.returns-clause-lines
returns-clause-lines c =
    let ends = (ends_is Decides-eqb c.args.text.now (10 ∷ []) c.ends_with.result c.ends_with.ensures.value).0 c.if-not-ends_with.false in
    let past = feeds_past c.args.text.now _ ends in
    let many : (c.line_feeds.result - 1) + 1 ≡ feeds c.args.text.now = omega (arith, past, c.line_feeds.ensures.count) in
    lines_found c.args.text.now (c.line_feeds.result - 1) c.strip_prefix.result many (omega arith) _ ends
    (stripped c.args.text.now c.as_slice.result.now _ c.strip_prefix.result (c.as_slice.ensures.value ∙ c.in_ok-head.ensures.line) c.strip_prefix.ensures.cases)

pub returns-clause-none : goal.returns-clause-none
returns-clause-none c =
    let ends = (ends_is Decides-eqb c.args.text.now (10 ∷ []) c.ends_with.result c.ends_with.ensures.value).0 c.if-not-ends_with.false in
    let past = feeds_past c.args.text.now _ ends in
    let many : (c.line_feeds.result - 1) + 1 ≡ feeds c.args.text.now = omega (arith, past, c.line_feeds.ensures.count) in
    none_found c.args.text.now (c.line_feeds.result - 1) c.strip_prefix.result many (omega arith)
    (stripped c.args.text.now c.as_slice.result.now _ c.strip_prefix.result (c.as_slice.ensures.value ∙ c.in_ok-head.ensures.line) c.strip_prefix.ensures.cases)
