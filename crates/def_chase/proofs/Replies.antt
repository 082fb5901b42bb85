-- The test of replies is whether they are one.
use Rattle.std.proofs.Common.{◌≡◌, ap, refl, List, [], ◌∷◌, true, false}
use Rattle.std.specs.Cmp.Lexicographic.{pointwise}
use Rattle.std.proofs.lemmas.Bool.{and_parts, both_ways}
use Rattle.def_chase.specs.Values.{Fact, same_fact}
use Rattle.def_chase.specs.Queries.{Reply, Yes, No, Image, Nothing, Tuples, same_reply}
use Rattle.def_chase.proofs.Bools.{both}
use Rattle.def_chase.proofs.Sets.{same_exact, same_itself}

same_facts : (xs ys : List Fact) → pointwise same_fact xs ys ≡ true → xs ≡ ys
same_facts [] [] h = refl
same_facts [] (y ∷ ys) h = absurd (both_ways false refl h)
same_facts (x ∷ xs) [] h = absurd (both_ways false refl h)
same_facts (x ∷ xs) (y ∷ ys) h = let p = and_parts (same_fact x y) (pointwise same_fact xs ys) h in λ i. same_exact x y p.0 i ∷ same_facts xs ys p.1 i

facts_same : (xs : List Fact) → pointwise same_fact xs xs ≡ true
facts_same [] = refl
facts_same (x ∷ xs) = both (same_fact x x) (pointwise same_fact xs xs) (same_itself x) (facts_same xs)

-- What the test calls the same is one.
pub reply_is : (a b : Reply) → same_reply a b ≡ true → a ≡ b
reply_is Yes Yes h = refl
reply_is No No h = refl
reply_is (Image xs) (Image ys) h = ap Image (same_facts xs ys h)
reply_is Nothing Nothing h = refl
reply_is (Tuples xs) (Tuples ys) h = ap Tuples (same_facts xs ys h)
reply_is _ _ h = absurd (both_ways false refl h)

-- Each reply is the same as itself.
pub reply_itself : (a : Reply) → same_reply a a ≡ true
reply_itself Yes = refl
reply_itself No = refl
reply_itself (Image xs) = facts_same xs
reply_itself Nothing = refl
reply_itself (Tuples xs) = facts_same xs
