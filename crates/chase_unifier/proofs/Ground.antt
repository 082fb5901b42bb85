-- A tuple without nulls has no more specific one but itself, and stands in a repository at most once.
use Rattle.std.proofs.Common.{◌≡◌, ◌∙◌, ap, refl, sym, subst, List, [], ◌∷◌, map, Bool, true, false, ◌||◌, cond}
use Rattle.std.specs.List.{AllByRecursion, list_all}
use Rattle.std.specs.List.Sorted.{IsStrictlySortedBy}
use Rattle.std.specs.Ordering.{is_eq}
use Rattle.std.specs.Prelude.{filter}
use Rattle.std.specs.declared.cmp.Ordering.TheVariants.{Less}
use Rattle.std.proofs.lemmas.Bool.{and_parts}
use Rattle.def_chase.specs.Values.{Datum, Fact, fact_cmp, same_fact}
use Rattle.def_chase.specs.Repository.{IsRepository, has}
use Rattle.def_chase.specs.Specific.{is_constant, more_specific, image_of}
use Rattle.def_chase.proofs.Sets.{same_exact, same_itself}
use Rattle.def_chase.proofs.Unified.{image_is, image_constants, specific_decides}

-- ---- only it is more specific

constants_stay : (f : Datum → Datum) → ((x : Datum) → is_constant x ≡ true → f x ≡ x) → (xs : List Datum) → list_all is_constant xs ≡ true → map f xs ≡ xs
constants_stay f keeps [] h = refl
constants_stay f keeps (x ∷ xs) h =
    let p = and_parts (is_constant x) (list_all is_constant xs) h in
    (λ i. keeps x p.0 i ∷ constants_stay f keeps xs p.1 i)

only_itself : (s t : Fact) → list_all is_constant t.values ≡ true → more_specific s t ≡ true → s ≡ t
only_itself s t ground m =
    let values : s.values ≡ t.values = sym (image_is s t m) ∙ constants_stay (image_of t s) (image_constants s t m) t.values ground in
    (λ i. record { relation = ((specific_decides s t).0 m).one_relation i; values = values i })

all_stay : (xs : List Datum) → map (λ x. x) xs ≡ xs
all_stay [] = refl
all_stay (x ∷ xs) = ap (λ l. x ∷ l) (all_stay xs)

itself_specific : (t : Fact) → more_specific t t ≡ true
itself_specific t = (specific_decides t t).1 (record { one_relation = refl; to = λ x. x; numbers = λ i. refl; words = λ w. refl; moves = all_stay t.values })

pub alone : (t : Fact) → list_all is_constant t.values ≡ true → (s : Fact) → same_fact t s ≡ more_specific s t
alone t ground s = by (same_fact t s) (more_specific s t) refl refl
  where
    by : (a b : Bool) → same_fact t s ≡ a → more_specific s t ≡ b → a ≡ b
    by true true e f = refl
    by true false e f = sym (subst (λ u. more_specific u t ≡ true) (same_exact t s e) (itself_specific t)) ∙ f
    by false true e f = sym e ∙ (ap (same_fact t) (only_itself s t ground f) ∙ same_itself t)
    by false false e f = refl

-- ---- it stands there once, or not

none_above : (t : Fact) (D : List Fact) → AllByRecursion (λ y. fact_cmp t y ≡ Less) D → filter (same_fact t) D ≡ []
none_above t [] a = refl
none_above t (u ∷ D) a = ap (λ o. cond (is_eq o) (u ∷ filter (same_fact t) D) (filter (same_fact t) D)) a.0 ∙ none_above t D a.1

pub there_once : (t : Fact) (D : List Fact) → IsRepository D → has D t ≡ true → t ∷ [] ≡ filter (same_fact t) D
unfolding IsStrictlySortedBy
there_once t [] s h = cc
there_once t (u ∷ D) s h = by (same_fact t u) refl h (there_once t D s.1)
  where
    by : (b : Bool) → same_fact t u ≡ b → (b || has D t) ≡ true → (has D t ≡ true → t ∷ [] ≡ filter (same_fact t) D) → t ∷ [] ≡ cond b (u ∷ filter (same_fact t) D) (filter (same_fact t) D)
    by true e k rest =
        let above = none_above t D (subst (λ (v : Fact). AllByRecursion (λ y. fact_cmp v y ≡ Less) D) (sym (same_exact t u e)) s.0) in
        (λ i. same_exact t u e i ∷ sym above i)
    by false e k rest = rest k

pub not_there : (t : Fact) (D : List Fact) → has D t ≡ false → [] ≡ filter (same_fact t) D
not_there t [] h = refl
not_there t (u ∷ D) h = by (same_fact t u) h (not_there t D)
  where
    by : (b : Bool) → (b || has D t) ≡ false → (has D t ≡ false → [] ≡ filter (same_fact t) D) → [] ≡ cond b (u ∷ filter (same_fact t) D) (filter (same_fact t) D)
    by true k rest = cc
    by false k rest = rest k
