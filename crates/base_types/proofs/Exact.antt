-- The tests that compare by an order say whether the two are one.
use Rattle.std.proofs.Common.{◌≡◌, ◌∙◌, ap, refl, sym, Bool, true, false, ◌&&◌, List, [], ◌∷◌, map}
use Rattle.std.specs.Bool.{Decides}
use Rattle.std.specs.Cmp.{IsTotalOrder, Equal-is, tied_itself}
use Rattle.std.specs.declared.cmp.Ordering.{Ordering}
use Rattle.std.specs.declared.cmp.Ordering.TheVariants.{Equal}
use Rattle.std.specs.Ordering.{is_eq}
use Rattle.std.specs.Cmp.Lexicographic.{pointwise}
use Rattle.def_chase.specs.Values.{NullName, Datum, Fact, same_datum, same_fact}
use Rattle.def_chase.proofs.Order.{null_total, null_exact, datum_total, datum_exact, fact_total, fact_exact}
use Rattle.base_types.specs.Maps.{same_null}

exact : {K : Type 0} {R : K → K → Ordering} → IsTotalOrder R → ((x y : K) → R x y ≡ Equal → x ≡ y) → (x y : K) → Decides (is_eq (R x y)) (x ≡ y)
exact {R = R} total ties x y = (λ e. ties x y ((Equal-is (R x y)).0 e), λ e. ap is_eq (ap (R x) (sym e) ∙ tied_itself total x))

-- Whether two nulls are the same is whether they are one.
pub same_null_decides : (m n : NullName) → Decides (same_null m n) (m ≡ n)
same_null_decides = exact null_total null_exact

-- Whether two values are the same is whether they are one.
pub same_datum_decides : (x y : Datum) → Decides (same_datum x y) (x ≡ y)
same_datum_decides = exact datum_total datum_exact

-- Whether two tuples are the same is whether they are one.
pub same_fact_decides : (s t : Fact) → Decides (same_fact s t) (s ≡ t)
same_fact_decides = exact fact_total fact_exact

-- Whether two lists are the same, item by item by a test that tells whether f of the two is one, is whether the lists of what f gives are one.
pub pointwise_decides : {K J : Type 0} (f : K → J) (test : K → K → Bool) → ((x y : K) → Decides (test x y) (f x ≡ f y)) → (xs ys : List K) → Decides (pointwise test xs ys) (map f xs ≡ map f ys)
pointwise_decides f test decides [] [] = (λ e. refl, λ e. refl)
pointwise_decides f test decides [] (y ∷ ys) = (λ e. cc, λ e. cc)
pointwise_decides f test decides (x ∷ xs) [] = (λ e. cc, λ e. cc)
pointwise_decides f test decides (x ∷ xs) (y ∷ ys) = by (test x y) (pointwise test xs ys) (decides x y) (pointwise_decides f test decides xs ys)
  where
    first : f x ∷ map f xs ≡ f y ∷ map f ys → f x ≡ f y
    first e = cc

    later : f x ∷ map f xs ≡ f y ∷ map f ys → map f xs ≡ map f ys
    later e = cc

    by : (a b : Bool) → Decides a (f x ≡ f y) → Decides b (map f xs ≡ map f ys) → Decides (a && b) (f x ∷ map f xs ≡ f y ∷ map f ys)
    by true true h k = (λ e. λ i. h.0 refl i ∷ k.0 refl i, λ e. refl)
    by true false h k = (λ e. cc, λ e. k.1 (later e))
    by false b h k = (λ e. cc, λ e. h.1 (first e))
