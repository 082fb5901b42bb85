-- Two lists in order as one: its tuples, its order, and its first ones.
use Rattle.std.proofs.Common.{◌≡◌, ℕ, zero, suc, ◌-◌, ◌≤◌, ap, refl, sym, ◌∙◌, subst, List, [], ◌∷◌, length, take, Bool, true, false, ◌||◌, ◌&&◌, filter, arith}
use Rattle.std.specs.List.{AllByRecursion}
use Rattle.std.specs.List.Sorted.{IsStrictlySortedBy}
use Rattle.std.specs.Ordering.{match_ordering, ordering_reverse}
use Rattle.std.specs.declared.cmp.Ordering.{Ordering}
use Rattle.std.specs.declared.cmp.Ordering.TheVariants.{Less, Equal, Greater}
use Rattle.def_chase.specs.Values.{Fact, fact_cmp, same_fact}
use Rattle.def_chase.specs.Repository.{IsRepository, has}
use Rattle.def_chase.proofs.Members.{has-filter}
use Rattle.def_chase.proofs.Order.{fact_exact, fact_total}
use Rattle.def_chase.proofs.Searches.{all_weaker}
use Rattle.def_chase.proofs.Sets.{filter_in_order, same_repository}
use Rattle.set_facts.specs.Runs.{merged, merged_with}

-- ---- members

module _ (u : Fact) where
  has-with : (x : Fact) (xs : List Fact) (f : List Fact → List Fact) → ((zs : List Fact) → has (f zs) u ≡ (has xs u || has zs u)) → (ys : List Fact) → has (merged_with x f ys) u ≡ ((same_fact u x || has xs u) || has ys u)
  has-with x xs f h [] = ap (λ b. same_fact u x || b) (h []) ∙ by (same_fact u x) (has xs u)
    where
      by : (a b : Bool) → (a || (b || false)) ≡ ((a || b) || false)
      by true b = refl
      by false b = refl
  has-with x xs f h (y ∷ ys) = by (fact_cmp x y) refl (has-with x xs f h ys)
    where
      turn : (a b c : Bool) → (a || (b || c)) ≡ ((a || b) || c)
      turn true b c = refl
      turn false b c = refl

      once : (a b c : Bool) → (a || (b || c)) ≡ ((a || b) || (a || c))
      once true b c = refl
      once false b c = refl

      late : (a b c : Bool) → (c || (a || b)) ≡ (a || (c || b))
      late true b true = refl
      late true b false = refl
      late false b c = refl

      by : (o : Ordering) → fact_cmp x y ≡ o → has (merged_with x f ys) u ≡ ((same_fact u x || has xs u) || has ys u)
          → has (match_ordering o (x ∷ f (y ∷ ys)) (x ∷ f ys) (y ∷ merged_with x f ys)) u ≡ ((same_fact u x || has xs u) || (same_fact u y || has ys u))
      by Less e i = ap (λ b. same_fact u x || b) (h (y ∷ ys)) ∙ turn (same_fact u x) (has xs u) (same_fact u y || has ys u)
      by Equal e i =
          ap (λ b. same_fact u x || b) (h ys) ∙ once (same_fact u x) (has xs u) (has ys u) ∙ ap (λ (z : Fact). (same_fact u x || has xs u) || (same_fact u z || has ys u)) (fact_exact x y e)
      by Greater e i = ap (λ b. same_fact u y || b) i ∙ late (same_fact u x || has xs u) (has ys u) (same_fact u y)

  pub has-merged : (xs ys : List Fact) → has (merged xs ys) u ≡ (has xs u || has ys u)
  has-merged [] ys = refl
  has-merged (x ∷ xs) ys = has-with x xs (merged xs) (has-merged xs) ys

-- ---- order

module _ (P : Fact → Type 0) where
  all_with : (x : Fact) (f : List Fact → List Fact) → P x → ((zs : List Fact) → AllByRecursion P zs → AllByRecursion P (f zs)) → (ys : List Fact) → AllByRecursion P ys → AllByRecursion P (merged_with x f ys)
  all_with x f p h [] a = (p, h [] tt)
  all_with x f p h (y ∷ ys) a = by (fact_cmp x y) (all_with x f p h ys a.1)
    where
      by : (o : Ordering) → AllByRecursion P (merged_with x f ys) → AllByRecursion P (match_ordering o (x ∷ f (y ∷ ys)) (x ∷ f ys) (y ∷ merged_with x f ys))
      by Less i = (p, h (y ∷ ys) a)
      by Equal i = (p, h ys a.1)
      by Greater i = (a.0, i)

  all_merged : (xs ys : List Fact) → AllByRecursion P xs → AllByRecursion P ys → AllByRecursion P (merged xs ys)
  all_merged [] ys a b = b
  all_merged (x ∷ xs) ys a b = all_with x (merged xs) a.0 (λ zs c. all_merged xs zs a.1 c) ys b

-- The tuple is below each of these.
abbrev IsBelow : Fact → List Fact → Type 0
IsBelow t D = AllByRecursion (λ u. fact_cmp t u ≡ Less) D

lower : (s t : Fact) (D : List Fact) → fact_cmp s t ≡ Less → IsBelow t D → IsBelow s D
lower s t D e a = all_weaker (λ u. fact_cmp t u ≡ Less) (λ u. fact_cmp s u ≡ Less) (λ u l. fact_total.trans s t u e l) D a

with_in_order : (x : Fact) (xs : List Fact) (f : List Fact → List Fact) → ((zs : List Fact) → IsRepository zs → IsRepository (f zs)) → ((t : Fact) (zs : List Fact) → IsBelow t xs → IsBelow t zs → IsBelow t (f zs))
    → IsBelow x xs → (ys : List Fact) → IsRepository ys → IsRepository (merged_with x f ys)
unfolding IsStrictlySortedBy
with_in_order x xs f o g a [] s = (g x [] a tt, o [] tt)
with_in_order x xs f o g a (y ∷ ys) s = by (fact_cmp x y) refl (with_in_order x xs f o g a ys s.1)
  where
    by : (c : Ordering) → fact_cmp x y ≡ c → IsRepository (merged_with x f ys) → IsRepository (match_ordering c (x ∷ f (y ∷ ys)) (x ∷ f ys) (y ∷ merged_with x f ys))
    by Less e i = (g x (y ∷ ys) a (e, lower x y ys e s.0), o (y ∷ ys) s)
    by Equal e i = (g x ys a (subst (λ (z : Fact). IsBelow z ys) (sym (fact_exact x y e)) s.0), o ys s.1)
    by Greater e i =
        let less : fact_cmp y x ≡ Less = fact_total.antisymm y x ∙ ap ordering_reverse e in
        (all_with (λ u. fact_cmp y u ≡ Less) x f less (λ zs b. g y zs (lower y x xs less a) b) ys s.0, i)

pub merged_in_order : (xs ys : List Fact) → IsRepository xs → IsRepository ys → IsRepository (merged xs ys)
unfolding IsStrictlySortedBy
merged_in_order [] ys a b = b
merged_in_order (x ∷ xs) ys a b = with_in_order x xs (merged xs) (λ zs c. merged_in_order xs zs a.1 c) (λ t zs c d. all_merged (λ u. fact_cmp t u ≡ Less) xs zs c d) a.0 ys b

-- What passes of both, as one, is what passes of the whole.
pub merged_passing : (p : Fact → Bool) (A B E : List Fact) → IsRepository A → IsRepository B → IsRepository E → ((u : Fact) → has E u ≡ (has A u || has B u)) → merged (filter p A) (filter p B) ≡ filter p E
merged_passing p A B E a b s whole =
    same_repository (merged (filter p A) (filter p B)) (filter p E) (merged_in_order (filter p A) (filter p B) (filter_in_order p A a) (filter_in_order p B b)) (filter_in_order p E s)
    (λ u. has-merged u (filter p A) (filter p B) ∙ (λ i. has-filter p A u i || has-filter p B u i) ∙ by (has A u) (has B u) (p u) ∙ ap (λ c. c && p u) (sym (whole u)) ∙ sym (has-filter p E u))
  where
    by : (x y c : Bool) → ((x && c) || (y && c)) ≡ ((x || y) && c)
    by true true true = refl
    by true false true = refl
    by false y true = refl
    by true true false = refl
    by true false false = refl
    by false true false = refl
    by false false false = refl

-- ---- the first ones

take_take : {X : Type 0} (n m : ℕ) (xs : List X) → n ≤ m → take n (take m xs) ≡ take n xs
take_take zero m xs h = refl
take_take (suc n) zero xs h = absurd (omega (arith, h))
take_take (suc n) (suc m) [] h = refl
take_take (suc n) (suc m) (x ∷ xs) h = ap (λ l. x ∷ l) (take_take n m xs (omega (arith, h)))

take_with : (x : Fact) (f : List Fact → List Fact) → ((n m : ℕ) (zs : List Fact) → n ≤ m → take n (f (take m zs)) ≡ take n (f zs)) → (n m : ℕ) (ys : List Fact) → n ≤ m → take n (merged_with x f (take m ys)) ≡ take n (merged_with x f ys)
take_with x f h zero m ys l = refl
take_with x f h (suc n) zero ys l = absurd (omega (arith, l))
take_with x f h (suc n) (suc m) [] l = refl
take_with x f h (suc n) (suc m) (y ∷ ys) l = by (fact_cmp x y) (take_with x f h n m ys (omega (arith, l)))
  where
    by : (o : Ordering) → take n (merged_with x f (take m ys)) ≡ take n (merged_with x f ys)
        → take (suc n) (match_ordering o (x ∷ f (y ∷ take m ys)) (x ∷ f (take m ys)) (y ∷ merged_with x f (take m ys))) ≡ take (suc n) (match_ordering o (x ∷ f (y ∷ ys)) (x ∷ f ys) (y ∷ merged_with x f ys))
    by Less i = ap (λ l. x ∷ l) (h n (suc m) (y ∷ ys) (omega (arith, l)))
    by Equal i = ap (λ l. x ∷ l) (h n m ys (omega (arith, l)))
    by Greater i = ap (λ l. y ∷ l) i

-- As many of the second list give as many of both as one.
pub take_merged : (xs : List Fact) (n m : ℕ) (ys : List Fact) → n ≤ m → take n (merged xs (take m ys)) ≡ take n (merged xs ys)
take_merged [] n m ys l = take_take n m ys l
take_merged (x ∷ xs) n m ys l = take_with x (merged xs) (take_merged xs) n m ys l

pub room_taken : {X : Type 0} (n : ℕ) (xs : List X) → n - length xs ≡ n - length (take n xs)
room_taken zero xs = omega arith
room_taken (suc n) [] = refl
room_taken (suc n) (x ∷ xs) = let i = room_taken n xs in omega (arith, i)
