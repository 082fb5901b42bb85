-- What is in a repository after writes, and that its tuples stay in order.
use Rattle.std.proofs.Common.{◌≡◌, ap, refl, sym, ◌∙◌, List, [], ◌∷◌, Bool, true, false, not, ◌||◌, ◌&&◌, cond}
use Rattle.std.specs.BTreeSet.{insert_key}
use Rattle.std.specs.Cmp.{tied_itself, Equal-is, eq_by_cmp_equiv}
use Rattle.std.specs.List.{AllByRecursion}
use Rattle.std.specs.List.Sorted.{IsStrictlySortedBy}
use Rattle.std.specs.Ordering.{is_eq, match_ordering, ordering_reverse}
use Rattle.std.specs.Prelude.{filter}
use Rattle.std.specs.declared.cmp.Ordering.{Ordering}
use Rattle.std.specs.declared.cmp.Ordering.TheVariants.{Less, Equal, Greater}
use Rattle.std.proofs.lemmas.Map.Lookups.{btree_set_from_contains}
use Rattle.def_chase.specs.Values.{Fact, fact_cmp, same_fact}
use Rattle.def_chase.specs.Repository.{Change, Insert, Delete, IsRepository, has, change, apply, inserted_after}
use Rattle.def_chase.proofs.Order.{fact_total, fact_exact}

module _ {K : Type 0} (R : K → K → Ordering) where
  pub by_place : (P : List K → Type 0) (o : Ordering) (xs ys zs : List K) → (o ≡ Less → P xs) → (o ≡ Equal → P ys) → (o ≡ Greater → P zs) → P (match_ordering o xs ys zs)
  by_place P Less xs ys zs a b c = a refl
  by_place P Equal xs ys zs a b c = b refl
  by_place P Greater xs ys zs a b c = c refl

or_swap : (a b c : Bool) → (a || (b || c)) ≡ (b || (a || c))
or_swap true true c = refl
or_swap true false c = refl
or_swap false b c = refl

or_twice : (a c : Bool) → (a || c) ≡ (a || (a || c))
or_twice true c = refl
or_twice false c = refl

same_of_equal : (s t u : Fact) → fact_cmp t u ≡ Equal → same_fact s u ≡ same_fact s t
same_of_equal s t u e = ap (λ z. same_fact s z) (sym (fact_exact t u e))

pub has-insert : (D : List Fact) (t s : Fact) → has (insert_key fact_cmp D t) s ≡ (same_fact s t || has D s)
has-insert [] t s = refl
has-insert (u ∷ D) t s =
    by_place fact_cmp (λ l. has l s ≡ (same_fact s t || (same_fact s u || has D s))) (fact_cmp t u) (t ∷ u ∷ D) (u ∷ D) (u ∷ insert_key fact_cmp D t)
    (λ e. refl)
    (λ e. rw (same_of_equal s t u e) (or_twice (same_fact s t) (has D s)))
    (λ e. rw (has-insert D t s) (or_swap (same_fact s u) (same_fact s t) (has D s)))

pub same_itself : (s : Fact) → same_fact s s ≡ true
same_itself s = ap is_eq (tied_itself fact_total s)

pub same_exact : (s t : Fact) → same_fact s t ≡ true → s ≡ t
same_exact s t e = fact_exact s t ((Equal-is (fact_cmp s t)).0 e)

same_swap : (s t : Fact) → same_fact s t ≡ same_fact t s
same_swap s t = (eq_by_cmp_equiv fact_total).symm s t

gone : (b h : Bool) → (h && not b) ≡ ((b || h) && not b)
gone true true = refl
gone true false = refl
gone false h = refl

stays : (a b h : Bool) → (a ≡ true → b ≡ false) → (a || (h && not b)) ≡ ((a || h) && not b)
stays true b h f = rw (f refl)
stays false b h f = refl

without : (D : List Fact) (u t s : Fact) (b : Bool) → same_fact t u ≡ b → has (filter (λ v. not (same_fact t v)) D) s ≡ (has D s && not (same_fact s t))
    → has (cond (not b) (u ∷ filter (λ v. not (same_fact t v)) D) (filter (λ v. not (same_fact t v)) D)) s ≡ (has (u ∷ D) s && not (same_fact s t))
without D u t s true e h = h ∙ gone (same_fact s t) (has D s) ∙ ap (λ v. (same_fact s v || has D s) && not (same_fact s t)) (same_exact t u e)
without D u t s false e h =
    rw h (stays (same_fact s u) (same_fact s t) (has D s) (λ k. ap (λ v. same_fact v t) (same_exact s u k) ∙ same_swap u t ∙ e))

pub has-delete : (D : List Fact) (t s : Fact) → has (filter (λ u. not (same_fact t u)) D) s ≡ (has D s && not (same_fact s t))
has-delete [] t s = refl
has-delete (u ∷ D) t s = without D u t s (same_fact t u) refl (has-delete D t s)

pub has-change : (D : List Fact) (w : Change) (ws : List Change) (s : Fact) → inserted_after (has (change D w) s) ws s ≡ inserted_after (has D s) (w ∷ ws) s
has-change D (Insert t) ws s = ap (λ b. inserted_after b ws s) (has-insert D t s)
has-change D (Delete t) ws s = ap (λ b. inserted_after b ws s) (has-delete D t s)

-- A tuple is there after the writes where its last write is an insertion, or where it was there and none wrote it.
pub has-apply : (D : List Fact) (ws : List Change) (s : Fact) → has (apply D ws) s ≡ inserted_after (has D s) ws s
has-apply D [] s = refl
has-apply D (w ∷ ws) s = has-apply (change D w) ws s ∙ has-change D w ws s

pub same_repository : (D E : List Fact) → IsRepository D → IsRepository E → ((s : Fact) → has D s ≡ has E s) → D ≡ E
same_repository D E d e h = btree_set_from_contains fact_total (record { keys = D }) (record { keys = E }) d e h fact_exact

below_insert : (x : Fact) (D : List Fact) (t : Fact) → AllByRecursion (λ y. fact_cmp x y ≡ Less) D → fact_cmp x t ≡ Less → AllByRecursion (λ y. fact_cmp x y ≡ Less) (insert_key fact_cmp D t)
below_insert x [] t a b = (b, tt)
below_insert x (u ∷ D) t a b =
    by_place fact_cmp (AllByRecursion (λ y. fact_cmp x y ≡ Less)) (fact_cmp t u) (t ∷ u ∷ D) (u ∷ D) (u ∷ insert_key fact_cmp D t)
    (λ _. (b, a)) (λ _. a) (λ _. (a.0, below_insert x D t a.1 b))

below_all : (t u : Fact) (D : List Fact) → fact_cmp t u ≡ Less → AllByRecursion (λ y. fact_cmp u y ≡ Less) D → AllByRecursion (λ y. fact_cmp t y ≡ Less) D
below_all t u [] l a = tt
below_all t u (v ∷ D) l a = (fact_total.trans t u v l a.0, below_all t u D l a.1)

turned : (t u : Fact) → fact_cmp t u ≡ Greater → fact_cmp u t ≡ Less
turned t u e = fact_total.antisymm u t ∙ ap ordering_reverse e

pub insert_in_order : (D : List Fact) (t : Fact) → IsRepository D → IsRepository (insert_key fact_cmp D t)
unfolding IsStrictlySortedBy
insert_in_order [] t s = (tt, tt)
insert_in_order (u ∷ D) t s =
    by_place fact_cmp (IsStrictlySortedBy fact_cmp) (fact_cmp t u) (t ∷ u ∷ D) (u ∷ D) (u ∷ insert_key fact_cmp D t)
    (λ e. ((e, below_all t u D e s.0), s)) (λ _. s) (λ e. (below_insert u D t s.0 (turned t u e), insert_in_order D t s.1))

below_filter : (p : Fact → Bool) (x : Fact) (D : List Fact) → AllByRecursion (λ y. fact_cmp x y ≡ Less) D → AllByRecursion (λ y. fact_cmp x y ≡ Less) (filter p D)
below_filter p x [] a = tt
below_filter p x (u ∷ D) a = elim (p u) as (λ b. AllByRecursion (λ y. fact_cmp x y ≡ Less) (cond b (u ∷ filter p D) (filter p D))) [ true ↦ (a.0, below_filter p x D a.1) | false ↦ below_filter p x D a.1 ]

pub filter_in_order : (p : Fact → Bool) (D : List Fact) → IsRepository D → IsRepository (filter p D)
unfolding IsStrictlySortedBy
filter_in_order p [] s = tt
filter_in_order p (u ∷ D) s = elim (p u) as (λ b. IsStrictlySortedBy fact_cmp (cond b (u ∷ filter p D) (filter p D))) [ true ↦ (below_filter p u D s.0, filter_in_order p D s.1) | false ↦ filter_in_order p D s.1 ]

pub apply_in_order : (D : List Fact) (ws : List Change) → IsRepository D → IsRepository (apply D ws)
apply_in_order D [] s = s
apply_in_order D (Insert t ∷ ws) s = apply_in_order (insert_key fact_cmp D t) ws (insert_in_order D t s)
apply_in_order D (Delete t ∷ ws) s = apply_in_order (filter (λ u. not (same_fact t u)) D) ws (filter_in_order (λ u. not (same_fact t u)) D s)
