-- Changes keep the order, and what they are for the keys alone.
use Rattle.std.proofs.Common.{◌≡◌, ap, refl, sym, ◌∙◌, subst, List, [], ◌∷◌, Bool, true, false, not, ◌||◌, cond, find, filter, Option, Some, None}
use Rattle.std.proofs.lemmas.List.Kept.{IsStrictlySortedBy-filter}
use Rattle.std.specs.BTreeMap.{insert_entry}
use Rattle.std.specs.BTreeSet.{insert_key}
use Rattle.std.specs.Cmp.{IsTotalOrder}
use Rattle.std.specs.List.{AllByRecursion, list_any}
use Rattle.std.specs.List.Sorted.{IsStrictlySortedBy}
use Rattle.std.specs.Map.{keys_of}
use Rattle.std.specs.Option.{option_map, is_some}
use Rattle.std.specs.Ordering.{is_eq, match_ordering, ordering_reverse}
use Rattle.std.specs.declared.cmp.Ordering.{Ordering}
use Rattle.std.specs.declared.cmp.Ordering.TheVariants.{Less, Equal, Greater}
use Rattle.base_tree.specs.Orders.{IsOrdered, is_at, without}
use Rattle.base_tree.proofs.Sides.{all_weaker}

by_place : {X : Type 0} (P : List X → Type 0) (o : Ordering) (xs ys zs : List X) → (o ≡ Less → P xs) → (o ≡ Equal → P ys) → (o ≡ Greater → P zs) → P (match_ordering o xs ys zs)
by_place P Less xs ys zs a b c = a refl
by_place P Equal xs ys zs a b c = b refl
by_place P Greater xs ys zs a b c = c refl

module _ {K : Type 0} (R : K → K → Ordering) where
  below_insert : (x : K) (ks : List K) (k : K) → AllByRecursion (λ y. R x y ≡ Less) ks → R x k ≡ Less → AllByRecursion (λ y. R x y ≡ Less) (insert_key R ks k)
  below_insert x [] k a b = (b, tt)
  below_insert x (y ∷ ks) k a b =
      by_place (AllByRecursion (λ z. R x z ≡ Less)) (R k y) (k ∷ y ∷ ks) (y ∷ ks) (y ∷ insert_key R ks k)
      (λ _. (b, a)) (λ _. a) (λ _. (a.0, below_insert x ks k a.1 b))

module _ {K : Type 0} {R : K → K → Ordering} (o : IsTotalOrder R) where
  insert_ordered : (ks : List K) (k : K) → IsStrictlySortedBy R ks → IsStrictlySortedBy R (insert_key R ks k)
  unfolding IsStrictlySortedBy
  insert_ordered [] k s = (tt, tt)
  insert_ordered (y ∷ ks) k s =
      by_place (IsStrictlySortedBy R) (R k y) (k ∷ y ∷ ks) (y ∷ ks) (y ∷ insert_key R ks k)
      (λ e. ((e, all_weaker _ _ (λ z b. o.trans k y z e b) ks s.0), s)) (λ _. s)
      (λ e. (below_insert R y ks k s.0 (o.antisymm y k ∙ ap ordering_reverse e), insert_ordered ks k s.1))

module _ {K V : Type 0} (R : K → K → Ordering) where
  pub keys_insert : (es : List (K × V)) (k : K) (v : V) → keys_of (insert_entry R es k v) ≡ insert_key R (keys_of es) k
  keys_insert [] k v = refl
  keys_insert (e ∷ es) k v = by (R k e.0) (keys_insert es k v)
    where
      by : (a : Ordering) → keys_of (insert_entry R es k v) ≡ insert_key R (keys_of es) k
          → keys_of (match_ordering a ((k, v) ∷ e ∷ es) ((e.0, v) ∷ es) (e ∷ insert_entry R es k v)) ≡ match_ordering a (k ∷ e.0 ∷ keys_of es) (e.0 ∷ keys_of es) (e.0 ∷ insert_key R (keys_of es) k)
      by Less h = refl
      by Equal h = refl
      by Greater h = ap (λ t. e.0 ∷ t) h

module _ {K V : Type 0} (p : K → Bool) where
  pub keys_filter : (es : List (K × V)) → keys_of (filter (λ e. p e.0) es) ≡ filter p (keys_of es)
  keys_filter [] = refl
  keys_filter (e ∷ es) = by (p e.0) (keys_filter es)
    where
      by : (b : Bool) → keys_of (filter (λ e. p e.0) es) ≡ filter p (keys_of es) → keys_of (cond b (e ∷ filter (λ e. p e.0) es) (filter (λ e. p e.0) es)) ≡ cond b (e.0 ∷ filter p (keys_of es)) (filter p (keys_of es))
      by true h = ap (λ t. e.0 ∷ t) h
      by false h = h

  pub find_keys : (es : List (K × V)) → find p (keys_of es) ≡ option_map (λ e. e.0) (find (λ e. p e.0) es)
  find_keys [] = refl
  find_keys (e ∷ es) = by (p e.0) (find_keys es)
    where
      by : (b : Bool) → find p (keys_of es) ≡ option_map (λ e. e.0) (find (λ e. p e.0) es) → cond b (Some e.0) (find p (keys_of es)) ≡ option_map (λ e. e.0) (cond b (Some e) (find (λ e. p e.0) es))
      by true h = refl
      by false h = h

  pub any_keys : (es : List (K × V)) → is_some (find (λ e. p e.0) es) ≡ list_any p (keys_of es)
  any_keys [] = refl
  any_keys (e ∷ es) = by (p e.0) (any_keys es)
    where
      by : (b : Bool) → is_some (find (λ e. p e.0) es) ≡ list_any p (keys_of es) → is_some (cond b (Some e) (find (λ e. p e.0) es)) ≡ (b || list_any p (keys_of es))
      by true h = refl
      by false h = h

pub ordered_empty : {K V : Type 0} (R : K → K → Ordering) {es : List (K × V)} → es ≡ [] → IsOrdered R es
unfolding IsStrictlySortedBy
ordered_empty R e = subst (IsOrdered R) (sym e) tt

module _ {K V : Type 0} {R : K → K → Ordering} (o : IsTotalOrder R) (es : List (K × V)) {fs : List (K × V)} where
  pub ordered_put : (k : K) (v : V) → fs ≡ insert_entry R es k v → IsOrdered R es → IsOrdered R fs
  ordered_put k v e s = rw e (rw (keys_insert R es k v) (insert_ordered o (keys_of es) k s))

module _ {K V : Type 0} (R : K → K → Ordering) (es : List (K × V)) {fs : List (K × V)} where
  pub ordered_without : (k : K) → fs ≡ without R k es → IsOrdered R es → IsOrdered R fs
  ordered_without k e s = rw e (rw (keys_filter (λ x. not (is_eq (R k x))) es) (IsStrictlySortedBy-filter R (λ x. not (is_eq (R k x))) (keys_of es) s))

pub none_there : {K V : Type 0} (R : K → K → Ordering) (k : K) (es : List (K × V)) → find (is_at R k) es ≡ None → es ≡ without R k es
none_there R k [] h = refl
none_there {K} {V} R k (e ∷ es) h = by (is_at R k e) h (none_there R k es)
  where
    by : (b : Bool) → cond b (Some e) (find (is_at R k) es) ≡ None → (find (is_at R k) es ≡ None → es ≡ without R k es) → e ∷ es ≡ cond (not b) (e ∷ without R k es) (without R k es)
    by true h i = cc
    by false h i = ap (λ t. e ∷ t) (i h)

pub some_mapped : {X Y : Type 0} (f : X → Y) (o : Option X) → is_some (option_map f o) ≡ is_some o
some_mapped f None = refl
some_mapped f (Some x) = refl

pub flipped : (a b : Bool) → a ≡ not b → b ≡ not a
flipped a true e = rw e refl
flipped a false e = rw e refl
