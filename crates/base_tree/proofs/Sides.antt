-- What is known of both sides of an entry in a list in order.
use Rattle.std.proofs.Common.{◌≡◌, ap, ◌∙◌, List, [], ◌∷◌, ◌++◌}
use Rattle.std.specs.Cmp.{IsTotalOrder}
use Rattle.std.specs.List.{AllByRecursion}
use Rattle.std.specs.List.Sorted.{IsStrictlySortedBy}
use Rattle.std.specs.Map.{keys_of}
use Rattle.std.specs.Ordering.{ordering_reverse}
use Rattle.std.specs.declared.cmp.Ordering.{Ordering}
use Rattle.std.specs.declared.cmp.Ordering.TheVariants.{Less, Equal, Greater}
use Rattle.base_tree.specs.Orders.{IsOrdered}

pub all_weaker : {X : Type 0} (P Q : X → Type 0) → ((x : X) → P x → Q x) → (xs : List X) → AllByRecursion P xs → AllByRecursion Q xs
all_weaker P Q f [] a = tt
all_weaker P Q f (x ∷ xs) a = (f x a.0, all_weaker P Q f xs a.1)

module _ {K V : Type 0} where
  all_keys : (P : K → Type 0) (es : List (K × V)) → AllByRecursion P (keys_of es) → AllByRecursion (λ (e : K × V). P e.0) es
  all_keys P [] a = tt
  all_keys P (e ∷ es) a = (a.0, all_keys P es a.1)

  front : (P : K → Type 0) (l m : List (K × V)) → AllByRecursion P (keys_of (l ++ m)) → AllByRecursion P (keys_of l)
  front P [] m a = tt
  front P (e ∷ l) m a = (a.0, front P l m a.1)

  middle : (P : K → Type 0) (l : List (K × V)) (e : K × V) (r : List (K × V)) → AllByRecursion P (keys_of (l ++ e ∷ r)) → P e.0
  middle P [] e r a = a.0
  middle P (x ∷ l) e r a = middle P l e r a.1

-- Both sides are in order, and the entry lies between them.
pub record Sides {K V : Type 0} (R : K → K → Ordering) (l : List (K × V)) (e : K × V) (r : List (K × V)) : Type 0 where
  pub left : IsOrdered R l
  pub right : IsOrdered R r
  pub below : AllByRecursion (λ (x : K × V). R x.0 e.0 ≡ Less) l
  pub above : AllByRecursion (λ (x : K × V). R e.0 x.0 ≡ Less) r

module _ {K V : Type 0} (R : K → K → Ordering) where
  pub sides : (l : List (K × V)) (e : K × V) (r : List (K × V)) → IsOrdered R (l ++ e ∷ r) → Sides R l e r
  unfolding IsStrictlySortedBy
  sides [] e r s = record { left = tt; right = s.1; below = tt; above = all_keys (λ y. R e.0 y ≡ Less) r s.0 }
  sides (x ∷ l) e r s =
      let a : Sides R l e r = sides l e r s.1 in
      record {
        left = (front (λ y. R x.0 y ≡ Less) l (e ∷ r) s.0, a.left);
        right = a.right;
        below = (middle (λ y. R x.0 y ≡ Less) l e r s.0, a.below);
        above = a.above;
      }

module _ {K : Type 0} {R : K → K → Ordering} (o : IsTotalOrder R) where
  turned : (x y : K) (a : Ordering) → R x y ≡ a → R y x ≡ ordering_reverse a
  turned x y a h = o.antisymm y x ∙ ap ordering_reverse h

module _ {K V : Type 0} {R : K → K → Ordering} (o : IsTotalOrder R) where
  -- A key at the entry lies past all before it.
  pub past_at : (k : K) (l : List (K × V)) (e : K × V) → R k e.0 ≡ Equal → AllByRecursion (λ (x : K × V). R x.0 e.0 ≡ Less) l → AllByRecursion (λ (x : K × V). R k x.0 ≡ Greater) l
  past_at k l e h = all_weaker _ _ (λ x b. o.congr k e.0 x.0 h ∙ turned o x.0 e.0 Less b) l

  -- A key past the entry lies past all before it.
  pub past_all : (k : K) (l : List (K × V)) (e : K × V) → R k e.0 ≡ Greater → AllByRecursion (λ (x : K × V). R x.0 e.0 ≡ Less) l → AllByRecursion (λ (x : K × V). R k x.0 ≡ Greater) l
  past_all k l e h = all_weaker _ _ (λ x b. turned o x.0 k Less (o.trans x.0 e.0 k b (turned o k e.0 Greater h))) l

  -- A key at the entry lies before all after it.
  pub before_at : (k : K) (e : K × V) (r : List (K × V)) → R k e.0 ≡ Equal → AllByRecursion (λ (x : K × V). R e.0 x.0 ≡ Less) r → AllByRecursion (λ (x : K × V). R k x.0 ≡ Less) r
  before_at k e r h = all_weaker _ _ (λ x b. o.congr k e.0 x.0 h ∙ b) r

  -- A key before the entry lies before all after it.
  pub before_all : (k : K) (e : K × V) (r : List (K × V)) → R k e.0 ≡ Less → AllByRecursion (λ (x : K × V). R e.0 x.0 ≡ Less) r → AllByRecursion (λ (x : K × V). R k x.0 ≡ Less) r
  before_all k e r h = all_weaker _ _ (λ x b. o.trans k e.0 x.0 h b) r
