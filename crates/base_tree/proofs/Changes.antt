-- A look-up, a change or a removal in a list in order is one on the side of the entry where the key belongs.
use Rattle.std.proofs.lemmas.Bool.{true≢false}
use Rattle.std.proofs.Common.{◌<◌, length, arith, length-append, append-nil, ◌≡◌, ap, refl, sym, ◌∙◌, subst, inl, inr, ◌⊎◌, List, [], ◌∷◌, ◌++◌, Bool, true, false, not, ◌&&◌, cond, find, filter, Option, Some, None}
use Rattle.std.specs.BTreeMap.{insert_entry}
use Rattle.std.specs.Cmp.{IsTotalOrder}
use Rattle.std.specs.List.{AllByRecursion}
use Rattle.std.specs.Option.{option_or, option_to_list}
use Rattle.std.specs.Result.{IsOk}
use Rattle.std.specs.Prelude.{Result, Ok}
use Rattle.std.specs.Ordering.{is_eq, match_ordering}
use Rattle.std.specs.declared.cmp.Ordering.{Ordering}
use Rattle.std.specs.declared.cmp.Ordering.TheVariants.{Less, Equal, Greater}
use Rattle.std.specs.declared.alloc.Global.{Global}
use Rattle.std.specs.declared.sync.Arc.{Arc}
use Rattle.base_tree.specs.declared.branch.Node.{Node}
use Rattle.base_tree.specs.Nodes.{entries, entries_at}
use Rattle.base_tree.specs.Orders.{IsOrdered, is_at, is_reached, is_sought, without}
use Rattle.base_tree.proofs.Sides.{Sides, sides, all_weaker, past_at, past_all, before_at, before_all}

-- ---- tests

module _ {X : Type 0} (p : X → Bool) where
  find_past : (l m : List X) → AllByRecursion (λ x. p x ≡ false) l → find p (l ++ m) ≡ find p m
  find_past [] m a = refl
  find_past (x ∷ l) m a = rw a.0 (find_past l m a.1)

  pub find_none : (l : List X) → AllByRecursion (λ x. p x ≡ false) l → find p l ≡ None
  find_none [] a = refl
  find_none (x ∷ l) a = rw a.0 (find_none l a.1)

  pub find_both : (l m : List X) → find p (l ++ m) ≡ option_or (find p l) (find p m)
  find_both [] m = refl
  find_both (x ∷ l) m = by (p x) (find_both l m)
    where
      by : (b : Bool) → find p (l ++ m) ≡ option_or (find p l) (find p m) → cond b (Some x) (find p (l ++ m)) ≡ option_or (cond b (Some x) (find p l)) (find p m)
      by true h = refl
      by false h = h

  pub filter_all : (l : List X) → AllByRecursion (λ x. p x ≡ true) l → filter p l ≡ l
  filter_all [] a = refl
  filter_all (x ∷ l) a = rw a.0 (ap (λ t. x ∷ t) (filter_all l a.1))

  pub filter_both : (l m : List X) → filter p (l ++ m) ≡ filter p l ++ filter p m
  filter_both [] m = refl
  filter_both (x ∷ l) m = by (p x) (filter_both l m)
    where
      by : (b : Bool) → filter p (l ++ m) ≡ filter p l ++ filter p m → cond b (x ∷ filter p (l ++ m)) (filter p (l ++ m)) ≡ cond b (x ∷ filter p l) (filter p l) ++ filter p m
      by true h = ap (λ t. x ∷ t) h
      by false h = h

-- ---- at a key

or_none : {X : Type 0} (f : Option X) → option_or f None ≡ f
or_none None = refl
or_none (Some x) = refl

module _ {K V : Type 0} (R : K → K → Ordering) where
  pub elsewhere : (k : K) (a : Ordering) → is_eq a ≡ false → (l : List (K × V)) → AllByRecursion (λ (x : K × V). R k x.0 ≡ a) l → AllByRecursion (λ (x : K × V). is_at R k x ≡ false) l
  elsewhere k a n = all_weaker _ _ (λ x h. ap is_eq h ∙ n)

  pub kept : (k : K) (a : Ordering) → is_eq a ≡ false → (l : List (K × V)) → AllByRecursion (λ (x : K × V). R k x.0 ≡ a) l → AllByRecursion (λ (x : K × V). not (is_at R k x) ≡ true) l
  kept k a n = all_weaker _ _ (λ x h. ap (λ b. not (is_eq b)) h ∙ ap not n)

  pub insert_past : (k : K) (v : V) (l m : List (K × V)) → AllByRecursion (λ (x : K × V). R k x.0 ≡ Greater) l → insert_entry R (l ++ m) k v ≡ l ++ insert_entry R m k v
  insert_past k v [] m a = refl
  insert_past k v (x ∷ l) m a = rw a.0 (ap (λ t. x ∷ t) (insert_past k v l m a.1))

  insert_before : (k : K) (v : V) (l : List (K × V)) (e : K × V) (r : List (K × V)) → R k e.0 ≡ Less → insert_entry R (l ++ e ∷ r) k v ≡ insert_entry R l k v ++ e ∷ r
  insert_before k v [] e r h = rw h
  insert_before k v (x ∷ l) e r h = by (R k x.0) (insert_before k v l e r h)
    where
      by : (a : Ordering) → insert_entry R (l ++ e ∷ r) k v ≡ insert_entry R l k v ++ e ∷ r → match_ordering a ((k, v) ∷ x ∷ (l ++ e ∷ r)) ((x.0, v) ∷ (l ++ e ∷ r)) (x ∷ insert_entry R (l ++ e ∷ r) k v) ≡ match_ordering a ((k, v) ∷ x ∷ l) ((x.0, v) ∷ l) (x ∷ insert_entry R l k v) ++ e ∷ r
      by Less i = refl
      by Equal i = refl
      by Greater i = ap (λ t. x ∷ t) i

module _ {K V : Type 0} {R : K → K → Ordering} where
  module _ (o : IsTotalOrder R) {d : List (K × V)} {k : K} {l : List (K × V)} {e : K × V} {r : List (K × V)} (is : d ≡ l ++ e ∷ r) (s : Sides R l e r) where
    pub put_left : (v : V) → R k e.0 ≡ Less → insert_entry R l k v ++ e ∷ r ≡ insert_entry R d k v
    put_left v h = rw is (sym (insert_before R k v l e r h))

    pub put_here : (v : V) → R k e.0 ≡ Equal → l ++ (e.0, v) ∷ r ≡ insert_entry R d k v
    put_here v h = rw is (sym (insert_past R k v l (e ∷ r) (past_at o k l e h s.below) ∙ rw h))

    pub put_right : (v : V) → R k e.0 ≡ Greater → l ++ e ∷ insert_entry R r k v ≡ insert_entry R d k v
    put_right v h = rw is (sym (insert_past R k v l (e ∷ r) (past_all o k l e h s.below) ∙ rw h))

    pub find_left : R k e.0 ≡ Less → find (is_at R k) d ≡ find (is_at R k) l
    find_left h = rw is (find_both (is_at R k) l (e ∷ r) ∙ rw h (rw (find_none (is_at R k) r (elsewhere R k Less refl r (before_all o k e r h s.above))) (or_none (find (is_at R k) l))))

    pub find_here : R k e.0 ≡ Equal → find (is_at R k) d ≡ Some e
    find_here h = rw is (find_past (is_at R k) l (e ∷ r) (elsewhere R k Greater refl l (past_at o k l e h s.below)) ∙ rw h)

    pub find_right : R k e.0 ≡ Greater → find (is_at R k) d ≡ find (is_at R k) r
    find_right h = rw is (find_past (is_at R k) l (e ∷ r) (elsewhere R k Greater refl l (past_all o k l e h s.below)) ∙ rw h)

    pub without_left : R k e.0 ≡ Less → without R k l ++ e ∷ r ≡ without R k d
    without_left h = rw is (sym (filter_both (λ x. not (is_at R k x)) l (e ∷ r) ∙ rw h (ap (λ t. without R k l ++ e ∷ t) (filter_all (λ x. not (is_at R k x)) r (kept R k Less refl r (before_all o k e r h s.above))))))

    pub without_here : R k e.0 ≡ Equal → l ++ r ≡ without R k d
    without_here h =
        rw is (sym (filter_both (λ x. not (is_at R k x)) l (e ∷ r) ∙ rw h (ap (λ t. without R k l ++ t) (filter_all (λ x. not (is_at R k x)) r (kept R k Less refl r (before_at o k e r h s.above)))
        ∙ ap (λ t. t ++ r) (filter_all (λ x. not (is_at R k x)) l (kept R k Greater refl l (past_at o k l e h s.below))))))

    pub without_right : R k e.0 ≡ Greater → l ++ e ∷ without R k r ≡ without R k d
    without_right h = rw is (sym (filter_both (λ x. not (is_at R k x)) l (e ∷ r) ∙ rw h (ap (λ t. t ++ e ∷ without R k r) (filter_all (λ x. not (is_at R k x)) l (kept R k Greater refl l (past_all o k l e h s.below))))))

-- ---- after a cut

module _ {K : Type 0} {R : K → K → Ordering} (p : K → Bool) (rises : (x y : K) → R x y ≡ Less → p x ≡ true → p y ≡ true) where
  pub not_reached : (x y : K) → R x y ≡ Less → p y ≡ false → p x ≡ false
  not_reached x y h n = by (p x) refl
    where
      by : (b : Bool) → p x ≡ b → p x ≡ false
      by true e = absurd (true≢false (sym (rises x y h e) ∙ n))
      by false e = e

module _ {K V : Type 0} {R : K → K → Ordering} (p : K → Bool) (rises : (x y : K) → R x y ≡ Less → p x ≡ true → p y ≡ true) where
  module _ {d l : List (K × V)} {e : K × V} {r : List (K × V)} (is : d ≡ l ++ e ∷ r) (s : Sides R l e r) where
    -- The entry is reached: what is sought is at the left or it.
    pub seek_left : p e.0 ≡ true → find (is_reached p) d ≡ option_or (find (is_reached p) l) (Some e)
    seek_left h = rw is (find_both (is_reached p) l (e ∷ r) ∙ rw h)

    -- The entry is not: what is sought is at the right.
    pub seek_right : p e.0 ≡ false → find (is_reached p) d ≡ find (is_reached p) r
    seek_right h = rw is (find_past (is_reached p) l (e ∷ r) (all_weaker _ _ (λ x b. not_reached p rises x.0 e.0 b h) l s.below) ∙ rw h)

-- ---- in a zone

module _ {K V : Type 0} (place : K → Ordering) (passes : K × V → Bool) where
  pub out_of : (a : Ordering) → is_eq a ≡ false → (l : List (K × V)) → AllByRecursion (λ (x : K × V). place x.0 ≡ a) l → AllByRecursion (λ (x : K × V). is_sought place passes x ≡ false) l
  out_of a n = all_weaker _ _ (λ x h. ap (λ b. is_eq b && passes x) h ∙ ap (λ b. b && passes x) n)

module _ {K V : Type 0} {R : K → K → Ordering} (place : K → Ordering) (passes : K × V → Bool) {d l : List (K × V)} {e : K × V} {r : List (K × V)} (is : d ≡ l ++ e ∷ r) (s : Sides R l e r) where
  -- The entry lies before the zone: what is sought is at the right.
  pub sought_right : ((x y : K) → R x y ≡ Less → place y ≡ Less → place x ≡ Less) → place e.0 ≡ Less → find (is_sought place passes) d ≡ find (is_sought place passes) r
  sought_right before h = rw is (find_past (is_sought place passes) l (e ∷ r) (out_of place passes Less refl l (all_weaker _ _ (λ x b. before x.0 e.0 b h) l s.below)) ∙ rw h)

  -- The entry lies past the zone: what is sought is at the left.
  pub sought_left : ((x y : K) → R x y ≡ Less → place x ≡ Greater → place y ≡ Greater) → place e.0 ≡ Greater → find (is_sought place passes) d ≡ find (is_sought place passes) l
  sought_left past h =
      rw is (find_both (is_sought place passes) l (e ∷ r) ∙ rw h (rw (find_none (is_sought place passes) r (out_of place passes Greater refl r (all_weaker _ _ (λ x b. past e.0 x.0 b h) r s.above))) (or_none (find (is_sought place passes) l))))

  -- The entry lies in the zone: what is sought is at the left, or it, or at the right.
  pub sought_here : place e.0 ≡ Equal → find (is_sought place passes) d ≡ option_or (find (is_sought place passes) l) (cond (passes e) (Some e) (find (is_sought place passes) r))
  sought_here h = rw is (find_both (is_sought place passes) l (e ∷ r) ∙ rw h)

  pub sought_first : place e.0 ≡ Equal → {x : K × V} → find (is_sought place passes) l ≡ Some x → find (is_sought place passes) d ≡ Some x
  sought_first h {x} f = sought_here h ∙ ap (λ (g : Option (K × V)). option_or g (cond (passes e) (Some e) (find (is_sought place passes) r))) f

  pub sought_entry : place e.0 ≡ Equal → find (is_sought place passes) l ≡ None → passes e ≡ true → find (is_sought place passes) d ≡ Some e
  sought_entry h f b = sought_here h ∙ ap (λ (g : Option (K × V)). option_or g (cond (passes e) (Some e) (find (is_sought place passes) r))) f ∙ ap (λ b. cond b (Some e) (find (is_sought place passes) r)) b

  pub sought_later : place e.0 ≡ Equal → find (is_sought place passes) l ≡ None → passes e ≡ false → find (is_sought place passes) d ≡ find (is_sought place passes) r
  sought_later h f b = sought_here h ∙ ap (λ (g : Option (K × V)). option_or g (cond (passes e) (Some e) (find (is_sought place passes) r))) f ∙ ap (λ b. cond b (Some e) (find (is_sought place passes) r)) b

pub or_some : {X : Type 0} (f : Option X) (x : X) (b : Option X) → option_or (option_or f (Some x)) b ≡ option_or f (Some x)
or_some None x b = refl
or_some (Some y) x b = refl

-- ---- at a node

pub either : {P : Type 0} → P ⊎ P → P
either (inl h) = h
either (inr h) = h

pub is_ok_from : {T E : Type 0} {r : Result T E} {x : T} → r ≡ Ok x → IsOk r
is_ok_from {T} {E} {r} {x} e = subst (λ (q : Result T E). IsOk q) (sym e) refl

-- The entries d are those of the node, which are in order.
pub record IsAt {K V : Type 0} (R : K → K → Ordering) (d : List (K × V)) (n : Node K V) : Type 0 where
  pub is : d ≡ n.left ++ n.entry ∷ n.right
  pub sides : Sides R n.left n.entry n.right

pub at_node : {K V : Type 0} (R : K → K → Ordering) {o : Option (Arc (Node K V) Global)} {a : Arc (Node K V) Global} {n : Node K V} {d : List (K × V)} → entries_at o ≡ d → o ≡ Some a → n ≡ a.value → IsOrdered R d → IsAt R d n
at_node R {o} {a} {n} {d} seen link is s =
    let e : d ≡ entries n = sym seen ∙ ap entries_at link ∙ ap entries (sym is) in
    record { is = e; sides = sides R n.left n.entry n.right (subst (IsOrdered R) e s) }

pub left_shorter : {X : Type 0} (l : List X) (e : X) (r : List X) {d : List X} → d ≡ l ++ e ∷ r → length l < length d
left_shorter l e r is = rw is (omega (arith, length-append l (e ∷ r)))

pub right_shorter : {X : Type 0} (l : List X) (e : X) (r : List X) {d : List X} → d ≡ l ++ e ∷ r → length r < length d
right_shorter l e r is = rw is (omega (arith, length-append l (e ∷ r)))

pub popped : {X : Type 0} {right rest : List X} (o : Option X) {x : X} → right ≡ option_to_list o ++ rest → o ≡ Some x → right ≡ x ∷ rest
popped {X} {right} {rest} o is some = is ∙ ap (λ (p : Option X). option_to_list p ++ rest) some

pub none_popped : {X : Type 0} {left right rest : List X} (o : Option X) → right ≡ option_to_list o ++ rest → (o ≡ None → rest ≡ []) → o ≡ None → left ≡ left ++ right
none_popped {X} {left} {right} {rest} o is empty none =
    let e : right ≡ [] = is ∙ ap (λ (p : Option X). option_to_list p ++ rest) none ∙ empty none in
    rw e (sym (append-nil left))
