-- What a cursor has still to give, along its way.
use Rattle.std.proofs.lemmas.Bool.{true≢false}
use Rattle.std.proofs.Common.{◌≡◌, ap, refl, sym, ◌∙◌, subst, List, [], ◌∷◌, ◌++◌, append_assoc, append-nil, Bool, true, false, cond, find, filter, Option, Some, None}
use Rattle.std.proofs.lemmas.Cmp.{tied_itself}
use Rattle.std.specs.Borrow.{Bor}
use Rattle.std.specs.Cmp.{IsTotalOrder}
use Rattle.std.specs.List.{AllByRecursion}
use Rattle.std.specs.List.Sorted.{IsStrictlySortedBy}
use Rattle.std.specs.Ordering.{is_lt}
use Rattle.std.specs.declared.cmp.Ordering.{Ordering}
use Rattle.std.specs.declared.cmp.Ordering.TheVariants.{Less, Equal, Greater}
use Rattle.base_tree.specs.declared.branch.Node.{Node}
use Rattle.base_tree.specs.Orders.{IsOrdered, is_reached}
use Rattle.base_tree.specs.Rests.{pending, pending_of, IsOrderedAt, IsPath, rest_of}
use Rattle.base_tree.proofs.Sides.{Sides, sides, all_weaker}
use Rattle.base_tree.proofs.Changes.{IsAt, filter_all, filter_both, not_reached}

pub filter_none : {X : Type 0} (p : X → Bool) (l : List X) → AllByRecursion (λ x. p x ≡ false) l → filter p l ≡ []
filter_none p [] a = refl
filter_none p (x ∷ l) a = rw a.0 (filter_none p l a.1)

found_passes : {X : Type 0} (p : X → Bool) (l : List X) {e : X} → find p l ≡ Some e → p e ≡ true
found_passes p [] h = cc
found_passes {X} p (x ∷ l) {e} h = by (p x) refl h (found_passes p l)
  where
    by : (b : Bool) → p x ≡ b → cond b (Some x) (find p l) ≡ Some e → (find p l ≡ Some e → p e ≡ true) → p e ≡ true
    by true q h k = let same : x ≡ e = cc in subst (λ y. p y ≡ true) same q
    by false q h k = k h

pub none_passes : {X : Type 0} (p : X → Bool) (l : List X) → find p l ≡ None → [] ≡ filter p l
none_passes p [] h = refl
none_passes {X} p (x ∷ l) h = by (p x) h (none_passes p l)
  where
    by : (b : Bool) → cond b (Some x) (find p l) ≡ None → (find p l ≡ None → [] ≡ filter p l) → [] ≡ cond b (x ∷ filter p l) (filter p l)
    by true h k = cc
    by false h k = k h

module _ {K : Type 0} {R : K → K → Ordering} (p : K → Bool) (rises : (x y : K) → R x y ≡ Less → p x ≡ true → p y ≡ true) where
  not_above : (e x : K) → p e ≡ true → p x ≡ false → is_lt (R e x) ≡ false
  not_above e x h n = by (R e x) refl
    where
      by : (a : Ordering) → R e x ≡ a → is_lt a ≡ false
      by Less i = absurd (true≢false (sym (rises e x i h) ∙ n))
      by Equal i = refl
      by Greater i = refl

module _ {K V : Type 0} {R : K → K → Ordering} (o : IsTotalOrder R) (p : K → Bool) (rises : (x y : K) → R x y ≡ Less → p x ≡ true → p y ≡ true) where
  -- The keys of all that follow an entry in order come after its key.
  follows : (x : K × V) (d : List (K × V)) → IsOrdered R (x ∷ d) → AllByRecursion (λ (y : K × V). R x.0 y.0 ≡ Less) d
  follows x d s = (sides R [] x d s).above

  here : (x : K × V) (d : List (K × V)) → IsOrdered R (x ∷ d) → p x.0 ≡ true → filter (λ (y : K × V). is_lt (R x.0 y.0)) (x ∷ d) ≡ filter (is_reached p) d
  here x d s h =
      let up = follows x d s in
      ap (λ b. cond b (x ∷ filter (λ (y : K × V). is_lt (R x.0 y.0)) d) (filter (λ (y : K × V). is_lt (R x.0 y.0)) d)) (ap is_lt (tied_itself o x.0))
      ∙ filter_all (λ (y : K × V). is_lt (R x.0 y.0)) d (all_weaker _ _ (λ y b. ap is_lt b) d up)
      ∙ sym (filter_all (is_reached p) d (all_weaker _ _ (λ y b. rises x.0 y.0 b h) d up))

  -- What is reached is the first that is, and all above it.
  pub from_found : (d : List (K × V)) {e : K × V} → IsOrdered R d → find (is_reached p) d ≡ Some e → e ∷ filter (λ (y : K × V). is_lt (R e.0 y.0)) d ≡ filter (is_reached p) d
  unfolding IsStrictlySortedBy
  from_found [] s h = cc
  from_found (x ∷ d) {e} s h = by (p x.0) refl h (from_found d s.1)
    where
      by : (b : Bool) → p x.0 ≡ b → cond b (Some x) (find (is_reached p) d) ≡ Some e
          → (find (is_reached p) d ≡ Some e → e ∷ filter (λ (y : K × V). is_lt (R e.0 y.0)) d ≡ filter (is_reached p) d)
          → e ∷ filter (λ (y : K × V). is_lt (R e.0 y.0)) (x ∷ d) ≡ cond b (x ∷ filter (is_reached p) d) (filter (is_reached p) d)
      by true q h k =
          let same : x ≡ e = cc in
          subst (λ (f : K × V). f ∷ filter (λ (y : K × V). is_lt (R f.0 y.0)) (x ∷ d) ≡ x ∷ filter (is_reached p) d) same (ap (λ t. x ∷ t) (here x d s q))
      by false q h k =
          ap (λ b. e ∷ cond b (x ∷ filter (λ (y : K × V). is_lt (R e.0 y.0)) d) (filter (λ (y : K × V). is_lt (R e.0 y.0)) d))
          (not_above p rises e.0 x.0 (found_passes (is_reached p) d h) q)
          ∙ k h

module _ {K V : Type 0} {R : K → K → Ordering} (p : K → Bool) (rises : (x y : K) → R x y ≡ Less → p x ≡ true → p y ≡ true) {d l : List (K × V)} {e : K × V} {r : List (K × V)} (is : d ≡ l ++ e ∷ r) (s : Sides R l e r) where
  -- The entry is reached, and so are all after it.
  pub reached_left : p e.0 ≡ true → filter (is_reached p) d ≡ filter (is_reached p) l ++ e ∷ r
  reached_left h =
      rw is (filter_both (is_reached p) l (e ∷ r) ∙ rw h (ap (λ t. filter (is_reached p) l ++ e ∷ t) (filter_all (is_reached p) r (all_weaker _ _ (λ x b. rises e.0 x.0 b h) r s.above))))

  -- The entry is not, and nothing before it.
  pub reached_right : p e.0 ≡ false → filter (is_reached p) d ≡ filter (is_reached p) r
  reached_right h =
      rw is (filter_both (is_reached p) l (e ∷ r) ∙ rw h (ap (λ t. t ++ filter (is_reached p) r) (filter_none (is_reached p) l (all_weaker _ _ (λ x b. not_reached p rises x.0 e.0 b h) l s.below))))

-- ---- paths

module _ {K V : Type 0} where
  pub pending_more : (os : List (Option (Bor (Node K V)))) (o : Option (Bor (Node K V))) → pending (os ++ o ∷ []) ≡ pending_of o ++ pending os
  pending_more [] o = sym (append-nil (pending_of o))
  pending_more (x ∷ os) o = ap (λ t. t ++ pending_of x) (pending_more os o) ∙ append_assoc (pending_of o) (pending os) (pending_of x)

  pub path_more : (R : K → K → Ordering) (os : List (Option (Bor (Node K V)))) (o : Option (Bor (Node K V))) → IsPath R os → IsOrderedAt R o → IsPath R (os ++ o ∷ [])
  path_more R [] o a b = (b, tt)
  path_more R (x ∷ os) o a b = (a.0, path_more R os o a.1 b)

  pub path_less : (R : K → K → Ordering) (os : List (Option (Bor (Node K V)))) (o : Option (Bor (Node K V))) → IsPath R (os ++ o ∷ []) → IsPath R os × IsOrderedAt R o
  path_less R [] o a = (tt, a.0)
  path_less R (x ∷ os) o a = let b = path_less R os o a.1 in ((a.0, b.0), b.1)

-- ---- steps

all_pass : {X : Type 0} (l : List X) → filter (λ _. true) l ≡ l
all_pass [] = refl
all_pass (x ∷ l) = ap (λ t. x ∷ t) (all_pass l)

module _ {K V : Type 0} (R : K → K → Ordering) {deep : Option (Bor (List (K × V)) × Bor (K × V))} (below : Option (Bor (List (K × V)) × Bor (K × V))) {d : List (K × V)} {items : List (Option (Bor (Node K V)))} {o : Option (Bor (Node K V))} (rest after : List (Option (Bor (Node K V)))) where
  -- The last node of the path comes next, and then the path with what is at its right.
  pub stepped : (n : Bor (Node K V)) → rest_of R deep ++ pending items ≡ d → deep ≡ None → items ≡ rest ++ o ∷ [] → o ≡ Some n → rest_of R below ++ pending after ≡ filter (λ _. true) n.now.right ++ pending rest
      → d ≡ n.now.entry ∷ (rest_of R below ++ pending after)
  stepped n seen none popped there went =
      sym seen ∙ ap (λ x. rest_of R x ++ pending items) none ∙ ap pending popped ∙ pending_more rest o ∙ ap (λ x. pending_of x ++ pending rest) there
      ∙ ap (λ t. n.now.entry ∷ t) (sym (went ∙ ap (λ t. t ++ pending rest) (all_pass n.now.right)))

-- A path has no place without a node.
pub no_gap : {K V : Type 0} (R : K → K → Ordering) {items : List (Option (Bor (Node K V)))} {o : Option (Bor (Node K V))} (rest : List (Option (Bor (Node K V)))) → IsPath R items → items ≡ rest ++ o ∷ [] → o ≡ None → ⊥
no_gap R {items} {o} rest path popped none = subst (IsOrderedAt R) none (path_less R rest o (subst (IsPath R) popped path)).1

module _ {K V : Type 0} {R : K → K → Ordering} (p : K → Bool) (rises : (x y : K) → R x y ≡ Less → p x ≡ true → p y ≡ true) {d w : List (K × V)} (os : List (Option (Bor (Node K V)))) where
  pub went_left : {after : List (Option (Bor (Node K V)))} (n : Bor (Node K V)) → IsAt R d n.now → filter (is_reached p) d ++ pending os ≡ w → after ≡ os ++ Some n ∷ [] → p n.now.entry.0 ≡ true → filter (is_reached p) n.now.left ++ pending after ≡ w
  went_left n a seen pushed h =
      ap (λ x. filter (is_reached p) n.now.left ++ pending x) pushed ∙ ap (λ t. filter (is_reached p) n.now.left ++ t) (pending_more os (Some n))
      ∙ sym (append_assoc (filter (is_reached p) n.now.left) (n.now.entry ∷ n.now.right) (pending os))
      ∙ ap (λ t. t ++ pending os) (sym (reached_left p rises a.is a.sides h)) ∙ seen

  pub went_right : (n : Node K V) → IsAt R d n → filter (is_reached p) d ++ pending os ≡ w → p n.entry.0 ≡ false → filter (is_reached p) n.right ++ pending os ≡ w
  went_right n a seen h = ap (λ t. t ++ pending os) (sym (reached_right p rises a.is a.sides h)) ∙ seen

pub path_pushed : {K V : Type 0} {R : K → K → Ordering} {d : List (K × V)} (os : List (Option (Bor (Node K V)))) {after : List (Option (Bor (Node K V)))} (n : Bor (Node K V)) → IsAt R d n.now → IsPath R os → after ≡ os ++ Some n ∷ [] → IsPath R after
path_pushed {R = R} os n a path pushed = subst (IsPath R) (sym pushed) (path_more R os (Some n) path a.sides.right)
