-- A batch, and what is found of a list in order on the sides of an entry.
use Rattle.std.proofs.Common.{◌≡◌, ◌≤◌, ◌-◌, ℕ, zero, suc, ap, refl, sym, ◌∙◌, subst, arith, length-append, append_assoc, append-nil, List, [], ◌∷◌, ◌++◌, length, map, take, Bool, true, false, ◌&&◌, cond, filter}
use Rattle.std.proofs.lemmas.Bool.{true≢false, eqb-true}
use Rattle.std.specs.Bool.{◌==◌}
use Rattle.std.specs.List.{AllByRecursion}
use Rattle.std.specs.Ordering.{is_eq, is_lt, is_gt}
use Rattle.std.specs.declared.cmp.Ordering.{Ordering}
use Rattle.std.specs.declared.cmp.Ordering.TheVariants.{Less, Equal, Greater}
use Rattle.base_tree.specs.declared.bounds.Bounds.{Bounds}
use Rattle.base_tree.specs.Orders.{is_sought}
use Rattle.base_tree.specs.Bounds.{KeepsWithin, AreWithin}
use Rattle.base_tree.specs.Few.{Batch, with_first, all_shown}
use Rattle.base_tree.proofs.Sides.{Sides, all_weaker}
use Rattle.base_tree.proofs.Changes.{filter_both, out_of}
use Rattle.base_tree.proofs.Passing.{filter_none}

-- ---- batches

less_nothing : (k : ℕ) → 0 - k ≡ 0
less_nothing k = omega (arith)

all_left : (n : ℕ) → n ≡ n - 0
all_left n = omega (arith)

module _ {T : Type 0} where
  both_taken : (r : ℕ) (xs ys : List T) → (r - length xs) - length ys ≡ r - length (xs ++ ys)
  both_taken r xs ys = omega (arith, length-append xs ys)

  pub take_both : (n : ℕ) (xs ys : List T) → take n (xs ++ ys) ≡ take n xs ++ take (n - length xs) ys
  take_both zero xs ys = sym (ap (λ n. take n ys) (less_nothing (length xs)))
  take_both (suc n) [] ys = ap (λ k. take k ys) (all_left (suc n))
  take_both (suc n) (x ∷ xs) ys = ap (λ t. x ∷ t) (take_both n xs ys) ∙ ap (λ k. (x ∷ take n xs) ++ take k ys) (one_less n (length xs))
    where
      one_less : (n k : ℕ) → n - k ≡ suc n - suc k
      one_less n k = omega (arith)

  abbrev batch : List T → ℕ → Batch T
  batch l r = record { left = l; room = r }

  same_batch : (l m : List T) (r s : ℕ) → l ≡ m → r ≡ s → batch l r ≡ batch m s
  same_batch l m r s e f = ap (λ (x : List T). batch x r) e ∙ ap (batch m) f

  pub with_both : (b : Batch T) (xs ys : List T) → with_first (with_first b xs) ys ≡ with_first b (xs ++ ys)
  with_both b xs ys =
      same_batch ((b.left ++ take b.room xs) ++ take (b.room - length xs) ys) (b.left ++ take b.room (xs ++ ys)) ((b.room - length xs) - length ys) (b.room - length (xs ++ ys))
      (append_assoc b.left (take b.room xs) (take (b.room - length xs) ys) ∙ ap (λ t. b.left ++ t) (sym (take_both b.room xs ys)))
      (both_taken b.room xs ys)

  pub with_full : (b : Batch T) (xs : List T) → b.room ≡ 0 → with_first b xs ≡ b
  with_full b xs full =
      same_batch (b.left ++ take b.room xs) b.left (b.room - length xs) b.room
      (ap (λ n. b.left ++ take n xs) full ∙ append-nil b.left)
      (ap (λ n. n - length xs) full ∙ less_nothing (length xs) ∙ sym full)

  abbrev the_nothing : List T
  the_nothing = []

  no_more : (n : ℕ) → take n [] ≡ the_nothing
  no_more zero = refl
  no_more (suc n) = refl

  pub with_nothing : (b : Batch T) → with_first b [] ≡ b
  with_nothing b = same_batch (b.left ++ take b.room []) b.left (b.room - 0) b.room (ap (λ t. b.left ++ t) (no_more b.room) ∙ append-nil b.left) (sym (all_left b.room))

-- ---- room

pub no_room : (n : ℕ) (b : Bool) → b ≡ true → b ≡ (n == 0) → n ≡ 0
no_room n b full e = eqb-true n 0 (sym e ∙ full)

pub some_room : (n : ℕ) (b : Bool) → b ≡ false → b ≡ (n == 0) → 1 ≤ n
some_room zero b room e = absurd (true≢false (sym e ∙ room))
some_room (suc n) b room e = omega (arith)

-- ---- on the sides of an entry

module _ {K V T : Type 0} {R : K → K → Ordering} (show : K × V → T) (place : K → Ordering) (passes : K × V → Bool) {d l : List (K × V)} {e : K × V} {r : List (K × V)} (is : d ≡ l ++ e ∷ r) (s : Sides R l e r) where
  pub shown_right : ((x y : K) → R x y ≡ Less → place y ≡ Less → place x ≡ Less) → place e.0 ≡ Less → all_shown show place passes d ≡ all_shown show place passes r
  shown_right before h =
      ap (map show)
      (rw is (filter_both (is_sought place passes) l (e ∷ r)
      ∙ rw h (ap (λ t. t ++ filter (is_sought place passes) r) (filter_none (is_sought place passes) l (out_of place passes Less refl l (all_weaker _ _ (λ x b. before x.0 e.0 b h) l s.below))))))

  pub shown_left : ((x y : K) → R x y ≡ Less → place x ≡ Greater → place y ≡ Greater) → place e.0 ≡ Greater → all_shown show place passes d ≡ all_shown show place passes l
  shown_left past h =
      ap (map show)
      (rw is (filter_both (is_sought place passes) l (e ∷ r)
      ∙ rw h (ap (λ t. filter (is_sought place passes) l ++ t) (filter_none (is_sought place passes) r (out_of place passes Greater refl r (all_weaker _ _ (λ x b. past e.0 x.0 b h) r s.above)))
      ∙ append-nil (filter (is_sought place passes) l))))

  pub shown_here : place e.0 ≡ Equal → all_shown show place passes d ≡ all_shown show place passes l ++ (map show (filter passes (e ∷ [])) ++ all_shown show place passes r)
  shown_here h =
      ap (all_shown show place passes) is ∙ ap (map show) (filter_both (is_sought place passes) l (e ∷ r))
      ∙ map_both (filter (is_sought place passes) l) (filter (is_sought place passes) (e ∷ r))
      ∙ ap (λ t. all_shown show place passes l ++ t) (ap (λ a. map show (cond (is_eq a && passes e) (e ∷ filter (is_sought place passes) r) (filter (is_sought place passes) r))) h ∙ by (passes e))
    where
      map_both : (xs ys : List (K × V)) → map show (xs ++ ys) ≡ map show xs ++ map show ys
      map_both [] ys = refl
      map_both (x ∷ xs) ys = ap (λ t. show x ∷ t) (map_both xs ys)

      by : (b : Bool) → map show (cond b (e ∷ filter (is_sought place passes) r) (filter (is_sought place passes) r)) ≡ map show (cond b (e ∷ []) []) ++ map show (filter (is_sought place passes) r)
      by true = refl
      by false = refl

-- ---- bounds

module _ {K V : Type 0} (P : K × V → Type 0) (e : K × V) (r : List (K × V)) where
  pub all_before : (l : List (K × V)) → AllByRecursion P (l ++ e ∷ r) → AllByRecursion P l
  all_before [] a = tt
  all_before (x ∷ l) a = (a.0, all_before l a.1)

  pub all_after : (l : List (K × V)) → AllByRecursion P (l ++ e ∷ r) → P e × AllByRecursion P r
  all_after [] a = a
  all_after (x ∷ l) a = all_after l a.1

module _ {K V : Type 0} {R : K → K → Ordering} (place : K → Ordering) (b : Bounds) {d l : List (K × V)} {e : K × V} {r : List (K × V)} (is : d ≡ l ++ e ∷ r) (s : Sides R l e r) (within : AreWithin b place d) where
  on_parts : AreWithin b place (l ++ e ∷ r)
  on_parts = subst (AreWithin b place) is within

  pub within_left : AreWithin b place l
  within_left = all_before (λ x. KeepsWithin b (place x.0)) e r l on_parts

  pub within_here : KeepsWithin b (place e.0)
  within_here = (all_after (λ x. KeepsWithin b (place x.0)) e r l on_parts).0

  pub within_right : AreWithin b place r
  within_right = (all_after (λ x. KeepsWithin b (place x.0)) e r l on_parts).1

  -- What is below an entry in the zone does not lie past it.
  pub within_below : ((x y : K) → R x y ≡ Less → place x ≡ Greater → place y ≡ Greater) → place e.0 ≡ Equal → (c : Bounds) → c.low ≡ b.low → AreWithin c place l
  within_below past h c low = both l within_left s.below
    where
      not_past : (x : K × V) → R x.0 e.0 ≡ Less → (a : Ordering) → place x.0 ≡ a → is_gt a ≡ false
      not_past x b Less i = refl
      not_past x b Equal i = refl
      not_past x b Greater i = absurd (other (sym h ∙ past x.0 e.0 b i))
        where
          other : Equal ≡ Greater → ⊥
          other q = true≢false (ap is_eq q)

      both : (m : List (K × V)) → AreWithin b place m → AllByRecursion (λ (x : K × V). R x.0 e.0 ≡ Less) m → AreWithin c place m
      both [] w u = tt
      both (x ∷ m) w u = (record { low = λ q. w.0.low (sym low ∙ q); high = λ _. not_past x u.0 (place x.0) refl }, both m w.1 u.1)

  -- What is above an entry in the zone does not lie before it.
  pub within_above : ((x y : K) → R x y ≡ Less → place y ≡ Less → place x ≡ Less) → place e.0 ≡ Equal → (c : Bounds) → c.high ≡ b.high → AreWithin c place r
  within_above before h c high = both r within_right s.above
    where
      not_before : (x : K × V) → R e.0 x.0 ≡ Less → (a : Ordering) → place x.0 ≡ a → is_lt a ≡ false
      not_before x b Less i = absurd (other (sym h ∙ before e.0 x.0 b i))
        where
          other : Equal ≡ Less → ⊥
          other q = true≢false (ap is_eq q)
      not_before x b Equal i = refl
      not_before x b Greater i = refl

      both : (m : List (K × V)) → AreWithin b place m → AllByRecursion (λ (x : K × V). R e.0 x.0 ≡ Less) m → AreWithin c place m
      both [] w u = tt
      both (x ∷ m) w u = (record { low = λ _. not_before x u.0 (place x.0) refl; high = λ q. w.0.high (sym high ∙ q) }, both m w.1 u.1)
