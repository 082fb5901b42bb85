-- Maps from nulls to the first places at which they stand in a list.
use Rattle.std.proofs.Common.{◌≡◌, ◌∙◌, ap, refl, sym, ℕ, suc, ◌<◌, ◌==◌, Bool, true, false, if◌then◌else◌, cond, List, [], ◌∷◌, ◌++◌, length, map, find, Option, Some, None, is_some, arith}
use Rattle.std.specs.Option.{option_map, option_and_then}
use Rattle.std.specs.List.{slice_get}
use Rattle.std.specs.Cmp.{Equal-is}
use Rattle.std.specs.Map.{lookup}
use Rattle.std.specs.Ordering.{is_eq, on}
use Rattle.std.specs.BTreeMap.{BTreeMap, Updates, IsUnchanged}
use Rattle.std.proofs.lemmas.Bool.{ne_eqb}
use Rattle.def_chase.specs.Values.{NullName, null_cmp}
use Rattle.def_chase.proofs.Order.{null_exact}
use Rattle.base_types.specs.Meanings.{null_of}
use Rattle.base_types.specs.declared.nulls.Null.{Null}
use Rattle.ws_names.specs.Firsts.{first_place, or_place, is_place, without_place, is_same, place_in, NotesFirst, ForgetsFirst, AreSameFirsts, IsIndexOf}

is_itself : (n : ℕ) → (n == n) ≡ true
is_itself n = grind arith

-- ---- places in a list

module _ {A : Type 0} (p : A → Bool) where
  -- The item at the first place is the first that passes.
  pub at_first : (xs : List A) → option_and_then (slice_get xs) (first_place p xs) ≡ find p xs
  at_first [] = refl
  at_first (x ∷ xs) = by (p x) (at_first xs)
    where
      later : (o : Option ℕ) → option_and_then (slice_get (x ∷ xs)) (option_map suc o) ≡ option_and_then (slice_get xs) o
      later None = refl
      later (Some i) = refl

      by : (b : Bool) → option_and_then (slice_get xs) (first_place p xs) ≡ find p xs
          → option_and_then (slice_get (x ∷ xs)) (if b then Some 0 else option_map suc (first_place p xs)) ≡ cond b (Some x) (find p xs)
      by true e = refl
      by false e = later (first_place p xs) ∙ e

  -- One item more.
  pub pushed : (xs : List A) (x : A) → first_place p (xs ++ x ∷ []) ≡ or_place (first_place p xs) (if p x then Some (length xs) else None)
  pushed [] x = by (p x)
    where
      by : (b : Bool) → (if b then Some 0 else option_map suc None) ≡ (if b then Some 0 else None)
      by true = refl
      by false = refl
  pushed (y ∷ ys) x = by (p y) (pushed ys x)
    where
      one : (o : Option ℕ) (c : Bool) → option_map suc (or_place o (if c then Some (length ys) else None)) ≡ or_place (option_map suc o) (if c then Some (suc (length ys)) else None)
      one None true = refl
      one None false = refl
      one (Some i) c = refl

      by : (b : Bool) → first_place p (ys ++ x ∷ []) ≡ or_place (first_place p ys) (if p x then Some (length ys) else None)
          → (if b then Some 0 else option_map suc (first_place p (ys ++ x ∷ [])))
          ≡ or_place (if b then Some 0 else option_map suc (first_place p ys)) (if p x then Some (suc (length ys)) else None)
      by true e = refl
      by false e = ap (option_map suc) e ∙ one (first_place p ys) (p x)

  -- A place is within the list.
  abbrev is_within : ℕ → Option ℕ → Type 0
  is_within n None = Unit {0}
  is_within n (Some i) = i < n

  within : (xs : List A) → is_within (length xs) (first_place p xs)
  within [] = tt
  within (x ∷ xs) = by (p x) (first_place p xs) (within xs)
    where
      by : (b : Bool) (o : Option ℕ) → is_within (length xs) o → is_within (suc (length xs)) (if b then Some 0 else option_map suc o)
      by true o h = omega arith
      by false None h = tt
      by false (Some i) h = omega (arith, h)

  -- The last item is taken away, which passes or not.
  pub popped : (xs : List A) (x : A) → p x ≡ true → without_place (length xs) (first_place p (xs ++ x ∷ [])) ≡ first_place p xs
  popped xs x e =
      ap (without_place (length xs)) (pushed xs x ∙ ap (λ (b : Bool). or_place (first_place p xs) (if b then Some (length xs) else None)) e)
      ∙ by (first_place p xs) (within xs)
    where
      by : (o : Option ℕ) → is_within (length xs) o → without_place (length xs) (or_place o (Some (length xs))) ≡ o
      by None h = ap (λ (b : Bool). if b then None else Some (length xs)) (is_itself (length xs))
      by (Some i) h = ap (λ (b : Bool). if b then None else Some i) (ne_eqb i (length xs) (λ e. absurd (omega (arith, h, e))))

  pub kept : (xs : List A) (x : A) → p x ≡ false → first_place p (xs ++ x ∷ []) ≡ first_place p xs
  kept xs x e = pushed xs x ∙ ap (λ (b : Bool). or_place (first_place p xs) (if b then Some (length xs) else None)) e ∙ by (first_place p xs)
    where
      by : (o : Option ℕ) → or_place o None ≡ o
      by None = refl
      by (Some i) = refl

-- ---- places in a map

-- Nulls that are the same have the same place.
same_place : (m : BTreeMap Null ℕ) (k q : Null) → is_same k q ≡ true → place_in m q ≡ place_in m k
same_place m k q e =
    ap (λ (n : NullName). lookup (λ (x : Null). is_eq (null_cmp n (null_of x))) m.entries)
    (sym (null_exact (null_of k) (null_of q) ((Equal-is (null_cmp (null_of k) (null_of q))).0 e)))

-- It had a place.
pub noted_there : (m : BTreeMap Null ℕ) (k : Null) (i : ℕ) → is_some (place_in m k) ≡ true → NotesFirst k i m m
noted_there m k i h q = by (is_same k q) refl (place_in m q) refl
  where
    by : (b : Bool) → is_same k q ≡ b → (o : Option ℕ) → place_in m q ≡ o → o ≡ or_place o (if b then Some i else None)
    by true e None f = let never : false ≡ true = ap is_some (sym f ∙ same_place m k q e) ∙ h in cc
    by true e (Some j) f = refl
    by false e None f = refl
    by false e (Some j) f = refl

-- It had none.
pub noted : (m n : BTreeMap Null ℕ) (k : Null) (i : ℕ) → is_some (place_in m k) ≡ false → Updates (on null_of null_cmp) m n k (Some i) → NotesFirst k i m n
noted m n k i h u q = u.0 q ∙ by (is_same k q) refl (place_in m q) refl
  where
    by : (b : Bool) → is_same k q ≡ b → (o : Option ℕ) → place_in m q ≡ o → cond b (Some i) o ≡ or_place o (if b then Some i else None)
    by true e None f = refl
    by true e (Some j) f = let never : true ≡ false = ap is_some (sym f ∙ same_place m k q e) ∙ h in cc
    by false e None f = refl
    by false e (Some j) f = refl

pub unchanged : (m n : BTreeMap Null ℕ) → IsUnchanged m n → AreSameFirsts m n
unchanged m n e q = ap (lookup (λ (x : Null). is_eq (null_cmp (null_of q) (null_of x)))) e

-- It had this place,
pub forgot : (m n : BTreeMap Null ℕ) (k : Null) (i : ℕ) → is_place i (place_in m k) ≡ true → Updates (on null_of null_cmp) m n k None → ForgetsFirst k i m n
forgot m n k i h u q = u.0 q ∙ by (is_same k q) refl (place_in m q) refl
  where
    by : (b : Bool) → is_same k q ≡ b → (o : Option ℕ) → place_in m q ≡ o → cond b None o ≡ (if b then without_place i o else o)
    by true e o f = sym (ap (λ (c : Bool). if c then None else o) (ap (is_place i) (sym f ∙ same_place m k q e) ∙ h))
    by false e o f = refl

-- or another one, or none.
pub forgot_not : (m : BTreeMap Null ℕ) (k : Null) (i : ℕ) → is_place i (place_in m k) ≡ false → ForgetsFirst k i m m
forgot_not m k i h q = by (is_same k q) refl (place_in m q) refl
  where
    by : (b : Bool) → is_same k q ≡ b → (o : Option ℕ) → place_in m q ≡ o → o ≡ (if b then without_place i o else o)
    by true e o f = sym (ap (λ (c : Bool). if c then None else o) (ap (is_place i) (sym f ∙ same_place m k q e) ∙ h))
    by false e o f = refl

-- ---- indexes

module _ {A : Type 0} (key : A → Null) where
  -- One item more.
  pub added : (xs : List A) (x : A) (m n : BTreeMap Null ℕ) → IsIndexOf key xs m → NotesFirst (key x) (length xs) m n → IsIndexOf key (xs ++ x ∷ []) n
  added xs x m n h t q =
      t q
      ∙ ap (λ (o : Option ℕ). or_place o (if is_same (key x) q then Some (length xs) else None)) (h q)
      ∙ sym (pushed (λ (y : A). is_same (key y) q) xs x)

  -- One item less.
  pub taken_out : (xs : List A) (x : A) (m n : BTreeMap Null ℕ) → IsIndexOf key (xs ++ x ∷ []) m → ForgetsFirst (key x) (length xs) m n → IsIndexOf key xs n
  taken_out xs x m n h f q = f q ∙ by (is_same (key x) q) refl
    where
      by : (b : Bool) → is_same (key x) q ≡ b → (if b then without_place (length xs) (place_in m q) else place_in m q) ≡ first_place (λ (y : A). is_same (key y) q) xs
      by true e = ap (without_place (length xs)) (h q) ∙ popped (λ (y : A). is_same (key y) q) xs x e
      by false e = h q ∙ kept (λ (y : A). is_same (key y) q) xs x e

  -- An item that was noted and forgotten.
  pub undone : (xs : List A) (x : A) (m n o : BTreeMap Null ℕ) → IsIndexOf key xs m → NotesFirst (key x) (length xs) m n → ForgetsFirst (key x) (length xs) n o → IsIndexOf key xs o
  undone xs x m n o h t f = taken_out xs x n o (added xs x m n h t) f

  pub same_index : (xs : List A) (m n : BTreeMap Null ℕ) → IsIndexOf key xs m → AreSameFirsts m n → IsIndexOf key xs n
  same_index xs m n h s q = s q ∙ h q

  -- The item at the place that the map has is the first with this key.
  pub found_at : (xs : List A) (m : BTreeMap Null ℕ) → IsIndexOf key xs m → (q : Null) → option_and_then (slice_get xs) (place_in m q) ≡ find (λ (x : A). is_same (key x) q) xs
  found_at xs m h q = ap (option_and_then (slice_get xs)) (h q) ∙ at_first (λ (x : A). is_same (key x) q) xs

-- The first item that passes, seen through a function.
pub found_under : {A B : Type 0} (f : A → B) (p : B → Bool) (xs : List A) → option_map f (find (λ (x : A). p (f x)) xs) ≡ find p (map f xs)
found_under f p [] = refl
found_under f p (x ∷ xs) = by (p (f x)) (found_under f p xs)
  where
    by : (b : Bool) → option_map f (find (λ y. p (f y)) xs) ≡ find p (map f xs) → option_map f (cond b (Some x) (find (λ y. p (f y)) xs)) ≡ cond b (Some (f x)) (find p (map f xs))
    by true e = refl
    by false e = e
