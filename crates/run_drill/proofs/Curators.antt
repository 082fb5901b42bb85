-- Names that are all among a list are no more than that list when each is taken once.
use Rattle.std.proofs.Common.{◌≡◌, ◌∙◌, ap, refl, sym, subst, ℕ, zero, suc, ◌+◌, ◌<◌, ◌≤◌, ◌-◌, ◌%◌, Bool, true, false, ◌||◌, List, [], ◌∷◌, ◌++◌, length, map, arith}
use Rattle.std.specs.Prelude.{if◌then◌else◌, fold}
use Rattle.std.specs.Fmt.{decimal}
use Rattle.std.specs.List.{AllByRecursion}
use Rattle.std.proofs.lemmas.List.{length-append}
use Rattle.std.proofs.lemmas.Nat.{mod_below}
use Rattle.def_language.specs.Names.{Name, same_name, is_one_of, with_new, firsts}
use Rattle.def_language.specs.Sessions.{SessionUpdate, curators}
use Rattle.run_drill.proofs.Names.{same_itself, same_is}
use Rattle.run_drill.specs.Drilled.{after_update, updates_from}

-- How many of those are not seen yet.
abbrev unseen : List Name → List Name → ℕ
unseen [] seen = 0
unseen (k ∷ ks) seen = if is_one_of seen k then unseen ks seen else suc (unseen ks seen)

seen_after : (seen : List Name) (m x : Name) → is_one_of (seen ++ x ∷ []) m ≡ (is_one_of seen m || same_name m x)
seen_after [] m x = by (same_name m x)
  where
    by : (b : Bool) → (b || false) ≡ (false || b)
    by true = refl
    by false = refl
seen_after (y ∷ seen) m x = ap (λ b. same_name m y || b) (seen_after seen m x) ∙ by (same_name m y) (is_one_of seen m) (same_name m x)
  where
    by : (a b c : Bool) → (a || (b || c)) ≡ ((a || b) || c)
    by true b c = refl
    by false b c = refl

-- One more that is seen leaves no more unseen.
fewer : (ks seen : List Name) (x : Name) → unseen ks (seen ++ x ∷ []) ≤ unseen ks seen
fewer [] seen x = omega arith
fewer (k ∷ ks) seen x =
    subst (λ b. (if b then unseen ks (seen ++ x ∷ []) else suc (unseen ks (seen ++ x ∷ []))) ≤ (if is_one_of seen k then unseen ks seen else suc (unseen ks seen)))
    (sym (seen_after seen k x)) (by (is_one_of seen k) (same_name k x) (fewer ks seen x))
  where
    by : (a b : Bool) → unseen ks (seen ++ x ∷ []) ≤ unseen ks seen → (if a || b then unseen ks (seen ++ x ∷ []) else suc (unseen ks (seen ++ x ∷ []))) ≤ (if a then unseen ks seen else suc (unseen ks seen))
    by true b less = less
    by false true less = omega (arith, less)
    by false false less = omega (arith, less)

-- One of them that was not seen leaves one fewer.
one_fewer : (ks seen : List Name) (x : Name) → is_one_of ks x ≡ true → is_one_of seen x ≡ false → unseen ks (seen ++ x ∷ []) + 1 ≤ unseen ks seen
one_fewer [] seen x e f = absurd (Rattle.std.proofs.lemmas.Bool.false≢true e)
one_fewer (k ∷ ks) seen x e f =
    subst (λ b. (if b then unseen ks (seen ++ x ∷ []) else suc (unseen ks (seen ++ x ∷ []))) + 1 ≤ (if is_one_of seen k then unseen ks seen else suc (unseen ks seen)))
    (sym (seen_after seen k x)) (by (same_name x k) refl (λ g. one_fewer ks seen x g f) e)
  where
    less : unseen ks (seen ++ x ∷ []) ≤ unseen ks seen
    less = fewer ks seen x

    here : x ≡ k → (if is_one_of seen k || same_name k x then unseen ks (seen ++ x ∷ []) else suc (unseen ks (seen ++ x ∷ []))) + 1 ≤ (if is_one_of seen k then unseen ks seen else suc (unseen ks seen))
    here same =
        subst (λ b. (if b || same_name k x then unseen ks (seen ++ x ∷ []) else suc (unseen ks (seen ++ x ∷ []))) + 1 ≤ (if b then unseen ks seen else suc (unseen ks seen)))
        (sym (ap (is_one_of seen) (sym same) ∙ f))
        (subst (λ b. (if b then unseen ks (seen ++ x ∷ []) else suc (unseen ks (seen ++ x ∷ []))) + 1 ≤ suc (unseen ks seen)) (sym (ap (same_name k) same ∙ same_itself k)) (omega (arith, less)))

    there : unseen ks (seen ++ x ∷ []) + 1 ≤ unseen ks seen → (a b : Bool) → (if a || b then unseen ks (seen ++ x ∷ []) else suc (unseen ks (seen ++ x ∷ []))) + 1 ≤ (if a then unseen ks seen else suc (unseen ks seen))
    there rest true b = rest
    there rest false true = omega (arith, less)
    there rest false false = omega (arith, rest)

    by : (b : Bool) → same_name x k ≡ b → (is_one_of ks x ≡ true → unseen ks (seen ++ x ∷ []) + 1 ≤ unseen ks seen) → (b || is_one_of ks x) ≡ true → (if is_one_of seen k || same_name k x then unseen ks (seen ++ x ∷ []) else suc (unseen ks (seen ++ x ∷ []))) + 1 ≤ (if is_one_of seen k then unseen ks seen else suc (unseen ks seen))
    by true s rest g = here (same_is x k s)
    by false s rest g = there (rest g) (is_one_of seen k) (same_name k x)

unseen_most : (ks : List Name) → unseen ks [] ≤ length ks
unseen_most [] = omega arith
unseen_most (k ∷ ks) = let rec : unseen ks [] ≤ length ks = unseen_most ks in omega (arith, rec)

taken_once : (ks xs seen : List Name) → AllByRecursion (λ x. is_one_of ks x ≡ true) xs → length (fold (with_new same_name) seen xs) ≤ length seen + unseen ks seen
taken_once ks [] seen all = omega arith
taken_once ks (x ∷ xs) seen all = by (is_one_of seen x) refl (taken_once ks xs seen all.1) (taken_once ks xs (seen ++ x ∷ []) all.1)
  where
    by : (b : Bool) → is_one_of seen x ≡ b → length (fold (with_new same_name) seen xs) ≤ length seen + unseen ks seen
        → length (fold (with_new same_name) (seen ++ x ∷ []) xs) ≤ length (seen ++ x ∷ []) + unseen ks (seen ++ x ∷ []) → length (fold (with_new same_name) (if b then seen else seen ++ x ∷ []) xs) ≤ length seen + unseen ks seen
    by true e old new = old
    by false e old new =
        let less : unseen ks (seen ++ x ∷ []) + 1 ≤ unseen ks seen = one_fewer ks seen x all.0 e in
        omega (arith, new, less, length-append seen (x ∷ []))

pub at_most : (ks xs : List Name) → AllByRecursion (λ x. is_one_of ks x ≡ true) xs → length (firsts same_name xs) ≤ length ks
at_most ks xs all = let most : unseen ks [] ≤ length ks = unseen_most ks in let once : length (firsts same_name xs) ≤ 0 + unseen ks [] = taken_once ks xs [] all in omega (arith, most, once)

-- ---- the twelve curators

abbrev called : ℕ → Name
called k = Rattle.std.specs.Prelude.codes "c" ++ decimal k

abbrev up_to : ℕ → List Name
up_to zero = []
up_to (suc k) = called k ∷ up_to k

among : (m k : ℕ) → k < m → is_one_of (up_to m) (called k) ≡ true
among zero k few = absurd (omega (arith, few))
among (suc m) k few = by (same_name (called k) (called m)) refl (among m k)
  where
    apart : same_name (called k) (called m) ≡ false → k ≡ m → ⊥
    apart e same = Rattle.std.proofs.lemmas.Bool.false≢true (sym e ∙ (ap (λ j. same_name (called j) (called m)) same ∙ same_itself (called m)))

    below : (k ≡ m → ⊥) → k < m
    below f = omega (arith, few, f)

    by : (b : Bool) → same_name (called k) (called m) ≡ b → (k < m → is_one_of (up_to m) (called k) ≡ true) → (b || is_one_of (up_to m) (called k)) ≡ true
    by true e rest = refl
    by false e rest = rest (below (apart e))

up_to_count : (m : ℕ) → length (up_to m) ≡ m
up_to_count zero = refl
up_to_count (suc m) = ap suc (up_to_count m)

all_called : (k n x : ℕ) → AllByRecursion (λ c. is_one_of (up_to 12) c ≡ true) (map (λ (u : SessionUpdate). u.curator) (updates_from n k x))
all_called zero n x = tt
all_called (suc k) n x = (among 12 ((n - 1) % 12) (mod_below (n - 1) 12 (omega arith)), all_called k (n + 1) (after_update x))

pub few_curators : (k n x : ℕ) → length (curators (updates_from n k x)) ≤ 64
few_curators k n x =
    let most : length (curators (updates_from n k x)) ≤ length (up_to 12) = at_most (up_to 12) (map (λ (u : SessionUpdate). u.curator) (updates_from n k x)) (all_called k n x) in
    omega (arith, most, up_to_count 12)
