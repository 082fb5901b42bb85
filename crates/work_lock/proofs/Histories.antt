-- Laws of histories: prefixes, who made the entries after them, and sums over what one seat made.
use Rattle.std.proofs.Common.{◌≡◌, ◌≢◌, inl, inr, ⊎_elim, ℕ, ◌+◌, ◌<◌, List, [], ◌∷◌, ◌++◌, sym, refl, ap, ◌∙◌, arith, append_assoc, Option, Some, None, Bool, ne_eqb, if◌then◌else◌, eq-eqb, eqb, true, false, subst}
use Rattle.std.proofs.lemmas.List.{append-nil}
use mathlib.Core.List.{IsPrefix}
use Rattle.def_record.specs.declared.made.Made.{Made}
use Rattle.def_record.specs.Makers.{weight_for, Unmade, MadeBy, Follows, Extends, sum_made_by}
use Rattle.def_record.specs.Makers.{FollowsAmong}

some_number : (i j : ℕ) → Some i ≡ Some j → i ≡ j
some_number i j e = cc e

-- another seat's entry weighs nothing
weight_unmade : (j : ℕ) (maker : Option ℕ) (n : ℕ) → maker ≢ Some j → weight_for j maker n ≡ 0
weight_unmade j None n other = refl
weight_unmade j (Some i) n other = ap (λ (b : Bool). if b then n else 0) (ne_eqb i j (λ e. other (ap Some e)))

either_zero : (b : Bool) → ◌≡◌ {A = ℕ} (if b then 0 else 0) 0
either_zero true = refl
either_zero false = refl

-- a seat's own entry weighs what it weighs
pub weight_for-own : (j n : ℕ) → weight_for j (Some j) n ≡ n
weight_for-own j n = ap (λ (b : Bool). if b then n else 0) (eq-eqb j j refl)

-- what weighs nothing weighs nothing for any seat
pub weight_for-zero : (j : ℕ) (maker : Option ℕ) → weight_for j maker 0 ≡ 0
weight_for-zero j None = refl
weight_for-zero j (Some i) = either_zero (eqb i j)

module _ {E : Type 0} where
  pub unmade-append : (k : ℕ) (xs ys : List (Made E)) → Unmade k xs → Unmade k ys → Unmade k (xs ++ ys)
  unmade-append k [] ys p q = q
  unmade-append k (x ∷ xs) ys p q = (p.0, unmade-append k xs ys p.1 q)

  pub sum_made_by-append : (weight : E → ℕ) (j : ℕ) (xs ys : List (Made E)) → sum_made_by weight j (xs ++ ys) ≡ sum_made_by weight j xs + sum_made_by weight j ys
  sum_made_by-append weight j [] ys = omega arith
  sum_made_by-append weight j (x ∷ xs) ys = let t = sum_made_by-append weight j xs ys in omega arith

  sum_unmade : (weight : E → ℕ) (j : ℕ) (xs : List (Made E)) → Unmade j xs → sum_made_by weight j xs ≡ 0
  sum_unmade weight j [] h = refl
  sum_unmade weight j (x ∷ xs) h = let a = weight_unmade j x.maker (weight x.entry) h.0 in let t = sum_unmade weight j xs h.1 in omega arith

  -- what others add does not change what a seat made
  pub sum_made_by-follows : (weight : E → ℕ) (j : ℕ) (xs ys : List (Made E)) → Follows j xs ys → sum_made_by weight j ys ≡ sum_made_by weight j xs
  sum_made_by-follows weight j xs ys f =
      let all = ap (sum_made_by weight j) f.1 in
      let parts = sum_made_by-append weight j xs f.0 in
      let none = sum_unmade weight j f.0 f.2 in
      omega arith

  -- What a seat's own entries weigh over one turn: the others' change nothing, and its own change it by f, from `open` (ys) to `close_turn` (zs).
  pub sum_made_by-turn : (weight : E → ℕ) (f : ℕ → ℕ) (j now later : ℕ) (xs ys zs after : List (Made E)) → now ≡ j → later ≡ j → Follows j xs ys
      → sum_made_by weight now zs ≡ f (sum_made_by weight now ys) → after ≡ zs → sum_made_by weight later after ≡ f (sum_made_by weight j xs)
  sum_made_by-turn weight f j now later xs ys zs after a b follows change seen =
      let here : sum_made_by weight j zs ≡ f (sum_made_by weight j ys) = subst (λ (i : ℕ). sum_made_by weight i zs ≡ f (sum_made_by weight i ys)) a change in
      subst (λ (i : ℕ). sum_made_by weight i after ≡ f (sum_made_by weight j xs)) (sym b)
      (ap (sum_made_by weight j) seen ∙ (here ∙ ap f (sum_made_by-follows weight j xs ys follows)))

  -- what one seat made no other made
  pub made_alone : (i k : ℕ) (xs : List (Made E)) → k ≢ i → MadeBy i xs → Unmade k xs
  made_alone i k [] apart m = tt
  made_alone i k (x ∷ xs) apart m = ((λ e. apart (some_number k i (sym e ∙ m.0))), made_alone i k xs apart m.1)

  pub follows_self : (n j : ℕ) (xs : List (Made E)) → FollowsAmong n j xs xs
  follows_self n j xs = ([], append-nil xs, λ k _. tt)

  pub follows_plain : (n j : ℕ) (xs ys : List (Made E)) → FollowsAmong n j xs ys → Follows j xs ys
  follows_plain n j xs ys f = (f.0, f.1, f.2 j (inl refl))

  -- a seat i of the n adds entries of its own, which the seat j has not seen
  pub follows_more : (n j i : ℕ) (xs ys zs : List (Made E)) → j ≢ i → i < n → FollowsAmong n j xs ys → Extends i ys zs → FollowsAmong n j xs zs
  follows_more n j i xs ys zs apart inside f e = (
    f.0 ++ e.0,
    sym (append_assoc xs f.0 e.0) ∙ (ap (λ w. w ++ e.0) f.1 ∙ e.1),
    λ k h. unmade-append k f.0 e.0 (f.2 k h) (made_alone i k e.0 (λ is. ⊎_elim (λ same. apart (sym same ∙ is)) (λ far. absurd (omega arith)) h) e.2),
  )

  -- one seat more
  pub follows_dealt : (n j : ℕ) (xs ys : List (Made E)) → FollowsAmong n j xs ys → FollowsAmong (n + 1) j xs ys
  follows_dealt n j xs ys f = (f.0, f.1, λ k h. f.2 k (⊎_elim (λ same. inl same) (λ far. inr (omega arith)) h))

  -- the new seat has seen what a seat before it has
  pub follows_new : (n j : ℕ) (xs ys : List (Made E)) → FollowsAmong n j xs ys → FollowsAmong (n + 1) n xs ys
  follows_new n j xs ys f = (f.0, f.1, λ k h. f.2 k (⊎_elim (λ same. inr (omega arith)) (λ far. inr (omega arith)) h))
