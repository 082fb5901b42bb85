-- What a list of pairs of nulls and values means as it grows and is written.
use Rattle.std.proofs.Common.{◌≡◌, ℕ, suc, ◌+◌, ◌-◌, ◌≤◌, ap, refl, sym, ◌∙◌, Bool, true, false, List, [], ◌∷◌, ◌++◌, Some, None, cond, arith}
use Rattle.std.specs.Prelude.{find}
use Rattle.std.specs.Option.{option_map}
use Rattle.std.specs.List.{position_from}
use Rattle.std.proofs.Math.ListN.{set}
use Rattle.def_chase.proofs.Bools.{differ, some_same}
use Rattle.def_chase.specs.Values.{NullName, Datum}
use Rattle.base_types.specs.Maps.{same_null, is_pair_of, images_of, give_image}
use Rattle.base_types.proofs.Exact.{same_null_decides}

-- The image of null m in the pairs that follow a first pair.
after_first : (p : NullName × Datum) (ps : List (NullName × Datum)) (m : NullName) → images_of (p ∷ ps) m ≡ cond (same_null m p.0) (Some p.1) (images_of ps m)
after_first p ps m = by (same_null m p.0)
  where
    by : (b : Bool) → option_map (λ (p : NullName × Datum). p.1) (cond b (Some p) (find (is_pair_of m) ps)) ≡ cond b (Some p.1) (images_of ps m)
    by true = refl
    by false = refl

-- Two tests of which not both hold may be made in either order.
swapped : {A : Type 0} (a b : Bool) (x y z : A) → (a ≡ true → b ≡ true → ⊥) → cond a x (cond b y z) ≡ cond b y (cond a x z)
swapped true true x y z h = absurd (h refl refl)
swapped true false x y z h = refl
swapped false true x y z h = refl
swapped false false x y z h = refl

-- A second test that holds only where the first does is never reached.
hidden : {A : Type 0} (a b : Bool) (x y z : A) → b ≡ a → cond a x z ≡ cond a x (cond b y z)
hidden true b x y z e = refl
hidden false true x y z e = cc
hidden false false x y z e = refl

-- The image of null m stays where another pair before it is p, if the null n of d is not that of p.
below : (p : NullName × Datum) (ps qs : List (NullName × Datum)) (n : NullName) (d : Datum) → same_null n p.0 ≡ false → images_of qs ≡ give_image (images_of ps) n d → (m : NullName) → images_of (p ∷ qs) m ≡ give_image (images_of (p ∷ ps)) n d m
below p ps qs n d t e m =
    after_first p qs m ∙ ap (λ f. cond (same_null m p.0) (Some p.1) (f m)) e ∙ swapped (same_null m p.0) (same_null m n) (Some p.1) (Some d) (images_of ps m) not_both
    ∙ ap (cond (same_null m n) (Some d)) (sym (after_first p ps m))
  where
    not_both : same_null m p.0 ≡ true → same_null m n ≡ true → ⊥
    not_both x y = differ (sym t ∙ (same_null_decides n p.0).1 (sym ((same_null_decides m n).0 y) ∙ (same_null_decides m p.0).0 x))

-- A pair put at the end, where the null has none, gives the null its image.
pub added : (ps : List (NullName × Datum)) (i : ℕ) (n : NullName) (d : Datum) → position_from (is_pair_of n) i ps ≡ None → images_of (ps ++ (n, d) ∷ []) ≡ give_image (images_of ps) n d
added [] i n d e = λ j m. after_first (n, d) [] m j
added (p ∷ ps) i n d e = by (same_null n p.0) refl e (added ps (i + 1) n d)
  where
    by : (b : Bool) → same_null n p.0 ≡ b → cond b (Some i) (position_from (is_pair_of n) (i + 1) ps) ≡ None
        → (position_from (is_pair_of n) (i + 1) ps ≡ None → images_of (ps ++ (n, d) ∷ []) ≡ give_image (images_of ps) n d) → images_of (p ∷ ps ++ (n, d) ∷ []) ≡ give_image (images_of (p ∷ ps)) n d
    by true t f rest = cc
    by false t f rest = λ j m. below p ps (ps ++ (n, d) ∷ []) n d t (rest f) m j

-- What is found is found from where the search begins on.
from_start : (t : NullName × Datum → Bool) (ps : List (NullName × Datum)) (i k : ℕ) → position_from t i ps ≡ Some k → i ≤ k
from_start t [] i k e = cc
from_start t (p ∷ ps) i k e = by (t p) e (from_start t ps (i + 1) k)
  where
    by : (b : Bool) → cond b (Some i) (position_from t (i + 1) ps) ≡ Some k → (position_from t (i + 1) ps ≡ Some k → i + 1 ≤ k) → i ≤ k
    by true f rest = omega (arith, some_same i k f)
    by false f rest = omega (arith, rest f)

-- A pair put in place of the null's first one gives the null its image.
pub replaced : (ps : List (NullName × Datum)) (i k : ℕ) (n : NullName) (d : Datum) → position_from (is_pair_of n) i ps ≡ Some k → images_of (set ps (k - i) (n, d)) ≡ give_image (images_of ps) n d
replaced [] i k n d e = cc
replaced (p ∷ ps) i k n d e = by (same_null n p.0) refl e (replaced ps (i + 1) k n d)
  where
    first : same_null n p.0 ≡ true → (m : NullName) → images_of ((n, d) ∷ ps) m ≡ give_image (images_of (p ∷ ps)) n d m
    first t m =
        after_first (n, d) ps m ∙ hidden (same_null m n) (same_null m p.0) (Some d) (Some p.1) (images_of ps m) (ap (same_null m) (sym ((same_null_decides n p.0).0 t)))
        ∙ ap (cond (same_null m n) (Some d)) (sym (after_first p ps m))

    by : (b : Bool) → same_null n p.0 ≡ b → cond b (Some i) (position_from (is_pair_of n) (i + 1) ps) ≡ Some k
        → (position_from (is_pair_of n) (i + 1) ps ≡ Some k → images_of (set ps (k - (i + 1)) (n, d)) ≡ give_image (images_of ps) n d) → images_of (set (p ∷ ps) (k - i) (n, d)) ≡ give_image (images_of (p ∷ ps)) n d
    by true t f rest =
        let here : k - i ≡ 0 = omega (arith, some_same i k f) in
        ap (λ o. images_of (set (p ∷ ps) o (n, d))) here ∙ (λ j m. first t m j)
    by false t f rest =
        let bound : i + 1 ≤ k = from_start (is_pair_of n) ps (i + 1) k f in
        let later : k - i ≡ suc (k - (i + 1)) = omega (arith, bound) in
        ap (λ o. images_of (set (p ∷ ps) o (n, d))) later ∙ (λ j m. below p ps (set ps (k - (i + 1)) (n, d)) n d t (rest f) m j)

-- The same, where the search begins at the front.
pub replaced_at : (ps : List (NullName × Datum)) (k : ℕ) (n : NullName) (d : Datum) → position_from (is_pair_of n) 0 ps ≡ Some k → images_of (set ps k (n, d)) ≡ give_image (images_of ps) n d
replaced_at ps k n d e =
    let whole : k ≡ k - 0 = omega arith in
    ap (λ o. images_of (set ps o (n, d))) whole ∙ replaced ps 0 k n d e
