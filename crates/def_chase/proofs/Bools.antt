-- Small facts about truth values and options that many proofs use.
use Rattle.std.proofs.Common.{◌≡◌, refl, sym, Bool, true, false, ◌||◌, ◌&&◌, Some, None}
use Rattle.std.proofs.lemmas.Bool.{false≢true}

-- ---- contradictions

-- False is not true, so anything follows.
pub differ : {A : Type 0} → false ≡ true → A
differ e = absurd (false≢true e)

-- Nothing is not something.
pub none_some : {K : Type 0} (x : K) → None ≡ Some x → ⊥
none_some x e = cc

-- What is something is one thing.
pub some_same : {K : Type 0} (x y : K) → Some x ≡ Some y → x ≡ y
some_same x y e = cc

-- What cannot be true is false.
pub not_both : (r : Bool) → (r ≡ true → ⊥) → r ≡ false
not_both true h = absurd (h refl)
not_both false h = refl

-- ---- and

pub both : (a b : Bool) → a ≡ true → b ≡ true → (a && b) ≡ true
both true b f g = g
both false b f g = differ f

pub and-true : (a : Bool) → (a && true) ≡ a
and-true true = refl
and-true false = refl

pub and-false : (a : Bool) → (a && false) ≡ false
and-false true = refl
and-false false = refl

-- ---- or

pub or_left : (a b : Bool) → a ≡ true → (a || b) ≡ true
or_left true b e = refl
or_left false b e = differ e

pub or_right : (a b : Bool) → b ≡ true → (a || b) ≡ true
or_right true b e = refl
or_right false b e = e

-- Where neither holds, each fails.
pub first_off : (a b : Bool) → (a || b) ≡ false → (a ≡ false) × (b ≡ false)
first_off true b e = differ (sym e)
first_off false b e = (refl, e)
