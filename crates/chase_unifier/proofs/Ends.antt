-- Walking one step more, and the least value so far.
use Rattle.std.proofs.Common.{◌≡◌, ℕ, zero, suc, ◌+◌, ap, refl, sym, ◌∙◌, Bool, true, false, cond}
use Rattle.std.specs.declared.cmp.Ordering.{Ordering}
use Rattle.std.specs.declared.cmp.Ordering.TheVariants.{Less, Equal, Greater}
use Rattle.std.specs.Ordering.{is_lt, is_gt, ordering_reverse}
use Rattle.std.proofs.Math.Numerals.{add-one}
use Rattle.std.proofs.lemmas.Cmp.{upto}
use Rattle.def_chase.specs.Values.{Datum, datum_cmp}
use Rattle.def_chase.specs.Unifier.{after, lesser, least_after}
use Rattle.def_chase.proofs.Bools.{differ}
use Rattle.def_chase.proofs.Order.{datum_total}
use Rattle.def_chase.proofs.Walks.{after_next}

-- ---- the lesser of two values

less_is : (o : Ordering) → is_lt o ≡ true → o ≡ Less
less_is Less e = refl
less_is Equal e = differ e
less_is Greater e = differ e

less_chain : (x y z : Datum) → is_lt (datum_cmp x y) ≡ true → is_lt (datum_cmp y z) ≡ true → is_lt (datum_cmp x z) ≡ true
less_chain x y z e f = ap is_lt (datum_total.trans x y z (less_is (datum_cmp x y) e) (less_is (datum_cmp y z) f))

turned : (x y : Datum) → is_lt (datum_cmp x y) ≡ is_gt (datum_cmp y x)
turned x y = by (datum_cmp x y) ∙ ap is_gt (sym (datum_total.antisymm y x))
  where
    by : (o : Ordering) → is_lt o ≡ is_gt (ordering_reverse o)
    by Less = refl
    by Equal = refl
    by Greater = refl

not_less_chain : (x y z : Datum) → is_lt (datum_cmp y x) ≡ false → is_lt (datum_cmp z y) ≡ false → is_lt (datum_cmp z x) ≡ false
not_less_chain x y z e f = turned z x ∙ upto datum_total x y z (sym (turned y x) ∙ e) (sym (turned z y) ∙ f)

lesser_joins : (x y z : Datum) → lesser x (lesser y z) ≡ lesser (lesser x y) z
lesser_joins x y z = by (is_lt (datum_cmp y x)) (is_lt (datum_cmp z y)) refl refl
  where
    by : (a b : Bool) → is_lt (datum_cmp y x) ≡ a → is_lt (datum_cmp z y) ≡ b → lesser x (cond b z y) ≡ lesser (cond a y x) z
    by true true e f = ap (λ c. cond c z x) (less_chain z y x f e) ∙ ap (λ c. cond c z y) (sym f)
    by true false e f = ap (λ c. cond c y x) e ∙ ap (λ c. cond c z y) (sym f)
    by false true e f = refl
    by false false e f = ap (λ c. cond c y x) e ∙ ap (λ c. cond c z x) (sym (not_less_chain x y z e f))

pub takes_lesser : (x y : Datum) → is_lt (datum_cmp y x) ≡ true → y ≡ lesser x y
takes_lesser x y e = ap (λ b. cond b y x) (sym e)

pub keeps_lesser : (x y : Datum) → is_lt (datum_cmp y x) ≡ false → x ≡ lesser x y
keeps_lesser x y e = ap (λ b. cond b y x) (sym e)

-- ---- one step more

pub after_more : (g : Datum → Datum) (n : ℕ) (x : Datum) → after (n + 1) g x ≡ g (after n g x)
after_more g n x = ap (λ k. after k g x) (add-one n) ∙ after_next g n x

least_suc : (g : Datum → Datum) (n : ℕ) (x : Datum) → least_after (suc n) g x ≡ lesser (least_after n g x) (after (suc n) g x)
least_suc g zero x = refl
least_suc g (suc n) x = ap (lesser x) (least_suc g n (g x)) ∙ lesser_joins x (least_after n g (g x)) (after (suc n) g (g x))

pub least_more : (g : Datum → Datum) (n : ℕ) (x : Datum) → least_after (n + 1) g x ≡ lesser (least_after n g x) (g (after n g x))
least_more g n x = ap (λ k. least_after k g x) (add-one n) ∙ least_suc g n x ∙ ap (lesser (least_after n g x)) (after_next g n x)
