-- The unifier gives each value the end of its walk, and each walk has one end.
use Rattle.std.proofs.Common.{◌≡◌, ℕ, zero, suc, ◌+◌, ◌*◌, ◌-◌, ◌<◌, ◌≤◌, ap, sym, ◌∙◌, subst, length, inl, inr, arith}
use Rattle.std.proofs.lemmas.Bool.{cases_lt}
use Rattle.def_chase.specs.Values.{Datum, Fact}
use Rattle.def_chase.specs.Specific.{image_of}
use Rattle.def_chase.specs.Unifier.{after, least_after, unifier}
use Rattle.def_chase.specs.Laws.{IsWalkEnd, UnifierEnds}
use Rattle.def_chase.proofs.Walks.{NotAbove, Periodic, after_split, is_one, below_each, both_not_above, comes_round}
use Rattle.def_chase.proofs.Unified.{not_found}

module _ (g : Datum → Datum) where
  after_sum : (i n : ℕ) (x : Datum) → after (i + n) g x ≡ after n g (after i g x)
  after_sum i n x = let e : n ≡ (i + n) - i = omega arith in let le : i ≤ i + n = omega arith in after_split g i (i + n) x le ∙ ap (λ k. after k g (after i g x)) (sym e)

  -- Once round or many times.
  rounds : (p : ℕ) (y : Datum) → after p g y ≡ y → (k : ℕ) → after (k * p) g y ≡ y
  rounds p y e zero = let z : 0 * p ≡ 0 = grind arith in ap (λ n. after n g y) z
  rounds p y e (suc k) = let s : suc k * p ≡ p + k * p = grind arith in ap (λ n. after n g y) s ∙ after_sum p (k * p) y ∙ ap (after (k * p) g) e ∙ rounds p y e k

  -- The values that follow one on a cycle come back to each of them.
  again_later : (p i : ℕ) (y : Datum) → after p g y ≡ y → after p g (after i g y) ≡ after i g y
  again_later p i y e = sym (after_sum i p y) ∙ (let s : i + p ≡ p + i = omega arith in ap (λ n. after n g y) s) ∙ after_sum p i y ∙ ap (after i g) e

  -- What follows within one round follows always.
  within : (p : ℕ) (y w : Datum) → 1 ≤ p → after p g y ≡ y → ((i : ℕ) → i < p → NotAbove g w (after i g y)) → (fuel k : ℕ) → k ≤ fuel → NotAbove g w (after k g y)
  within p y w some e low zero k h = low k (omega arith)
  within p y w some e low (suc fuel) k h =
      elim (cases_lt k p) [
        | inl l ↦ low k l
        | inr l ↦ subst (λ (z : Datum). NotAbove g w z) (sym (after_split g p k y l ∙ ap (after (k - p) g) e)) (within p y w some e low fuel (k - p) (omega arith))
      ]

times_some : (a q : ℕ) → 1 ≤ q → a ≤ a * q
times_some zero q h = omega arith
times_some (suc a) q h = let s : suc a * q ≡ q + a * q = grind arith in let r = times_some a q h in omega (arith, s, r)

unifier_is_end : (t s : Fact) (x : Datum) → IsWalkEnd t s x (unifier t s x)
unifier_is_end t s x =
    record {
      from_start = n + one.0;
      reached = one.2 ∙ sym (after_sum g n one.0 x);
      round = rounds_at.period;
      some = rounds_at.some;
      again = ap (after rounds_at.period g) one.2 ∙ again_later g rounds_at.period one.0 start rounds_at.again ∙ sym one.2;
      least = λ k.
          subst (λ (z : Datum). NotAbove g (least_after n g start) z) (after_sum g one.0 k start ∙ ap (after k g) (sym one.2))
          (within g rounds_at.period start (least_after n g start) rounds_at.some rounds_at.again (λ i l. below_each g n i start (let few = rounds_at.few in omega (arith, few, l))) (one.0 + k) (one.0 + k) (omega arith));
    }
  where
    n : ℕ
    n = length t.values

    g : Datum → Datum
    g = image_of t s

    start : Datum
    start = after n g x

    rounds_at : Periodic g (suc n) start
    rounds_at = comes_round g t.values (λ z h. not_found z t.values s.values h) x

    one : (i : ℕ) × (i ≤ n) × (least_after n g start ≡ after i g start)
    one = is_one g n start

-- From one end of the walk the cycle leads to the other.
leads : (t s : Fact) (x y z : Datum) → IsWalkEnd t s x y → IsWalkEnd t s x z → NotAbove (image_of t s) y z
leads t s x y z a b = subst (λ (w : Datum). NotAbove (image_of t s) y w) (sym comes) (a.least (far - a.from_start))
  where
    far : ℕ
    far = b.from_start + a.from_start * b.round

    comes : z ≡ after (far - a.from_start) (image_of t s) y
    comes =
        let g : Datum → Datum = image_of t s in
        let le : a.from_start ≤ far = (let r = times_some a.from_start b.round b.some in omega (arith, r)) in
        sym (rounds g b.round z b.again a.from_start) ∙ ap (after (a.from_start * b.round) g) b.reached ∙ sym (after_sum g b.from_start (a.from_start * b.round) x)
        ∙ after_split g a.from_start far x le ∙ ap (after (far - a.from_start) g) (sym a.reached)

pub unifier_ends : UnifierEnds
unifier_ends = record { is_end = unifier_is_end; one = λ t s x y z a b. both_not_above (image_of t s) y z (leads t s x y z a b) (leads t s x z y b a) }
