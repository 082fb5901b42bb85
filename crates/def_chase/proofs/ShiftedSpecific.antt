-- A shift of attempt numbers goes through more specific and the unifier.
use Rattle.std.proofs.Common.{◌≡◌, ℕ, zero, suc, ap, refl, ◌∙◌, List, [], ◌∷◌, map, not, ◌||◌, ◌&&◌, cond, length, Option, Some, None}
use Rattle.std.specs.List.{list_all, zip}
use Rattle.std.specs.Option.{option_map}
use Rattle.std.specs.Ordering.{is_lt}
use Rattle.std.specs.Prelude.{◌==◌, find, unwrap_or}
use Rattle.def_chase.specs.Values.{Datum, Fact, same_datum, datum_cmp}
use Rattle.def_chase.specs.Specific.{is_constant, graph, agree, more_specific, image_of}
use Rattle.def_chase.specs.Unifier.{after, lesser, least_after, unifier}
use Rattle.def_chase.specs.Shifts.{shift, shift_fact}
use Rattle.def_chase.proofs.Maps.{find_map, all_map, length_map, cond_map}
use Rattle.def_chase.proofs.Shifted.{shift_keeps, same_datum_shifts, is_constant_shifts}

module _ (n : ℕ → ℕ) where
  -- ---- more specific

  abbrev shift_pair : Datum × Datum → Datum × Datum
  shift_pair p = (shift n p.0, shift n p.1)

  pub graph_shifts : (xs ys : List Datum) → zip (map (shift n) xs) (map (shift n) ys) ≡ map shift_pair (zip xs ys)
  graph_shifts [] ys = refl
  graph_shifts (x ∷ xs) [] = refl
  graph_shifts (x ∷ xs) (y ∷ ys) = ap (λ g. (shift n x, shift n y) ∷ g) (graph_shifts xs ys)

  agree_shifts : (p q : Datum × Datum) → agree (shift_pair p) (shift_pair q) ≡ agree p q
  agree_shifts p q = λ i. not (same_datum_shifts n p.0 q.0 i) || same_datum_shifts n p.1 q.1 i

  pub specific_shifts : (s t : Fact) → more_specific (shift_fact n s) (shift_fact n t) ≡ more_specific s t
  specific_shifts s t =
      (λ i. (s.relation == t.relation) && (length_map (shift n) s.values i == length_map (shift n) t.values i)
      && list_all (λ p. (not (is_constant p.0) || same_datum p.0 p.1) && list_all (agree p) (graph_shifts t.values s.values i)) (graph_shifts t.values s.values i))
      ∙ ap (λ b. (s.relation == t.relation) && (length s.values == length t.values) && b)
      (all_map shift_pair _ (λ p. (not (is_constant p.0) || same_datum p.0 p.1) && list_all (agree p) (graph t s))
      (λ p. λ i. (not (is_constant_shifts n p.0 i) || same_datum_shifts n p.0 p.1 i) && all_map shift_pair (agree (shift_pair p)) (agree p) (agree_shifts p) (graph t s) i) (graph t s))

  -- ---- unifier

  image_of_shifts : (t s : Fact) (x : Datum) → image_of (shift_fact n t) (shift_fact n s) (shift n x) ≡ shift n (image_of t s x)
  image_of_shifts t s x =
      ap (λ g. unwrap_or (option_map (λ (p : Datum × Datum). p.1) (find (λ p. same_datum p.0 (shift n x)) g)) (shift n x)) (graph_shifts t.values s.values)
      ∙ ap (λ o. unwrap_or (option_map (λ (p : Datum × Datum). p.1) o) (shift n x)) (find_map shift_pair (λ p. same_datum p.0 (shift n x)) (λ p. same_datum p.0 x) (λ p. same_datum_shifts n p.0 x) (graph t s))
      ∙ by (find (λ p. same_datum p.0 x) (graph t s))
    where
      by : (o : Option (Datum × Datum)) → unwrap_or (option_map (λ (p : Datum × Datum). p.1) (option_map (λ (p : Datum × Datum). (shift n p.0, shift n p.1)) o)) (shift n x) ≡ shift n (unwrap_or (option_map (λ (p : Datum × Datum). p.1) o) x)
      by None = refl
      by (Some p) = refl

  module _ (g h : Datum → Datum) (e : (x : Datum) → g (shift n x) ≡ shift n (h x)) where
    after_shifts : (k : ℕ) (x : Datum) → after k g (shift n x) ≡ shift n (after k h x)
    after_shifts zero x = refl
    after_shifts (suc k) x = ap (after k g) (e x) ∙ after_shifts k (h x)

    lesser_shifts : (x y : Datum) → lesser (shift n x) (shift n y) ≡ shift n (lesser x y)
    lesser_shifts x y = ap (λ o. cond (is_lt o) (shift n y) (shift n x)) (shift_keeps n y x) ∙ cond_map (shift n) (is_lt (datum_cmp y x)) y x

    least_shifts : (k : ℕ) (x : Datum) → least_after k g (shift n x) ≡ shift n (least_after k h x)
    least_shifts zero x = refl
    least_shifts (suc k) x = ap (λ y. lesser (shift n x) (least_after k g y)) (e x) ∙ ap (lesser (shift n x)) (least_shifts k (h x)) ∙ lesser_shifts x (least_after k h (h x))

  pub unifier_shifts : (t s : Fact) (x : Datum) → unifier (shift_fact n t) (shift_fact n s) (shift n x) ≡ shift n (unifier t s x)
  unifier_shifts t s x =
      ap (λ k. least_after k (image_of (shift_fact n t) (shift_fact n s)) (after k (image_of (shift_fact n t) (shift_fact n s)) (shift n x))) (length_map (shift n) t.values)
      ∙ ap (least_after (length t.values) (image_of (shift_fact n t) (shift_fact n s))) (after_shifts (image_of (shift_fact n t) (shift_fact n s)) (image_of t s) (image_of_shifts t s) (length t.values) x)
      ∙ least_shifts (image_of (shift_fact n t) (shift_fact n s)) (image_of t s) (image_of_shifts t s) (length t.values) (after (length t.values) (image_of t s) x)
