-- Rows of values, made value by value.
use Rattle.std.proofs.Common.{◌≡◌, ℕ, zero, suc, ◌+◌, ap, refl, sym, ◌∙◌, List, [], ◌∷◌, ◌++◌, map, pos, None, append_assoc, zero-add}
use Rattle.std.proofs.lemmas.List.FromFn.{map-range_with_len_more}
use Rattle.std.specs.List.{slice_get, range_with_len}
use Rattle.def_chase.specs.Values.{Datum, Number, Unknown}
use Rattle.def_chase.specs.Mappings.{listed}
use Rattle.base_types.specs.declared.values.Value.{Value}
use Rattle.base_types.specs.Meanings.{datum_of}
use Rattle.chase_repair.specs.declared.fresh.Fresh.{Fresh}
use Rattle.chase_repair.specs.Nulls.{drawn_from}

-- Past the values stands the number 0.
pub listed_past : (vs : List Value) (v : ℕ) → None ≡ slice_get vs v → Number (pos 0) ≡ listed (map datum_of vs) v
listed_past [] v e = refl
listed_past (x ∷ vs) zero e = cc
listed_past (x ∷ vs) (suc v) e = listed_past vs v e

-- One value more by a function of its place.
pub more_known : (g : ℕ → Datum) (n : ℕ) (xs ys : List Datum) (d : Datum) → xs ≡ map g (range_with_len 0 n) → ys ≡ xs ++ d ∷ [] → d ≡ g n → ys ≡ map g (range_with_len 0 (n + 1))
more_known g n xs ys d e f h = f ∙ ap (λ (l : List Datum). l ++ d ∷ []) e ∙ ap (λ c. map g (range_with_len 0 n) ++ c ∷ []) h ∙ sym (map-range_with_len_more g 0 n n (zero-add n))

-- One null more is drawn.
pub more_drawn : (f : Fresh) (n place : ℕ) (olds xs ys : List Datum) → place ≡ f.drawn + (1 + n) → xs ≡ olds ++ drawn_from f n
    → ys ≡ xs ++ Unknown record { update = f.update; attempt = f.attempt; place = place } ∷ [] → ys ≡ olds ++ drawn_from f (n + 1)
more_drawn f n place olds xs ys p e h =
    let null : ℕ → Datum = λ k. Unknown record { update = f.update; attempt = f.attempt; place = k } in
    h ∙ ap (λ (l : List Datum). l ++ null place ∷ []) e ∙ append_assoc olds (drawn_from f n) (null place ∷ []) ∙ ap (λ k. olds ++ (drawn_from f n ++ null k ∷ [])) p
    ∙ ap (λ (l : List Datum). olds ++ l) (sym (map-range_with_len_more (λ k. null (f.drawn + k)) 1 n (1 + n) refl))
