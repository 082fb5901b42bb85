-- The first of the tuples that were found, and what a named null stands for.
use Rattle.std.proofs.Common.{◌≡◌, ◌∙◌, ap, refl, Bool, true, false, cond, List, [], ◌∷◌, map, find, Option, Some, None, unwrap_or, pos}
use Rattle.std.specs.Prelude.{slice_get, ◌↔◌, IsTrue}
use Rattle.std.specs.Option.{option_map}
use Rattle.def_chase.specs.Values.{NullName, Datum, Number, Text, Unknown, Fact, same_datum}
use Rattle.base_types.specs.declared.tuples.Tuple.{Tuple}
use Rattle.base_types.specs.declared.values.Value.{Value}
use Rattle.base_types.specs.Meanings.{datum_of, fact_of}
use Rattle.def_steps.specs.Rewriting.{standing_for}
use Rattle.def_steps.specs.Steps.{Holders, resolve, unless_none, Asking}
use Rattle.chase_update.specs.Found.{found_in, is_found, settled, first_named, some_of}

-- Tuples that are not none.
pub some_full : (ts : List Tuple) (b : Bool) → (IsTrue b ↔ (ts ≡ [])) → b ≡ false → Some (map fact_of ts) ≡ some_of (map fact_of ts)
some_full [] b h e = cc (h.1 refl)
some_full (t ∷ ts) b h e = refl

-- What stands first in the first tuple.
pub first_at : (n : NullName) (ts : List Tuple) (t : Tuple) (vs : List Value) → Some t ≡ slice_get ts 0 → vs ≡ t.values.items → first_named n (map datum_of vs) ≡ standing_for n (map fact_of ts)
first_at n [] t vs e v = cc
first_at n (u ∷ ts) t vs e v = let h : t ≡ u = cc in ap (λ (ws : List Value). first_named n (map datum_of ws)) (v ∙ ap (λ (x : Tuple). x.values.items) h)

-- In no tuple nothing stands.
pub none_at : (n : NullName) (ts : List Tuple) → None ≡ slice_get ts 0 → Number (pos 0) ≡ standing_for n (map fact_of ts)
none_at n [] e = refl
none_at n (t ∷ ts) e = cc

module _ (n : NullName) where
  same_pair : (hs : Holders) → option_map (λ (e : NullName × Datum). e.1) (find (is_found n) (map found_in hs)) ≡ option_map (λ (e : NullName × List Fact). standing_for e.0 e.1) (find (λ (e : NullName × List Fact). same_datum (Unknown e.0) (Unknown n)) hs)
  same_pair [] = refl
  same_pair (h ∷ hs) = by (same_datum (Unknown h.0) (Unknown n)) (same_pair hs)
    where
      by : (b : Bool) → option_map (λ (e : NullName × Datum). e.1) (find (is_found n) (map found_in hs)) ≡ option_map (λ (e : NullName × List Fact). standing_for e.0 e.1) (find (λ (e : NullName × List Fact). same_datum (Unknown e.0) (Unknown n)) hs)
          → option_map (λ (e : NullName × Datum). e.1) (cond b (Some (found_in h)) (find (is_found n) (map found_in hs))) ≡ option_map (λ (e : NullName × List Fact). standing_for e.0 e.1) (cond b (Some h) (find (λ (e : NullName × List Fact). same_datum (Unknown e.0) (Unknown n)) hs))
      by true e = refl
      by false e = e

-- What is kept of the tuples found is what a value stands for by them.
pub settled_is : (hs : Holders) (d : Datum) → settled (map found_in hs) d ≡ resolve hs d
settled_is hs (Number i) = refl
settled_is hs (Text w) = refl
settled_is hs (Unknown n) = ap (λ (o : Option Datum). unwrap_or o (Number (pos 0))) (same_pair n hs)

-- Where there are tuples, it goes on.
pub goes : (ts us : List Fact) → Some us ≡ some_of ts → ts ≡ us
goes [] us e = cc
goes (t ∷ ts) us e = cc

pub goes_on_with : (n : NullName) (ts us : List Fact) (rest : Asking) → Some us ≡ some_of ts → unless_none n ts rest ≡ rest
goes_on_with n [] us rest e = cc
goes_on_with n (t ∷ ts) us rest e = refl
