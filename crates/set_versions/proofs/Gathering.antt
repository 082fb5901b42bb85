-- A few tuples that were gathered are the first candidates.
use Rattle.std.proofs.Common.{◌≡◌, ◌-◌, ℕ, ap, refl, sym, ◌∙◌, List, map, take, length, Bool, true, false, ◌&&◌, filter, Option, Some, None}
use Rattle.std.proofs.lemmas.List.{take-map}
use Rattle.base_types.specs.Candidates.{further_candidates, AreFirst}
use Rattle.base_types.specs.Meanings.{fact_of}
use Rattle.base_types.specs.declared.tuples.Tuple.{Tuple}
use Rattle.def_chase.specs.Cursors.{is_of, is_beyond, has_at, is_scanned}
use Rattle.def_chase.specs.Values.{Datum, Fact}
use Rattle.def_chase.proofs.Bools.{and-true}
use Rattle.def_chase.proofs.Maps.{length_map}
use Rattle.def_chase.proofs.Searches.{filter_as}
use Rattle.base_tree.specs.Few.{Batch, most, no_item, with_first}

pub few_first : (few : Batch Tuple) (xs : List Tuple) (all : List Fact) → few ≡ with_first no_item xs → map fact_of xs ≡ all → AreFirst few all
few_first few xs all e h = record {
  first = ap (λ (b : Batch Tuple). map fact_of b.left) e ∙ sym (take-map fact_of most xs) ∙ ap (take most) h;
  room = ap (λ (b : Batch Tuple). b.room) e ∙ ap (λ n. most - n) (sym (length_map fact_of xs) ∙ ap length h);
}

-- The candidates of a relation beyond a tuple.
pub zone_candidates : (D : List Fact) (r : ℕ) (past : Option Fact) → filter (λ u. is_of r u && is_beyond past u) D ≡ further_candidates D r None past
zone_candidates D r None = filter_as (λ u. is_of r u && true) (is_of r) (λ u. and-true (is_of r u)) D
zone_candidates D r (Some t) = refl

-- The candidates of a relation and a column's value beyond a tuple.
pub scan_candidates : (D : List Fact) (r c : ℕ) (d : Datum) (past : Option Fact) → filter (is_scanned r c d past) D ≡ further_candidates D r (Some (c, d)) past
scan_candidates D r c d None = refl
scan_candidates D r c d (Some t) = filter_as (is_scanned r c d (Some t)) (λ u. (is_of r u && has_at c d u) && is_beyond (Some t) u) (λ u. turned (is_of r u) (is_beyond (Some t) u) (has_at c d u)) D
  where
    turned : (a b e : Bool) → (a && (b && e)) ≡ ((a && e) && b)
    turned true true true = refl
    turned true true false = refl
    turned true false true = refl
    turned true false false = refl
    turned false b e = refl
