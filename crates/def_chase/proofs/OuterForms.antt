-- Where each update has only one attempt among the nulls, outer forms keep the order of tuples: they are the tuples before a shift.
use Rattle.std.proofs.Common.{◌≡◌, ℕ, zero, ◌+◌, ap, refl, sym, ◌∙◌, List, [], ◌∷◌, map, true, arith}
use Rattle.std.specs.List.{list_all}
use Rattle.std.proofs.lemmas.Bool.{and_parts, eqb-true}
use Rattle.def_chase.specs.Values.{Datum, Number, Text, Unknown, Fact, fact_cmp, outer_datum, outer}
use Rattle.def_chase.specs.Shifts.{shift, shift_fact}
use Rattle.def_chase.specs.Laws.{is_by, are_by, OuterForms}
use Rattle.def_chase.proofs.Shifted.{fact_cmp_shifts}

module _ (attempts : ℕ → ℕ) where
  value_back : (x : Datum) → is_by attempts x ≡ true → shift attempts (outer_datum x) ≡ x
  value_back (Number i) e = refl
  value_back (Text w) e = refl
  value_back (Unknown m) e = ap (λ a. Unknown record { update = m.update; attempt = a; place = m.place }) (let s : m.attempt ≡ attempts m.update = eqb-true m.attempt (attempts m.update) e in let z : zero + attempts m.update ≡ attempts m.update = omega arith in z ∙ sym s)

  values_back : (ds : List Datum) → list_all (is_by attempts) ds ≡ true → map (shift attempts) (map outer_datum ds) ≡ ds
  values_back [] e = refl
  values_back (d ∷ ds) e = let p = and_parts (is_by attempts d) (list_all (is_by attempts) ds) e in λ i. value_back d p.0 i ∷ values_back ds p.1 i

  -- The outer form shifted by the attempts is the tuple.
  pub outer_back : (t : Fact) → are_by attempts t ≡ true → shift_fact attempts (outer t) ≡ t
  outer_back t e = ap (λ ds. record { relation = t.relation; values = ds }) (values_back t.values e)

  outer_in_order : (s t : Fact) → are_by attempts s ≡ true → are_by attempts t ≡ true → fact_cmp (outer s) (outer t) ≡ fact_cmp s t
  outer_in_order s t d e = sym (fact_cmp_shifts attempts (outer s) (outer t)) ∙ (λ i. fact_cmp (outer_back s d i) (outer_back t e i))

  outer_one : (s t : Fact) → are_by attempts s ≡ true → are_by attempts t ≡ true → outer s ≡ outer t → s ≡ t
  outer_one s t d e h = sym (outer_back s d) ∙ ap (shift_fact attempts) h ∙ outer_back t e

pub outer_forms : OuterForms
outer_forms = record { in_order = outer_in_order; one = outer_one }
