-- A tuple is the outer form of another where the relations are one and the values are its outer forms.
use Rattle.std.proofs.Common.{◌≡◌, ◌∙◌, ap, refl, sym, Bool, List, [], ◌∷◌, map}
use Rattle.std.specs.Bool.{Decides, one_answer}
use Rattle.def_chase.specs.Values.{Datum, Fact, outer_datum, outer, same_fact}
use Rattle.base_types.specs.declared.values.Value.{Value}
use Rattle.base_types.specs.declared.tuples.Tuple.{Tuple}
use Rattle.base_types.specs.Meanings.{datum_of, fact_of}
use Rattle.base_types.proofs.Exact.{same_fact_decides}

-- The outer form of a value's meaning.
abbrev pub form : Value → Datum
form v = outer_datum (datum_of v)

-- The outer forms of the meanings of values.
forms : (vs us : List Value) → vs ≡ us → map form vs ≡ map outer_datum (map datum_of us)
forms vs us e = ap (map form) e ∙ each us
  where
    each : (us : List Value) → map form us ≡ map outer_datum (map datum_of us)
    each [] = refl
    each (u ∷ us) = λ i. form u ∷ each us i

pub rows_decide : (s t : Tuple) (vs us : List Value) → s.relation ≡ t.relation → vs ≡ s.values.items → us ≡ t.values.items → (r : Bool) → Decides r (map form vs ≡ map datum_of us)
    → r ≡ same_fact (outer (fact_of s)) (fact_of t)
rows_decide s t vs us e v u r d = one_answer r (same_fact (outer (fact_of s)) (fact_of t)) (λ h. same (d.0 h), λ h. d.1 (back h)) (same_fact_decides (outer (fact_of s)) (fact_of t))
  where
    same : map form vs ≡ map datum_of us → outer (fact_of s) ≡ fact_of t
    same h = λ i. record { relation = e i; values = (sym (forms vs s.values.items v) ∙ h ∙ ap (map datum_of) u) i }

    back : outer (fact_of s) ≡ fact_of t → map form vs ≡ map datum_of us
    back h = forms vs s.values.items v ∙ ap (λ (f : Fact). f.values) h ∙ sym (ap (map datum_of) u)
