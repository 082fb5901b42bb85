-- The new unknowns of an update, and the values that a repair asks for.
use Rattle.std.proofs.Common.{◌≡◌, ◌∙◌, ap, refl, sym, ℕ, ◌+◌, ◌<◌, ◌≤◌, nat_lt, List, [], ◌∷◌, map, length, drop, get_or, ltb-true, arith}
use Rattle.std.specs.Prelude.{if◌then◌else◌}
use Rattle.std.proofs.lemmas.List.{drop_more, drop_all}
use Rattle.base_types.specs.Meanings.{datum_of}
use Rattle.base_types.specs.declared.values.Value.{Value}
use Rattle.def_chase.specs.Values.{Datum}
use Rattle.def_workspace.specs.Hidden.{or_zero}
use Rattle.def_workspace.specs.Lines.{Spelled, Known, New, SpelledFact}
use Rattle.def_workspace.specs.Ops.{new_among, new_in}
use Rattle.def_workspace.specs.Places.{greater}
use Rattle.ws_lines.specs.Meanings.{spelled_of, spelled_fact_of}
use Rattle.ws_lines.specs.declared.spelled.Spelled.{Spelled as SpelledOfProgram}
use Rattle.ws_lines.specs.declared.spelled.SpelledTuple.{SpelledTuple}
use Rattle.ws_ground.specs.News.{new_at}

-- Values that are some are left.
pub some_values : (z : Datum) (vs : List Value) → (vs ≡ [] → ⊥) → map datum_of vs ≡ or_zero z (map datum_of vs)
some_values z [] h = absurd (h refl)
some_values z (v ∷ vs) h = refl

-- Of three numbers.
greater_of_three : (a b c : ℕ) → greater (greater a b) c ≡ greater a (greater b c)
greater_of_three a b c = grind (arith, ltb-true)

pub none_greater : (n : ℕ) → greater 0 n ≡ n
none_greater n = grind (arith, ltb-true)

greater_none : (n : ℕ) → greater n 0 ≡ n
greater_none n = grind (arith, ltb-true)

-- Of one tuple.
pub one_tuple : (u : SpelledFact) (n : ℕ) → n ≡ new_in u.values → n ≡ new_among (u ∷ [])
one_tuple u n e = e ∙ sym (greater_none (new_in u.values))

-- One value more.
new_in_more : (v : Spelled) (vs : List Spelled) → new_in (v ∷ vs) ≡ greater (new_at v) (new_in vs)
new_in_more (Known d) vs = sym (none_greater (new_in vs))
new_in_more (New j) vs = refl

-- What is left of a list that is gone over.
pub one_value_more : (vs : List SpelledOfProgram) (i most : ℕ) (v : SpelledOfProgram) → i < length vs → v ≡ get_or vs i v
    → greater (greater most (new_at (spelled_of v))) (new_in (map spelled_of (drop (i + 1) vs))) ≡ greater most (new_in (map spelled_of (drop i vs)))
one_value_more vs i most v h e =
    let split : drop i vs ≡ v ∷ drop (i + 1) vs = drop_more vs i v h ∙ ap (λ (w : SpelledOfProgram). w ∷ drop (i + 1) vs) (sym e) in
    greater_of_three most (new_at (spelled_of v)) (new_in (map spelled_of (drop (i + 1) vs)))
    ∙ ap (greater most) (sym (new_in_more (spelled_of v) (map spelled_of (drop (i + 1) vs))))
    ∙ ap (λ (ws : List SpelledOfProgram). greater most (new_in (map spelled_of ws))) (sym split)

pub no_value_left : (vs : List SpelledOfProgram) (i most : ℕ) → length vs ≤ i → greater most (new_in (map spelled_of (drop i vs))) ≡ most
no_value_left vs i most h = ap (λ (ws : List SpelledOfProgram). greater most (new_in (map spelled_of ws))) (drop_all i vs h) ∙ greater_none most

pub one_tuple_more : (ts : List SpelledTuple) (i most : ℕ) (t : SpelledTuple) → i < length ts → t ≡ get_or ts i t
    → greater (greater most (new_in (spelled_fact_of t).values)) (new_among (map spelled_fact_of (drop (i + 1) ts))) ≡ greater most (new_among (map spelled_fact_of (drop i ts)))
one_tuple_more ts i most t h e =
    let split : drop i ts ≡ t ∷ drop (i + 1) ts = drop_more ts i t h ∙ ap (λ (u : SpelledTuple). u ∷ drop (i + 1) ts) (sym e) in
    greater_of_three most (new_in (spelled_fact_of t).values) (new_among (map spelled_fact_of (drop (i + 1) ts)))
    ∙ ap (λ (us : List SpelledTuple). greater most (new_among (map spelled_fact_of us))) (sym split)

pub no_tuple_left : (ts : List SpelledTuple) (i most : ℕ) → length ts ≤ i → greater most (new_among (map spelled_fact_of (drop i ts))) ≡ most
no_tuple_left ts i most h = ap (λ (us : List SpelledTuple). greater most (new_among (map spelled_fact_of us))) (drop_all i ts h) ∙ greater_none most
