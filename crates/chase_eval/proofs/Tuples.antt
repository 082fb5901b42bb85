-- Going over all tuples, and the tuple that says that a mapping is in force.
use Rattle.std.proofs.Common.{◌≡◌, ℕ, ℤ, pos, ◌<◌, ◌^◌, arith, to_z, of_z, w64, ap, sym, ◌∙◌, subst, refl, List, [], ◌∷◌, ◌++◌, map, Bool, true, false, ◌&&◌, Option, Some}
use Rattle.std.specs.Bool.{Decides}
use Rattle.std.specs.Cmp.Lexicographic.{pointwise}
use Rattle.std.specs.Ordering.{on, eq_by_cmp}
use Rattle.std.specs.Ordering.{is_lt}
use Rattle.std.specs.Prelude.{◌==◌, find}
use Rattle.std.proofs.lemmas.List.{append_assoc}
use Rattle.std.proofs.lemmas.Int.{to_z_pos}
use Rattle.std.proofs.lemmas.Bool.{ne_eqb}
use Rattle.std.proofs.lemmas.Bool.Decides.{same_from_decides}
use Rattle.def_chase.specs.Values.{Datum, Number, Fact, datum_cmp, fact_cmp, same_fact}
use Rattle.def_chase.specs.Queries.{holds_null}
use Rattle.def_chase.specs.Repository.{IsRepository}
use Rattle.def_chase.proofs.Cursors.{rest_of, moves}
use Rattle.def_chase.proofs.Searches.{find_same}
use Rattle.base_types.specs.Candidates.{is_holding}
use Rattle.def_chase.specs.Mappings.{force, force_relation}
use Rattle.def_chase.proofs.Bools.{differ}
use Rattle.base_types.specs.Meanings.{datum_of, fact_of}
use Rattle.base_types.specs.declared.tuples.Tuple.{Tuple}
use Rattle.base_types.specs.declared.values.Value.{Value}
use Rattle.base_types.specs.declared.values.Value.TheVariants.{Int}
use Rattle.base_types.proofs.Exact.{same_datum_decides, same_fact_decides, pointwise_decides}

-- The next tuple that holds the null is the first past the given one that does.
pub next_holding : (u k : ℕ) (t : Fact) (D : List Fact) → find (is_holding u k (Some t)) D ≡ find (λ v. holds_null u k v && is_lt (fact_cmp t v)) D
next_holding u k t D = find_same (is_holding u k (Some t)) (λ v. holds_null u k v && is_lt (fact_cmp t v)) (λ v. turn (is_lt (fact_cmp t v)) (holds_null u k v)) D
  where
    turn : (a b : Bool) → (a && b) ≡ (b && a)
    turn true true = refl
    turn true false = refl
    turn false true = refl
    turn false false = refl

-- One more is found.
pub one_found : (q : Fact → Bool) (D xs whole : List Fact) (o : Option Fact) (t : Fact) (next : Option Fact) → IsRepository D → o ≡ Some t → next ≡ find (λ v. q v && is_lt (fact_cmp t v)) D
    → xs ++ rest_of q D o ≡ whole → (xs ++ t ∷ []) ++ rest_of q D next ≡ whole
one_found q D xs whole o t next s e n w =
    append_assoc xs (t ∷ []) (rest_of q D next)
    ∙ ap (λ l. xs ++ t ∷ l) (ap (rest_of q D) n ∙ sym (moves q D t s)) ∙ ap (λ x. xs ++ rest_of q D x) (sym e) ∙ w

-- A tuple of the relation says that the mapping is in force where the number is its only value.
pub says_force : (n : ℕ) (t : Tuple) (vs : List Value) (b : Bool) → t.relation ≡ force_relation → vs ≡ t.values.items → Decides b (map datum_of vs ≡ Number (pos n) ∷ []) → b ≡ same_fact (force n) (fact_of t)
says_force n t vs b e k h = same_from_decides b (same_fact (force n) (fact_of t)) whole (same_fact_decides (force n) (fact_of t))
  where
    whole : Decides b (force n ≡ fact_of t)
    whole = (
      λ f. λ i. record { relation = sym e i; values = (sym (h.0 f) ∙ ap (map datum_of) k) i },
      λ g. h.1 (ap (map datum_of) k ∙ ap (λ (u : Fact). u.values) (sym g)),
    )

-- A tuple of another relation does not.
pub says_nothing : (n : ℕ) (t : Tuple) → (t.relation ≡ force_relation → ⊥) → (t.relation == force_relation) ≡ same_fact (force n) (fact_of t)
says_nothing n t e =
    ne_eqb t.relation force_relation e
    ∙ same_from_decides false (same_fact (force n) (fact_of t)) (λ f. differ f, λ g. absurd (e (ap (λ (u : Fact). u.relation) (sym g)))) (same_fact_decides (force n) (fact_of t))

-- A small number is read back as it was written.
read_back : (n : ℕ) → n < 2 ^ 16 → to_z w64 (of_z w64 (pos n)) ≡ pos n
read_back n h = to_z_pos w64 n (omega (arith, h))

-- Values that are the same as this number alone are this number.
pub alone_decides : (vs ws : List Value) (z : ℤ) (n : ℕ) → n < 2 ^ 16 → z ≡ pos n → ws ≡ Int (to_z w64 (of_z w64 z)) ∷ [] → Decides (pointwise (eq_by_cmp (on datum_of datum_cmp)) vs ws) (map datum_of vs ≡ Number (pos n) ∷ [])
alone_decides vs ws z n h e k =
    subst (λ (l : List Datum). Decides (pointwise (eq_by_cmp (on datum_of datum_cmp)) vs ws) (map datum_of vs ≡ l))
    (ap (map datum_of) k ∙ ap (λ (i : ℤ). Number i ∷ []) (ap (λ (i : ℤ). to_z w64 (of_z w64 i)) e ∙ read_back n h))
    (pointwise_decides datum_of (eq_by_cmp (on datum_of datum_cmp)) (λ x y. same_datum_decides (datum_of x) (datum_of y)) vs ws)
