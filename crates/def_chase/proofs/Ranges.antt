-- What a range from a bound on begins with, as the first tuple of a relation that passes.
use Rattle.std.proofs.Common.{◌≡◌, ℕ, ◌<◌, ◌≤◌, ap, refl, sym, ◌∙◌, List, [], ◌∷◌, Bool, true, false, ◌&&◌, cond, Some, None, arith, inl, inr}
use Rattle.std.specs.Cmp.Lexicographic.{slice_cmp}
use Rattle.std.specs.List.{AllByRecursion}
use Rattle.std.specs.List.Sorted.{IsStrictlySortedBy}
use Rattle.std.specs.Ordering.{is_lt, is_le, nat_cmp, ordering_then, MatchOrdering}
use Rattle.std.specs.Prelude.{find}
use Rattle.std.specs.declared.cmp.Ordering.{Ordering}
use Rattle.std.specs.declared.cmp.Ordering.TheVariants.{Less, Equal, Greater}
use Rattle.std.proofs.lemmas.Bool.{eq-eqb, ne_eqb, cases_eq}
use Rattle.std.proofs.lemmas.Cmp.{ranked}
use Rattle.def_chase.specs.Values.{Datum, Fact, datum_cmp, fact_cmp}
use Rattle.def_chase.specs.Repository.{IsRepository}
use Rattle.def_chase.specs.Cursors.{is_of, is_past, kept_if, first_of, next_of}
use Rattle.def_chase.proofs.Bools.{differ, and-true}
use Rattle.def_chase.proofs.Searches.{find_same}

-- Where what passes q and fails p is followed by what fails p, the first that passes both is the first that passes q, if it passes p.
module _ (p q : Fact → Bool) (late : (u v : Fact) → q u ≡ true → p u ≡ false → fact_cmp u v ≡ Less → p v ≡ false) where
  none_later : (u : Fact) → q u ≡ true → p u ≡ false → (D : List Fact) → AllByRecursion (λ v. fact_cmp u v ≡ Less) D → find (λ v. p v && q v) D ≡ None
  none_later u a b [] h = refl
  none_later u a b (v ∷ D) h = ap (λ c. cond (c && q v) (Some v) (find (λ w. p w && q w) D)) (late u v a b h.0) ∙ none_later u a b D h.1

  pub find_first : (D : List Fact) → IsRepository D → kept_if p (find q D) ≡ find (λ v. p v && q v) D
  unfolding IsStrictlySortedBy
  find_first [] s = refl
  find_first (u ∷ D) s = by (q u) refl (p u) refl (find_first D s.1)
    where
      and-false : (a : Bool) → (a && false) ≡ false
      and-false true = refl
      and-false false = refl

      by : (b : Bool) → q u ≡ b → (c : Bool) → p u ≡ c → kept_if p (find q D) ≡ find (λ v. p v && q v) D → kept_if p (cond b (Some u) (find q D)) ≡ cond (c && b) (Some u) (find (λ v. p v && q v) D)
      by true e true f h = ap (λ a. cond a (Some u) None) f
      by true e false f h = ap (λ a. cond a (Some u) None) f ∙ sym (none_later u e f D s.0)
      by false e c f h = h ∙ ap (λ a. cond a (Some u) (find (λ v. p v && q v) D)) (sym (and-false c))

-- What is not above has no greater relation.
pub relation_le : (s t : Fact) → is_le (fact_cmp s t) ≡ true → s.relation ≤ t.relation
relation_le s t = by (nat_cmp s.relation t.relation) (ranked s.relation t.relation _ refl)
  where
    by : (o : Ordering) → MatchOrdering o (s.relation < t.relation) (s.relation ≡ t.relation) (t.relation < s.relation) → is_le (ordering_then o (slice_cmp datum_cmp s.values t.values)) ≡ true → s.relation ≤ t.relation
    by Less m e = omega arith
    by Equal m e = omega arith
    by Greater m e = cc

below_le : (s t : Fact) → fact_cmp s t ≡ Less → s.relation ≤ t.relation
below_le s t e = relation_le s t (ap is_le e)

is_of-false : (r : ℕ) (u : Fact) → r < u.relation → is_of r u ≡ false
is_of-false r u h = ne_eqb u.relation r (λ e. omega (arith, e))

is_of-above : (r : ℕ) (u : Fact) → r ≤ u.relation → is_of r u ≡ false → r < u.relation
is_of-above r u h e = elim (cases_eq u.relation r) [ inl f ↦ differ (sym e ∙ eq-eqb u.relation r f) | inr n ↦ omega (arith, n) ]

-- Where what passes q is of no lesser relation, what follows what is past the relation is past it too.
late_of : (r : ℕ) (q : Fact → Bool) → ((u : Fact) → q u ≡ true → r ≤ u.relation) → (u v : Fact) → q u ≡ true → is_of r u ≡ false → fact_cmp u v ≡ Less → is_of r v ≡ false
late_of r q up u v a b h =
    let x : r < u.relation = is_of-above r u (up u a) b in
    let y : u.relation ≤ v.relation = below_le u v h in
    is_of-false r v (omega arith)

-- The tuple comes after t, as a range says it.
abbrev pub above : Fact → Fact → Bool
above t u = is_lt (fact_cmp t u) && true

pub first_above : (t : Fact) (D : List Fact) → IsRepository D → kept_if (is_of t.relation) (find (above t) D) ≡ next_of D t
first_above t D s =
    find_first (is_of t.relation) (above t) (late_of t.relation (above t) (λ u e. by u (fact_cmp t u) refl (sym (and-true (is_lt (fact_cmp t u))) ∙ e))) D s
    ∙ find_same (λ u. is_of t.relation u && above t u) (is_past t) (λ u. ap (λ b. is_of t.relation u && b) (and-true (is_lt (fact_cmp t u)))) D
  where
    by : (u : Fact) (o : Ordering) → fact_cmp t u ≡ o → is_lt (fact_cmp t u) ≡ true → t.relation ≤ u.relation
    by u Less f e = below_le t u f
    by u Equal f e = differ (sym (ap is_lt f) ∙ e)
    by u Greater f e = differ (sym (ap is_lt f) ∙ e)

-- The least tuple that a relation could have.
abbrev pub least : ℕ → Fact
least r = record { relation = r; values = [] }

abbrev pub from_least : ℕ → Fact → Bool
from_least r u = is_le (fact_cmp (least r) u) && true

short : (vs : List Datum) → is_le (slice_cmp datum_cmp [] vs) ≡ true
short [] = refl
short (v ∷ vs) = refl

at_relation : (r : ℕ) (u : Fact) (o : Ordering) → MatchOrdering o (r < u.relation) (r ≡ u.relation) (u.relation < r) → u.relation ≡ r → is_le (ordering_then o (slice_cmp datum_cmp [] u.values)) ≡ true
at_relation r u Less m e = refl
at_relation r u Equal m e = short u.values
at_relation r u Greater m e = absurd (omega arith)

-- The tuples of the relation are from the least one on.
pub from_least_of : (r : ℕ) (u : Fact) → (is_of r u && from_least r u) ≡ is_of r u
from_least_of r u = elim (cases_eq u.relation r) [
  | inl e ↦ ap (λ b. is_of r u && (b && true)) (at_relation r u (nat_cmp r u.relation) (ranked r u.relation _ refl) e) ∙ and-true (is_of r u)
  | inr n ↦ ap (λ b. b && from_least r u) (ne_eqb u.relation r n) ∙ sym (ne_eqb u.relation r n)
]

pub first_from : (r : ℕ) (D : List Fact) → IsRepository D → kept_if (is_of r) (find (from_least r) D) ≡ first_of D r
first_from r D s =
    find_first (is_of r) (from_least r) (late_of r (from_least r) (λ u e. relation_le (least r) u (sym (and-true (is_le (fact_cmp (least r) u))) ∙ e))) D s
    ∙ find_same (λ u. is_of r u && from_least r u) (is_of r) (from_least_of r) D
