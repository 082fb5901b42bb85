-- A cursor that goes on from tuple to tuple goes over all that come after it.
use Rattle.std.proofs.Common.{◌≡◌, ℕ, suc, ◌<◌, length, ap, refl, sym, ◌∙◌, List, ◌∷◌, Bool, true, false, ◌&&◌, cond, Option, Some, None, [], inl, inr}
use Rattle.std.specs.Cmp.Lexicographic.{slice_cmp}
use Rattle.std.specs.Ordering.{is_lt, nat_cmp, ordering_then}
use Rattle.std.specs.declared.cmp.Ordering.{Ordering}
use Rattle.std.specs.declared.cmp.Ordering.TheVariants.{Greater}
use Rattle.std.specs.Prelude.{find, filter, ◌==◌}
use Rattle.std.proofs.lemmas.Bool.{and_parts, cases_eq, ne_eqb}
use Rattle.def_chase.specs.Values.{Datum, Fact, datum_cmp, fact_cmp}
use Rattle.def_chase.specs.Repository.{IsRepository}
use Rattle.def_chase.specs.Cursors.{is_of, is_past, is_beyond, has_at, is_scanned, scan_of}
use Rattle.def_chase.proofs.Bools.{differ, and-true, and-false}
use Rattle.def_chase.proofs.Cursors.{found_begins, is_of-is}
use Rattle.def_chase.proofs.Order.{fact_total}
use Rattle.def_chase.proofs.Searches.{find_filter, find_same, filter_as, none_passes, found_passes}
use Rattle.def_chase.specs.Queries.{holds_null}
use Rattle.base_types.specs.Candidates.{is_holding}
use Rattle.base_types.specs.Meanings.{datum_of}
use Rattle.set_facts.specs.Courses.{ahead, is_ahead, comes_after}
use Rattle.set_facts.specs.declared.course.Course.{Course}
use Rattle.set_facts.specs.declared.course.Course.TheVariants.{All, Relation, Column, Holding}
use Rattle.set_facts.proofs.Unions.{lt_less}

-- What passes p and is above a tuple that passes p is what comes after it by q.
abbrev pub Follows : (Fact → Bool) → (Fact → Fact → Bool) → Type 0
Follows p q = (v u : Fact) → p v ≡ true → (p u && is_lt (fact_cmp v u)) ≡ q v u

-- A cursor at the first that passes has all that passes ahead.
pub all_ahead : (p : Fact → Bool) (q : Fact → Fact → Bool) (D : List Fact) → Follows p q → IsRepository D → (o : Option Fact) → o ≡ find p D → ahead q D o ≡ filter p D
all_ahead p q D f s o e = ap (ahead q D) e ∙ by (find p D) refl
  where
    by : (o : Option Fact) → find p D ≡ o → ahead q D o ≡ filter p D
    by None e = sym (none_passes p D e)
    by (Some t) e = sym (found_begins p D t s e ∙ ap (λ l. t ∷ l) (filter_as (λ u. p u && is_lt (fact_cmp t u)) (q t) (λ u. f t u (found_passes p D t e)) D))

module _ (test : Fact → Bool) (q : Fact → Fact → Bool) (D : List Fact) where
  -- The cursor's tuple passes: it is found.
  pub hit : (o whole : Option Fact) (t : Fact) → o ≡ Some t → test t ≡ true → find test (ahead q D o) ≡ whole → Some t ≡ whole
  hit o whole t e h w = sym (ap (λ x. find test (ahead q D x)) e ∙ ap (λ b. cond b (Some t) (find test (filter (q t) D))) h) ∙ w

  -- It does not pass: the next cursor finds the same.
  pub miss : (o whole : Option Fact) (t : Fact) (next : Option Fact) → IsRepository D → Follows (q t) q → o ≡ Some t → next ≡ find (q t) D → test t ≡ false → find test (ahead q D o) ≡ whole → find test (ahead q D next) ≡ whole
  miss o whole t next s f e n h w =
      ap (find test) (all_ahead (q t) q D f s next n) ∙ sym (ap (λ x. find test (ahead q D x)) e ∙ ap (λ b. cond b (Some t) (find test (filter (q t) D))) h) ∙ w

-- The next cursor has fewer ahead.
pub fewer : (q : Fact → Fact → Bool) (D : List Fact) (o : Option Fact) (t : Fact) (next : Option Fact) → IsRepository D → Follows (q t) q → o ≡ Some t → next ≡ find (q t) D → length (ahead q D o) ≡ suc (length (ahead q D next))
fewer q D o t next s f e n = ap (λ x. length (ahead q D x)) e ∙ ap (λ (l : List Fact). suc (length l)) (sym (all_ahead (q t) q D f s next n))

-- ---- the courses

pub through : (t v u : Fact) → is_lt (fact_cmp t v) ≡ true → is_lt (fact_cmp v u) ≡ true → is_lt (fact_cmp t u) ≡ true
through t v u e f = ap is_lt (fact_total.trans t v u (lt_less t v e) (lt_less v u f))

-- What is of the relation of a tuple, by its relation or by that of another.
same_relation : (r : ℕ) (v u : Fact) → is_of r v ≡ true → (u.relation == r) ≡ (u.relation == v.relation)
same_relation r v u e = ap (λ (n : ℕ). u.relation == n) (sym (is_of-is r v e))

pub relation_follows : (r : ℕ) → Follows (is_of r) is_past
relation_follows r v u e = ap (λ b. b && is_lt (fact_cmp v u)) (same_relation r v u e)

pub past_follows : (t : Fact) → Follows (is_past t) is_past
past_follows t v u e =
    let parts = and_parts (is_of t.relation v) (is_lt (fact_cmp t v)) e in
    by (is_of t.relation u) (is_lt (fact_cmp t u)) (is_lt (fact_cmp v u)) (through t v u parts.1) ∙ relation_follows t.relation v u parts.0
  where
    by : (a b c : Bool) → (c ≡ true → b ≡ true) → ((a && b) && c) ≡ (a && c)
    by false b c h = refl
    by true true c h = refl
    by true false true h = h refl
    by true false false h = refl

pub scanned_follows : (r c : ℕ) (d : Datum) (past : Option Fact) → Follows (is_scanned r c d past) (λ t. is_scanned r c d (Some t))
scanned_follows r c d past v u e = by (is_of r u) (is_beyond past u) (has_at c d u) (is_lt (fact_cmp v u)) (beyond past (second (is_of r v) (is_beyond past v) (has_at c d v) e))
  where
    second : (a b x : Bool) → (a && (b && x)) ≡ true → b ≡ true
    second true true x f = refl
    second true false x f = differ f
    second false b x f = differ f

    beyond : (past : Option Fact) → is_beyond past v ≡ true → is_lt (fact_cmp v u) ≡ true → is_beyond past u ≡ true
    beyond None f h = refl
    beyond (Some t) f h = through t v u f h

    by : (a b x c : Bool) → (c ≡ true → b ≡ true) → ((a && (b && x)) && c) ≡ (a && (c && x))
    by false b x c h = refl
    by true b x true h = swap b x (h refl)
      where
        swap : (b x : Bool) → b ≡ true → ((b && x) && true) ≡ x
        swap true true g = refl
        swap true false g = refl
        swap false x g = differ g
    by true b x false h = off b x
      where
        off : (b x : Bool) → ((b && x) && false) ≡ false
        off true true = refl
        off true false = refl
        off false x = refl

-- The tuple u comes after t.
abbrev pub above : Fact → Fact → Bool
above t u = is_lt (fact_cmp t u)

pub beyond_follows : (past : Option Fact) → Follows (is_beyond past) above
beyond_follows None v u e = refl
beyond_follows (Some t) v u e = by (is_lt (fact_cmp t u)) (is_lt (fact_cmp v u)) (through t v u e)
  where
    by : (b c : Bool) → (c ≡ true → b ≡ true) → (b && c) ≡ c
    by true c h = refl
    by false true h = h refl
    by false false h = refl

pub holding_follows : (update place : ℕ) (past : Option Fact) → Follows (is_holding update place past) (λ t. is_holding update place (Some t))
holding_follows update place past v u e = by (is_beyond past u) (is_lt (fact_cmp v u)) (holds_null update place u) (beyond past (and_parts (is_beyond past v) (holds_null update place v) e).0)
  where
    beyond : (past : Option Fact) → is_beyond past v ≡ true → is_lt (fact_cmp v u) ≡ true → is_beyond past u ≡ true
    beyond None f h = refl
    beyond (Some t) f h = through t v u f h

    by : (b c x : Bool) → (c ≡ true → b ≡ true) → ((b && x) && c) ≡ (c && x)
    by true true x h = and-true x
    by true false x h = and-false x
    by false true x h = differ (h refl)
    by false false x h = refl

pub course_follows : (course : Course) (t : Fact) → Follows (comes_after course t) (comes_after course)
course_follows All t = beyond_follows (Some t)
course_follows Relation t = past_follows t
course_follows (Column r c v) t = scanned_follows r c (datum_of v.now) (Some t)
course_follows (Holding name) t = holding_follows name.update name.place (Some t)

-- ---- what is ahead in a relation

pub ahead_follows : (r : ℕ) (past : Option Fact) → Follows (is_ahead r past) is_past
ahead_follows r past v u e =
    let parts = and_parts (is_of r v) (is_beyond past v) e in
    by (is_of r u) (is_beyond past u) (is_lt (fact_cmp v u)) (beyond past parts.1) ∙ relation_follows r v u parts.0
  where
    beyond : (past : Option Fact) → is_beyond past v ≡ true → is_lt (fact_cmp v u) ≡ true → is_beyond past u ≡ true
    beyond None f h = refl
    beyond (Some t) f h = through t v u f h

    by : (a b c : Bool) → (c ≡ true → b ≡ true) → ((a && b) && c) ≡ (a && c)
    by false b c h = refl
    by true b true h = ap (λ x. x && true) (h refl)
    by true b false h = and-false b

-- What a scan that begins at the first that is ahead has ahead finds what the whole set finds.
pub scan_begins : (r c : ℕ) (d : Datum) (past : Option Fact) (D : List Fact) (o : Option Fact) → IsRepository D → o ≡ find (is_ahead r past) D → find (is_scanned r c d past) (ahead is_past D o) ≡ scan_of D r c d past
scan_begins r c d past D o s e =
    ap (find (is_scanned r c d past)) (all_ahead (is_ahead r past) is_past D (ahead_follows r past) s o e)
    ∙ find_filter (is_scanned r c d past) (is_ahead r past) (λ u. both_of (is_of r u) (is_beyond past u) (has_at c d u)) D
  where
    both_of : (a b x : Bool) → (a && (b && x)) ≡ true → (a && b) ≡ true
    both_of true true x g = refl
    both_of true false x g = differ g
    both_of false b x g = differ g

module _ (r : ℕ) (t : Fact) where
  -- How t stands to the tuples of the relation is how its relation does.
  stands : (o : Ordering) → nat_cmp t.relation r ≡ o → (u : Fact) → u.relation ≡ r → fact_cmp t u ≡ ordering_then o (slice_cmp datum_cmp t.values u.values)
  stands o e u f = ap (λ p. ordering_then p (slice_cmp datum_cmp t.values u.values)) (ap (nat_cmp t.relation) f ∙ e)

  -- A tuple of a greater relation has none of the relation ahead.
  pub ahead_of_greater : nat_cmp t.relation r ≡ Greater → (D : List Fact) → None ≡ find (is_ahead r (Some t)) D
  ahead_of_greater e D = sym (find_same (is_ahead r (Some t)) (λ u. false) (λ u. elim (cases_eq u.relation r) [
    | inl f ↦ ap (λ b. is_of r u && b) (ap is_lt (stands Greater e u f)) ∙ and-false (is_of r u)
    | inr n ↦ ap (λ b. b && is_lt (fact_cmp t u)) (ne_eqb u.relation r n)
  ]) D ∙ none D)
    where
      none : (D : List Fact) → find (λ (u : Fact). false) D ≡ None
      none [] = refl
      none (u ∷ D) = none D

-- A search among what passes is a search for what passes both.
pub find_among : (p q : Fact → Bool) (D : List Fact) → find q (filter p D) ≡ find (λ u. p u && q u) D
find_among p q [] = refl
find_among p q (u ∷ D) = by (p u) (find_among p q D)
  where
    by : (b : Bool) → find q (filter p D) ≡ find (λ v. p v && q v) D → find q (cond b (u ∷ filter p D) (filter p D)) ≡ cond (b && q u) (Some u) (find (λ v. p v && q v) D)
    by true h = ap (cond (q u) (Some u)) h
    by false h = h
