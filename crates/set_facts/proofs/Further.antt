-- The candidates of a set of which some tuples are hidden and to which some are added, and the first of them.
use Rattle.std.proofs.Common.{◌≡◌, ℕ, zero, suc, ◌-◌, ◌<◌, ◌≤◌, ap, refl, sym, ◌∙◌, subst, List, [], ◌∷◌, length, map, take, Bool, true, false, ◌||◌, ◌&&◌, not, cond, filter, Option, Some, None, arith}
use Rattle.std.specs.Prelude.{◌==◌, is_some}
use Rattle.std.specs.List.{list_any}
use Rattle.std.specs.List.Sorted.{IsStrictlySortedBy}
use Rattle.base_types.specs.Candidates.{is_candidate, further_candidates, AreFirst}
use Rattle.base_types.specs.Meanings.{fact_of}
use Rattle.base_types.specs.declared.tuples.Tuple.{Tuple}
use Rattle.base_types.proofs.NextCandidates.{candidate_of}
use Rattle.def_chase.specs.Cursors.{is_beyond, is_of}
use Rattle.def_chase.specs.Repository.{IsRepository, has}
use Rattle.def_chase.specs.Values.{Datum, Fact, same_fact}
use Rattle.def_chase.proofs.Bools.{and-true, differ}
use Rattle.def_chase.proofs.Members.{has-filter}
use Rattle.def_chase.proofs.Searches.{filter_all, filter_as, filter_within, found_any, none_passes}
use Rattle.def_chase.proofs.Sets.{filter_in_order, same_repository}
use Rattle.base_tree.specs.Few.{Batch, most}
use Rattle.set_facts.specs.Courses.{is_ahead}
use Rattle.set_facts.specs.Overlaid.{overlaid}
use Rattle.set_facts.specs.Places.{HasAllThat}
use Rattle.set_facts.specs.Runs.{left_of, merged}
use Rattle.set_facts.proofs.Ahead.{none_from}
use Rattle.set_facts.proofs.AtHand.{lacking}
use Rattle.set_facts.proofs.Courses.{find_among}
use Rattle.set_facts.proofs.Merged.{merged_passing, room_taken, take_merged}
use Rattle.set_facts.proofs.Overlays.{has-overlaid, overlaid_in_order}
use Rattle.set_facts.proofs.Running.{room_left}

-- The test that candidates pass.
abbrev pub passes : ℕ → Option (ℕ × Datum) → Option Fact → Fact → Bool
passes r c past u = is_candidate r c u && is_beyond past u

pub further_as : (r : ℕ) (c : Option (ℕ × Datum)) (past : Option Fact) (D : List Fact) → further_candidates D r c past ≡ filter (passes r c past) D
further_as r c None D = sym (filter_as (passes r c None) (is_candidate r c) (λ u. and-true (is_candidate r c u)) D)
further_as r c (Some t) D = refl

-- Where there is no candidate there is none past a tuple.
none_lacking : (p q : Fact → Bool) (D : List Fact) → list_any p D ≡ false → filter (λ u. p u && q u) D ≡ []
none_lacking p q [] h = refl
none_lacking p q (u ∷ D) h = by (p u) refl h (λ g. none_lacking p q D g)
  where
    by : (a : Bool) → p u ≡ a → (a || list_any p D) ≡ false → (list_any p D ≡ false → filter (λ v. p v && q v) D ≡ []) → filter (λ v. p v && q v) (u ∷ D) ≡ []
    by true e g k = absurd (differ (sym g))
    by false e g k = rw e (k g)

pub lacks_further : (D : List Fact) (r : ℕ) (c : Option (ℕ × Datum)) (past : Option Fact) → list_any (is_candidate r c) D ≡ false → further_candidates D r c past ≡ []
lacks_further D r c past h = further_as r c past D ∙ none_lacking (is_candidate r c) (is_beyond past) D h

first : (a b : Bool) → (a && b) ≡ true → a ≡ true
first true b h = refl
first false b h = h

pub merged_none : (xs : List Fact) → merged xs [] ≡ xs
merged_none [] = refl
merged_none (x ∷ xs) = ap (λ l. x ∷ l) (merged_none xs)

-- What is filtered twice, in either order.
filter_turned : (p q : Fact → Bool) (D : List Fact) → filter q (filter p D) ≡ filter p (filter q D)
filter_turned p q [] = refl
filter_turned p q (u ∷ D) = by (p u) refl (q u) refl (filter_turned p q D)
  where
    by : (a : Bool) → p u ≡ a → (b : Bool) → q u ≡ b → filter q (filter p D) ≡ filter p (filter q D) → filter q (cond a (u ∷ filter p D) (filter p D)) ≡ filter p (cond b (u ∷ filter q D) (filter q D))
    by true e true f i = rw (e, f) (ap (λ l. u ∷ l) i)
    by true e false f i = rw f i
    by false e true f i = rw e i
    by false e false f i = i

module _ (D hidden added : List Fact) (s : IsRepository D) (t : IsRepository added) where
  whole : (u : Fact) → has (overlaid D hidden added) u ≡ (has (left_of hidden D) u || has added u)
  whole u = has-overlaid D hidden added u ∙ ap (λ b. b || has added u) (sym (has-filter (λ v. not (has hidden v)) D u))

  pub passing_overlaid : (p : Fact → Bool) → merged (filter p (left_of hidden D)) (filter p added) ≡ filter p (overlaid D hidden added)
  passing_overlaid p =
      merged_passing p (left_of hidden D) added (overlaid D hidden added) (filter_in_order (λ v. not (has hidden v)) D s) t (overlaid_in_order D hidden added s) whole

  pub all_overlaid : merged (left_of hidden D) added ≡ overlaid D hidden added
  all_overlaid = (λ i. merged (sym (filter_all (left_of hidden D)) i) (sym (filter_all added) i)) ∙ passing_overlaid (λ u. true) ∙ filter_all (overlaid D hidden added)

  module _ (r : ℕ) (c : Option (ℕ × Datum)) (past : Option Fact) where
    abbrev all : List Fact → List Fact
    all E = further_candidates E r c past

    pub candidates_overlaid : merged (left_of hidden (all D)) (all added) ≡ all (overlaid D hidden added)
    candidates_overlaid =
        (λ i. merged ((ap (left_of hidden) (further_as r c past D) ∙ filter_turned (passes r c past) (λ u. not (has hidden u)) D) i) (further_as r c past added i))
        ∙ passing_overlaid (passes r c past) ∙ sym (further_as r c past (overlaid D hidden added))

    -- Where the set has none, the first of what is added are the first.
    pub added_alone : (few : Batch Tuple) → all D ≡ [] → AreFirst few (all added) → AreFirst few (all (overlaid D hidden added))
    added_alone few none first = subst (λ (E : List Fact). AreFirst few E) (ap (λ (E : List Fact). merged (left_of hidden E) (all added)) (sym none) ∙ candidates_overlaid) first

    -- Where no candidate is hidden and none is added, those of the set are all.
    unchanged : all added ≡ [] → ((u : Fact) → passes r c past u ≡ true → has hidden u ≡ false) → all (overlaid D hidden added) ≡ all D
    unchanged none unhidden = sym candidates_overlaid ∙ (λ i. merged (kept i) (none i)) ∙ merged_none (all D)
      where
        kept : left_of hidden (all D) ≡ all D
        kept =
            ap (left_of hidden) (further_as r c past D) ∙ filter_turned (passes r c past) (λ u. not (has hidden u)) D
            ∙ sym (filter_within (passes r c past) (λ u. not (has hidden u)) (λ u h. ap not (unhidden u h)) D) ∙ sym (further_as r c past D)

    pub none_written : all added ≡ [] → list_any (is_candidate r c) hidden ≡ false → all (overlaid D hidden added) ≡ all D
    none_written none free = unchanged none (λ u h. lacking (is_candidate r c) hidden u free (first (is_candidate r c u) (is_beyond past u) h))

    -- The same where none of the relation is hidden beyond the tuple.
    pub none_hidden : all added ≡ [] → further_candidates hidden r None past ≡ [] → all (overlaid D hidden added) ≡ all D
    none_hidden none free = unchanged none unhidden
      where
        hides_none : (u : Fact) → (has hidden u && passes r None past u) ≡ false
        hides_none u = sym (has-filter (passes r None past) hidden u) ∙ ap (λ (E : List Fact). has E u) (sym (further_as r None past hidden) ∙ free)

        within : (u : Fact) → passes r c past u ≡ true → passes r None past u ≡ true
        within u h = by (is_candidate r c u) refl (is_beyond past u) h
          where
            by : (a : Bool) → is_candidate r c u ≡ a → (b : Bool) → (a && b) ≡ true → (is_of r u && b) ≡ true
            by true e b g = ap (λ x. x && b) (candidate_of r c u e) ∙ g
            by false e b g = differ g

        unhidden : (u : Fact) → passes r c past u ≡ true → has hidden u ≡ false
        unhidden u h = sym (and-true (has hidden u)) ∙ ap (λ b. has hidden u && b) (sym (within u h)) ∙ hides_none u

    -- The first of both are the first, also where but the first of what is added are known.
    pub both_first : (few : Batch Tuple) (run some : List Fact) → run ≡ all D → some ≡ take most (all added) → AreFirst few (merged (left_of hidden run) some) → AreFirst few (all (overlaid D hidden added))
    both_first few run some is first h =
        let X = left_of hidden (all D) in
        let Y = all added in
        let those : AreFirst few (merged X (take most Y)) = subst (λ (E : List Fact). AreFirst few E) (λ i. merged (left_of hidden (is i)) (first i)) h in
        let same : take most (merged X (take most Y)) ≡ take most (merged X Y) = take_merged X most most Y (omega arith) in
        subst (λ (E : List Fact). AreFirst few E) candidates_overlaid
        (record {
          first = those.first ∙ same;
          room = those.room ∙ room_taken most (merged X (take most Y)) ∙ ap (λ (l : List Fact). most - length l) same ∙ sym (room_taken most (merged X Y));
        })

-- ---- a few that are all

take_whole : {X : Type 0} (n : ℕ) (xs : List X) → length xs ≤ n → take n xs ≡ xs
take_whole zero [] h = refl
take_whole (suc n) [] h = refl
take_whole zero (x ∷ xs) h = absurd (omega (arith, h))
take_whole (suc n) (x ∷ xs) h = ap (λ l. x ∷ l) (take_whole n xs (omega (arith, h)))

-- Where there is room for more the first ones are all.
pub few_whole : (few : Batch Tuple) (all : List Fact) → AreFirst few all → false ≡ (few.room == 0) → map fact_of few.left ≡ all
few_whole few all h e =
    let room = h.room in
    let some = room_left few.room e in
    h.first ∙ take_whole most all (omega (arith, room, some))

-- ---- gathering a few

-- What has the first one by whatever test has all of them.
pub filter_all_that : (p q : Fact → Bool) (D rest : List Fact) → HasAllThat q D rest → ((u : Fact) → p u ≡ true → q u ≡ true) → IsRepository D → IsRepository rest → filter p rest ≡ filter p D
filter_all_that p q D rest all within s t =
    same_repository (filter p rest) (filter p D) (filter_in_order p rest t) (filter_in_order p D s)
    (λ u. sym (found_any (same_fact u) (filter p rest))
    ∙ ap is_some (find_among p (same_fact u) rest ∙ all (λ v. p v && same_fact u v) (λ v h. within v (first (p v) (same_fact u v) h)) ∙ sym (find_among p (same_fact u) D))
    ∙ found_any (same_fact u) (filter p D))

passes_ahead : (r : ℕ) (c : Option (ℕ × Datum)) (past : Option Fact) (u : Fact) → passes r c past u ≡ true → is_ahead r past u ≡ true
passes_ahead r c past u h = by (is_candidate r c u) refl (is_beyond past u) h
  where
    by : (a : Bool) → is_candidate r c u ≡ a → (b : Bool) → (a && b) ≡ true → (is_of r u && b) ≡ true
    by true e b h = ap (λ x. x && b) (candidate_of r c u e) ∙ h
    by false e b h = differ h

pub further_all_that : (r : ℕ) (c : Option (ℕ × Datum)) (past : Option Fact) (D rest : List Fact) → HasAllThat (is_ahead r past) D rest → IsRepository D → IsRepository rest → further_candidates rest r c past ≡ further_candidates D r c past
further_all_that r c past D rest all s t =
    further_as r c past rest ∙ filter_all_that (passes r c past) (is_ahead r past) D rest all (passes_ahead r c past) s t ∙ sym (further_as r c past D)

pub rest_ordered : (D rest : List Fact) (t : Fact) → D ≡ t ∷ rest → IsRepository D → IsRepository rest
unfolding IsStrictlySortedBy
rest_ordered D rest t next s = (subst IsRepository next s).1

-- The next tuple of a run.
module _ (r : ℕ) (c : Option (ℕ × Datum)) (past : Option Fact) (D rest : List Fact) (t : Fact) (next : D ≡ t ∷ rest) where
  abbrev these : List Fact → List Fact
  these E = further_candidates E r c past

  by_test : these D ≡ cond (passes r c past t) (t ∷ these rest) (these rest)
  by_test =
      further_as r c past D ∙ ap (filter (passes r c past)) next
      ∙ ap (λ (l : List Fact). cond (passes r c past t) (t ∷ l) l) (sym (further_as r c past rest))

  pub one_kept : true ≡ passes r c past t → these D ≡ t ∷ these rest
  one_kept e = by_test ∙ ap (λ b. cond b (t ∷ these rest) (these rest)) (sym e)

  pub one_left : false ≡ passes r c past t → these D ≡ these rest
  one_left e = by_test ∙ ap (λ b. cond b (t ∷ these rest) (these rest)) (sym e)

  -- From a tuple of a greater relation on there is none, nor after it.
  module _ (s : IsRepository D) (h : r < t.relation) where
    pub none_further : these D ≡ []
    none_further =
        further_as r c past D ∙ ap (filter (passes r c past)) next
        ∙ none_passes (passes r c past) (t ∷ rest) (none_from (passes r c past) r t rest (λ u e. candidate_of r c u (first (is_candidate r c u) (is_beyond past u) e)) h (subst IsRepository next s))

    pub none_after : these rest ≡ []
    none_after = by (passes r c past t) refl
      where
        by : (b : Bool) → passes r c past t ≡ b → these rest ≡ []
        by true e = no (sym (one_kept (sym e)) ∙ none_further)
          where
            no : t ∷ these rest ≡ [] → these rest ≡ []
            no f = absurd (cc)
        by false e = sym (one_left (sym e)) ∙ none_further
