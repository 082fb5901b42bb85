-- What an update sees before the first tuple that was written or taken is what the base has there.
use Rattle.std.proofs.Common.{◌≡◌, ◌<◌, ◌≤◌, arith, ap, refl, sym, ◌∙◌, subst, List, [], ◌∷◌, ◌++◌, length, take, Bool, true, false, ◌&&◌, ◌||◌, not, cond, filter, find, Option, Some, None, Bor, inl, inr}
use Rattle.std.specs.Cmp.Lexicographic.{slice_cmp}
use Rattle.std.specs.List.{AllByRecursion}
use Rattle.std.specs.List.Sorted.{IsStrictlySortedBy}
use Rattle.std.specs.Cmp.{tied_itself}
use Rattle.std.specs.Option.{option_copied, option_map, option_or}
use Rattle.std.specs.Ordering.{is_le, is_lt, nat_cmp, ordering_reverse, ordering_then, MatchOrdering}
use Rattle.std.specs.Prelude.{option_to_list}
use Rattle.std.specs.declared.cmp.Ordering.{Ordering}
use Rattle.std.specs.declared.cmp.Ordering.TheVariants.{Less, Equal, Greater}
use Rattle.std.proofs.lemmas.Bool.{and_parts, eq-eqb, ne_eqb, cases_eq}
use Rattle.std.proofs.lemmas.Cmp.{ranked}
use Rattle.std.proofs.lemmas.List.{append_assoc, append-nil}
use Rattle.base_types.specs.Candidates.{Begin}
use Rattle.base_types.specs.Meanings.{fact_of}
use Rattle.base_types.specs.declared.tuples.Tuple.{Tuple}
use Rattle.set_facts.specs.Overlaid.{overlaid}
use Rattle.set_facts.specs.Places.{is_from, is_inside}
use Rattle.set_facts.specs.Runs.{left_of, merged}
use Rattle.set_facts.proofs.AtHand.{filter_among}
use Rattle.set_facts.proofs.Further.{merged_none, passing_overlaid}
use Rattle.set_facts.proofs.Overlays.{has-overlaid, overlaid_in_order}
use Rattle.def_chase.specs.Cursors.{is_of, is_past, is_beyond}
use Rattle.def_chase.specs.Repository.{IsRepository, has}
use Rattle.def_chase.specs.Values.{Datum, Fact, datum_cmp, fact_cmp}
use Rattle.def_chase.proofs.Bools.{and-true, differ, or_right, some_same}
use Rattle.def_chase.proofs.Cursors.{found_begins, is_of-is}
use Rattle.def_chase.proofs.Members.{found_has, has-filter, least_found}
use Rattle.def_chase.proofs.Order.{fact_exact, fact_total}
use Rattle.def_chase.proofs.Ranges.{relation_le}
use Rattle.def_chase.proofs.Searches.{all_weaker, filter_alike, filter_all, filter_as, filter_within, find_none, found_passes, none_passes}
use Rattle.def_chase.proofs.Sets.{filter_in_order}
use Rattle.set_versions.specs.Marked.{put_first}

-- ---- below a tuple

-- The tuple, if there is one, is not below d.
abbrev IsNoLower : Fact → Option Fact → Type 0
IsNoLower d None = Unit {0}
IsNoLower d (Some p) = is_from d p ≡ true

abbrev is_below : Fact → Fact → Bool
is_below d u = not (is_from d u)

-- What is above one that is not below d is not below d.
from_above : (d p u : Fact) → is_from d p ≡ true → is_lt (fact_cmp p u) ≡ true → is_from d u ≡ true
from_above d p u h e = by (fact_cmp d p) refl (fact_cmp p u) refl h e
  where
    by : (o : Ordering) → fact_cmp d p ≡ o → (q : Ordering) → fact_cmp p u ≡ q → is_le o ≡ true → is_lt q ≡ true → is_from d u ≡ true
    by Less f Less g h e = ap is_le (fact_total.trans d p u f g)
    by Equal f Less g h e = ap is_le (ap (λ (v : Fact). fact_cmp v u) (fact_exact d p f) ∙ g)
    by Greater f q g h e = differ h
    by Less f Equal g h e = differ e
    by Less f Greater g h e = differ e
    by Equal f Equal g h e = differ e
    by Equal f Greater g h e = differ e

above_from : (t u : Fact) → is_beyond (Some t) u ≡ true → is_from t u ≡ true
above_from t u = by (fact_cmp t u)
  where
    by : (o : Ordering) → is_lt o ≡ true → is_le o ≡ true
    by Less e = refl
    by Equal e = refl
    by Greater e = differ e

from_itself : (t : Fact) → is_from t t ≡ true
from_itself t = ap is_le (tied_itself fact_total t)

-- The first that passes is not below d, so none that passes is.
none_below : (p : Fact → Bool) (d : Fact) (D : List Fact) (o : Option Fact) → IsRepository D → o ≡ find p D → IsNoLower d o → filter (λ u. p u && is_below d u) D ≡ []
none_below p d D None s e h = filter_among p (is_below d) D ∙ ap (filter (is_below d)) (none_passes p D (sym e))
none_below p d D (Some t) s e h =
    filter_among p (is_below d) D ∙ ap (filter (is_below d)) (found_begins p D t s (sym e))
    ∙ ap (λ b. cond (not b) (t ∷ filter (is_below d) above) (filter (is_below d) above)) h
    ∙ sym (filter_among q (is_below d) D) ∙ none_passes (λ u. q u && is_below d u) D (find_none (λ u. q u && is_below d u) none D)
  where
    q : Fact → Bool
    q u = p u && is_lt (fact_cmp t u)

    above : List Fact
    above = filter q D

    none : (u : Fact) → (q u && is_below d u) ≡ false
    none u = by (p u) (is_lt (fact_cmp t u)) refl (is_from d u) refl
      where
        by : (a b : Bool) → is_lt (fact_cmp t u) ≡ b → (c : Bool) → is_from d u ≡ c → ((a && b) && not c) ≡ false
        by false b f c g = refl
        by true false f c g = refl
        by true true f true g = refl
        by true true f false g = differ (sym g ∙ from_above d t u h f)

-- A set in order is what is below a tuple, and what is not.
parted : (d : Fact) (D : List Fact) → IsRepository D → filter (is_below d) D ++ filter (is_from d) D ≡ D
unfolding IsStrictlySortedBy
parted d [] s = refl
parted d (u ∷ D) s = by (is_from d u) refl (parted d D s.1)
  where
    from : is_from d u ≡ true → AllByRecursion (λ v. is_from d v ≡ true) D
    from e = all_weaker (λ v. fact_cmp u v ≡ Less) (λ v. is_from d v ≡ true) (λ v f. from_above d u v e (ap is_lt f)) D s.0

    all : is_from d u ≡ true → filter (is_from d) D ≡ D
    all e = filter_alike (is_from d) (λ _. true) D (from e) ∙ filter_all D

    none : is_from d u ≡ true → filter (is_below d) D ≡ []
    none e =
        filter_alike (is_below d) (λ _. false) D (all_weaker (λ v. is_from d v ≡ true) (λ v. is_below d v ≡ false) (λ v f. ap not f) D (from e))
        ∙ none_passes (λ _. false) D (find_none (λ _. false) (λ v. refl) D)

    by : (b : Bool) → is_from d u ≡ b → filter (is_below d) D ++ filter (is_from d) D ≡ D → cond (not b) (u ∷ filter (is_below d) D) (filter (is_below d) D) ++ cond b (u ∷ filter (is_from d) D) (filter (is_from d) D) ≡ u ∷ D
    by true e h = λ i. none e i ++ (u ∷ all e i)
    by false e h = ap (λ l. u ∷ l) h

-- A tuple of a set begins what is not below it.
begins_there : (p : Fact → Bool) (d : Fact) (D : List Fact) → IsRepository D → has D d ≡ true → p d ≡ true → filter (is_from d) (filter p D) ≡ d ∷ filter (λ u. (p u && is_from d u) && is_lt (fact_cmp d u)) D
begins_there p d D s there e =
    sym (filter_among p (is_from d) D)
    ∙ found_begins (λ u. p u && is_from d u) D d s (least_found (λ u. p u && is_from d u) D d s there (λ i. e i && from_itself d i) lower)
  where
    lower : (u : Fact) → has D u ≡ true → (p u && is_from d u) ≡ true → fact_cmp u d ≡ Less → ⊥
    lower u g h f = differ (sym (ap is_le (fact_total.antisymm d u ∙ ap ordering_reverse f)) ∙ (and_parts (p u) (is_from d u) h).1)

-- ---- between two tuples of a relation

-- What is of a greater relation is not below.
greater_from : (d u : Fact) → d.relation < u.relation → is_from d u ≡ true
greater_from d u h = by (nat_cmp d.relation u.relation) (ranked d.relation u.relation _ refl)
  where
    by : (o : Ordering) → MatchOrdering o (d.relation < u.relation) (d.relation ≡ u.relation) (u.relation < d.relation) → is_le (ordering_then o (slice_cmp datum_cmp d.values u.values)) ≡ true
    by Less m = refl
    by Equal m = absurd (omega (arith, m, h))
    by Greater m = absurd (omega (arith, m, h))

inside_is : (t d : Fact) → d.relation ≡ t.relation → (u : Fact) → is_inside t d u ≡ (is_past t u && is_below d u)
inside_is t d e u = elim (cases_eq u.relation t.relation) [
  | inl f ↦ sym (ap (λ b. (b && is_beyond (Some t) u) && is_below d u) (eq-eqb u.relation t.relation f))
  | inr n ↦ by (is_beyond (Some t) u) refl n ∙ sym (ap (λ b. (b && is_beyond (Some t) u) && is_below d u) (ne_eqb u.relation t.relation n))
]
  where
    by : (b : Bool) → is_beyond (Some t) u ≡ b → (u.relation ≡ t.relation → ⊥) → (b && is_below d u) ≡ false
    by true f n =
        let from : t.relation ≤ u.relation = relation_le t u (above_from t u f) in
        ap not (greater_from d u (omega (arith, from, n, e)))
    by false f n = refl

-- ---- the first ones

first_ones : (xs ys : List Fact) → Begin xs (xs ++ ys)
first_ones [] ys = refl
first_ones (x ∷ xs) ys = ap (λ l. x ∷ l) (first_ones xs ys)

module _ (D hidden added : List Fact) (s : IsRepository D) (t : IsRepository hidden) (a : IsRepository added) where
  abbrev whole : List Fact
  whole = overlaid D hidden added

  -- What passes nowhere among what is hidden and what is added is that of the set.
  untouched : (p : Fact → Bool) → filter p hidden ≡ [] → filter p added ≡ [] → filter p D ≡ filter p whole
  untouched p free none =
      filter_within p (λ u. not (has hidden u)) (λ u h. ap not (unhidden u h)) D ∙ sym (merged_none (filter p (left_of hidden D)))
      ∙ sym (ap (λ (l : List Fact). merged (filter p (left_of hidden D)) l) none) ∙ passing_overlaid D hidden added s a p
    where
      unhidden : (u : Fact) → p u ≡ true → has hidden u ≡ false
      unhidden u h = sym (and-true (has hidden u)) ∙ ap (λ b. has hidden u && b) (sym h) ∙ sym (has-filter p hidden u) ∙ ap (λ (E : List Fact). has E u) free

  module _ (past : Fact) where
    abbrev these : List Fact
    these = filter (is_past past) whole

    module _ (d : Fact) (there : is_past past d ≡ true) (free : IsNoLower d (find (is_past past) hidden)) (none : IsNoLower d (find (is_past past) added)) where
      below_it : filter (is_inside past d) D ≡ filter (is_below d) these
      below_it =
          let of : d.relation ≡ past.relation = is_of-is past.relation d (and_parts (is_of past.relation d) (is_beyond (Some past) d) there).0 in
          filter_as (is_inside past d) (λ u. is_past past u && is_below d u) (inside_is past d of) D
          ∙ untouched (λ u. is_past past u && is_below d u) (none_below (is_past past) d hidden (find (is_past past) hidden) t refl free) (none_below (is_past past) d added (find (is_past past) added) a refl none)
          ∙ filter_among (is_past past) (is_below d) whole

      all_parted : filter (is_inside past d) D ++ filter (is_from d) these ≡ these
      all_parted = ap (λ l. l ++ filter (is_from d) these) below_it ∙ parted d these (filter_in_order (is_past past) whole (overlaid_in_order D hidden added s))

      pub begins_below : Begin (filter (is_inside past d) D ++ []) these
      begins_below = subst (λ l. Begin l these) (sym (append-nil (filter (is_inside past d) D))) (subst (Begin (filter (is_inside past d) D)) all_parted (first_ones (filter (is_inside past d) D) (filter (is_from d) these)))

      pub begins_with : has added d ≡ true → Begin (filter (is_inside past d) D ++ d ∷ []) these
      begins_with put =
          let low = filter (is_inside past d) D in
          let seen : has whole d ≡ true = has-overlaid D hidden added d ∙ or_right (has D d && not (has hidden d)) (has added d) put in
          let rest = filter (λ u. (is_past past u && is_from d u) && is_lt (fact_cmp d u)) whole in
          subst (Begin (low ++ d ∷ [])) (append_assoc low (d ∷ []) rest ∙ ap (λ l. low ++ l) (sym (begins_there (is_past past) d whole (overlaid_in_order D hidden added s) seen there)) ∙ all_parted)
          (first_ones (low ++ d ∷ []) rest)

    -- The tuple at which it ends is past the given one.
    pub ends_past : (put gone : Option Fact) → put ≡ find (is_past past) added → gone ≡ find (is_past past) hidden → (d : Fact) → option_or (put_first put gone) gone ≡ Some d → is_past past d ≡ true
    ends_past None None e f d g = absurd (cc)
    ends_past None (Some h) e f d g = ap (is_past past) (sym (some_same h d g)) ∙ found_passes (is_past past) hidden h (sym f)
    ends_past (Some p) None e f d g = ap (is_past past) (sym (some_same p d g)) ∙ found_passes (is_past past) added p (sym e)
    ends_past (Some p) (Some h) e f d g = by (is_from p h) g
      where
        by : (b : Bool) → option_or (cond b (Some p) None) (Some h) ≡ Some d → is_past past d ≡ true
        by true g = ap (is_past past) (sym (some_same p d g)) ∙ found_passes (is_past past) added p (sym e)
        by false g = ap (is_past past) (sym (some_same h d g)) ∙ found_passes (is_past past) hidden h (sym f)

    abbrev Opens : Option Fact → Fact → Type 0
    Opens put d = Begin (filter (is_inside past d) D ++ option_to_list put) these

    with_put : (p : Fact) (o : Option Fact) → Some p ≡ find (is_past past) added → o ≡ find (is_past past) hidden → IsNoLower p o → Opens (Some p) p
    with_put p o e f h =
        begins_with p (found_passes (is_past past) added p (sym e)) (subst (IsNoLower p) f h) (subst (IsNoLower p) e (from_itself p)) (found_has (is_past past) added p (sym e))

    with_gone : (h : Fact) (o : Option Fact) → o ≡ find (is_past past) added → Some h ≡ find (is_past past) hidden → IsNoLower h o → Opens None h
    with_gone h o e f k = begins_below h (found_passes (is_past past) hidden h (sym f)) (subst (IsNoLower h) f (from_itself h)) (subst (IsNoLower h) e k)

    pub opens : (put gone : Option Fact) → put ≡ find (is_past past) added → gone ≡ find (is_past past) hidden → (d : Fact) → option_or (put_first put gone) gone ≡ Some d → Opens (put_first put gone) d
    opens None None e f d g = absurd (cc)
    opens None (Some h) e f d g = subst (Opens None) (some_same h d g) (with_gone h None e f tt)
    opens (Some p) None e f d g = subst (Opens (Some p)) (some_same p d g) (with_put p None e f tt)
    opens (Some p) (Some h) e f d g = by (is_from p h) refl g
      where
        other : is_from p h ≡ false → is_from h p ≡ true
        other k = turn (fact_cmp p h) refl k
          where
            turn : (o : Ordering) → fact_cmp p h ≡ o → is_le o ≡ false → is_from h p ≡ true
            turn Less m k = differ (sym k)
            turn Equal m k = differ (sym k)
            turn Greater m k = ap is_le (fact_total.antisymm h p ∙ ap ordering_reverse m)

        by : (b : Bool) → is_from p h ≡ b → option_or (cond b (Some p) None) (Some h) ≡ Some d → Opens (cond b (Some p) None) d
        by true k g = subst (Opens (Some p)) (some_same p d g) (with_put p (Some h) e f k)
        by false k g = subst (Opens None) (some_same h d g) (with_gone h (Some p) e f (other k))

-- What is there of two tuples is there of what they mean.
pub or_meant : (one other : Option (Bor Tuple)) (t : Bor Tuple) → option_or one other ≡ Some t → option_or (option_map fact_of (option_copied one)) (option_map fact_of (option_copied other)) ≡ Some (fact_of t.now)
or_meant None other t e = ap (λ (o : Option (Bor Tuple)). option_map fact_of (option_copied o)) e
or_meant (Some one) other t e = ap (λ (o : Option (Bor Tuple)). option_map fact_of (option_copied o)) e
