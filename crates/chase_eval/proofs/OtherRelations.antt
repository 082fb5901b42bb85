-- A write that can give a mapping no violation, an insertion of another relation than those on its left or a deletion of another than those on its right: it has one that the own writes caused only if it had one before.
use Rattle.std.proofs.Common.{◌≡◌, ℕ, ap, refl, sym, ◌∙◌, subst, List, [], ◌∷◌, ◌++◌, Bool, true, false, not, ◌||◌, ◌&&◌, cond, length, Option, Some, None}
use Rattle.std.specs.Bool.{Decides}
use Rattle.std.specs.List.{list_any}
use Rattle.std.specs.Prelude.{◌==◌, find, is_some}
use Rattle.std.proofs.lemmas.Bool.{and_parts, eqb-false}
use Rattle.std.proofs.lemmas.Bool.Decides.{same_from_decides}
use Rattle.def_chase.specs.Values.{Fact, same_fact}
use Rattle.def_chase.specs.Repository.{Change, Insert, Delete, has, change, inserted_after}
use Rattle.def_chase.specs.Mappings.{Pattern, Rule, Binding, fact_under, image_under, all_in}
use Rattle.def_chase.specs.Matching.{Known, nothing_known, learn_terms, learn_all, lists_of, extends}
use Rattle.def_chase.specs.Violations.{Scope, Every, Caused, Forward, Backward, deletes_match, in_scope, violated_at, violates, first_violation}
use Rattle.def_chase.proofs.Bools.{differ, not_both, and-true, first_off, or_left, or_right}
use Rattle.def_chase.proofs.Sets.{same_exact, has-change}
use Rattle.def_chase.proofs.Searches.{any_join, found_any}
use Rattle.def_chase.proofs.Among.{passing_from_any, any_from_passing}
use Rattle.def_chase.proofs.Learning.{Agrees, Means, all_means}
use Rattle.def_chase.proofs.Matches.{IsExtension, extends_decides, known_or_zero, agrees_itself}
use Rattle.chase_eval.specs.Watched.{relation_in, touches}

-- No atom is of the relation.
abbrev pub AreApart : ℕ → List Pattern → Type 0
AreApart r as' = list_any (λ (a : Pattern). a.relation == r) as' ≡ false

-- Tuples of different relations differ.
pub differ_by_relation : (s t : Fact) → (s.relation ≡ t.relation → ⊥) → same_fact s t ≡ false
differ_by_relation s t h = not_both (same_fact s t) (λ e. h (ap (λ (u : Fact). u.relation) (same_exact s t e)))

-- ---- tuples

after_other : (b : Bool) (w : Change) (s : Fact) → (s.relation == relation_in w) ≡ false → inserted_after b (w ∷ []) s ≡ b
after_other b (Insert t) s h = ap (λ c. c || b) (differ_by_relation s t (eqb-false s.relation t.relation h))
after_other b (Delete t) s h = ap (λ c. b && not c) (differ_by_relation s t (eqb-false s.relation t.relation h)) ∙ and-true b

after_more : (b : Bool) (own : List Change) (w : Change) (s : Fact) → inserted_after b (own ++ w ∷ []) s ≡ inserted_after (inserted_after b own s) (w ∷ []) s
after_more b [] w s = refl
after_more b (Insert t ∷ own) w s = after_more (same_fact s t || b) own w s
after_more b (Delete t ∷ own) w s = after_more (b && not (same_fact s t)) own w s

inserted_other : (own : List Change) (w : Change) (s : Fact) → (s.relation == relation_in w) ≡ false → inserted_after false (own ++ w ∷ []) s ≡ inserted_after false own s
inserted_other own w s h = after_more false own w s ∙ after_other (inserted_after false own s) w s h

has_other : (E : List Fact) (w : Change) (s : Fact) → (s.relation == relation_in w) ≡ false → has (change E w) s ≡ has E s
has_other E w s h = has-change E w [] s ∙ after_other (has E s) w s h

-- ---- images

image_in : (E : List Fact) (w : Change) (b : Binding) (as' : List Pattern) → AreApart (relation_in w) as' → all_in (change E w) (image_under b as') ≡ all_in E (image_under b as')
image_in E w b [] h = refl
image_in E w b (a ∷ as') h =
    let p = first_off (a.relation == relation_in w) (list_any (λ (a : Pattern). a.relation == relation_in w) as') h in
    λ i. has_other E w (fact_under b a) p.0 i && image_in E w b as' p.1 i

image_inserted : (own : List Change) (w : Change) (b : Binding) (as' : List Pattern) → AreApart (relation_in w) as'
    → list_any (inserted_after false (own ++ w ∷ [])) (image_under b as') ≡ list_any (inserted_after false own) (image_under b as')
image_inserted own w b [] h = refl
image_inserted own w b (a ∷ as') h =
    let p = first_off (a.relation == relation_in w) (list_any (λ (a : Pattern). a.relation == relation_in w) as') h in
    λ i. inserted_other own w (fact_under b a) p.0 i || image_inserted own w b as' p.1 i

-- ---- the right side

extends_other : (E : List Fact) (w : Change) (k : Known) (as' : List Pattern) → AreApart (relation_in w) as' → extends k as' (change E w) ≡ extends k as' E
extends_other E w k as' h = same_from_decides (extends k as' (change E w)) (extends k as' E) (extends_decides k as' (change E w)) before
  where
    before : Decides (extends k as' E) (IsExtension k as' (change E w))
    before = (
      λ e. let x = (extends_decides k as' E).0 e in record { binding = x.binding; agrees = x.agrees; present = image_in E w x.binding as' h ∙ x.present },
      λ x. (extends_decides k as' E).1 (record { binding = x.binding; agrees = x.agrees; present = sym (image_in E w x.binding as' h) ∙ x.present }),
    )

no_match : (k : Known) (a : Pattern) (w : Change) → (a.relation == relation_in w) ≡ false → deletes_match k a w ≡ false
no_match k a (Insert t) h = refl
no_match k a (Delete t) h = ap (λ b. is_some (cond b (learn_terms a.terms t.values k) None)) h

or_none : (a b : Bool) → b ≡ false → (a || (b || false)) ≡ a
or_none true b e = refl
or_none false b e = ap (λ c. c || false) e

deleted_other : (own : List Change) (w : Change) (k : Known) (as' : List Pattern) → AreApart (relation_in w) as'
    → list_any (λ a. list_any (deletes_match k a) (own ++ w ∷ [])) as' ≡ list_any (λ a. list_any (deletes_match k a) own) as'
deleted_other own w k [] h = refl
deleted_other own w k (a ∷ as') h =
    let p = first_off (a.relation == relation_in w) (list_any (λ (a : Pattern). a.relation == relation_in w) as') h in
    let here : list_any (deletes_match k a) (own ++ w ∷ []) ≡ list_any (deletes_match k a) own =
    any_join (deletes_match k a) own (w ∷ []) ∙ or_none (list_any (deletes_match k a) own) (deletes_match k a w) (no_match k a w p.0) in
    λ i. here i || deleted_other own w k as' p.1 i

insert_deletes : (own : List Change) (t : Fact) (k : Known) (as' : List Pattern) → list_any (λ a. list_any (deletes_match k a) (own ++ Insert t ∷ [])) as' ≡ list_any (λ a. list_any (deletes_match k a) own) as'
insert_deletes own t k as' = λ i. list_any (λ a. (any_join (deletes_match k a) own (Insert t ∷ []) ∙ or_none (list_any (deletes_match k a) own) false refl) i) as'

-- ---- what an insertion and a deletion can only help

image_kept : (E : List Fact) (t : Fact) (b : Binding) (as' : List Pattern) → all_in E (image_under b as') ≡ true → all_in (change E (Insert t)) (image_under b as') ≡ true
image_kept E t b [] h = refl
image_kept E t b (a ∷ as') h =
    let p = and_parts (has E (fact_under b a)) (all_in E (image_under b as')) h in
    λ i. (has-change E (Insert t) [] (fact_under b a) ∙ or_right (same_fact (fact_under b a) t) (has E (fact_under b a)) p.0) i && image_kept E t b as' p.1 i

-- What can be met can still be met with a tuple more.
extends_kept : (E : List Fact) (t : Fact) (k : Known) (as' : List Pattern) → extends k as' E ≡ true → extends k as' (change E (Insert t)) ≡ true
extends_kept E t k as' e =
    let x = (extends_decides k as' E).0 e in
    (extends_decides k as' (change E (Insert t))).1 (record { binding = x.binding; agrees = x.agrees; present = image_kept E t x.binding as' x.present })

facts_were : (E : List Fact) (t : Fact) (ts : List Fact) → all_in (change E (Delete t)) ts ≡ true → all_in E ts ≡ true
facts_were E t [] h = refl
facts_were E t (s ∷ ts) h =
    let p = and_parts (has (change E (Delete t)) s) (all_in (change E (Delete t)) ts) h in
    let there = and_parts (has E s) (not (same_fact s t)) (sym (has-change E (Delete t) [] s) ∙ p.0) in
    λ i. there.0 i && facts_were E t ts p.1 i

inserted_were : (own : List Change) (t : Fact) (ts : List Fact) → list_any (inserted_after false (own ++ Delete t ∷ [])) ts ≡ true → list_any (inserted_after false own) ts ≡ true
inserted_were own t [] h = h
inserted_were own t (s ∷ ts) h = by (inserted_after false (own ++ Delete t ∷ []) s) refl h (inserted_were own t ts)
  where
    by : (b : Bool) → inserted_after false (own ++ Delete t ∷ []) s ≡ b → (b || list_any (inserted_after false (own ++ Delete t ∷ [])) ts) ≡ true
        → (list_any (inserted_after false (own ++ Delete t ∷ [])) ts ≡ true → list_any (inserted_after false own) ts ≡ true)
        → (inserted_after false own s || list_any (inserted_after false own) ts) ≡ true
    by true e h others =
        let was = and_parts (inserted_after false own s) (not (same_fact s t)) (sym (after_more false own (Delete t) s) ∙ e) in
        or_left (inserted_after false own s) (list_any (inserted_after false own) ts) was.0
    by false e h others = or_right (inserted_after false own s) (list_any (inserted_after false own) ts) (others h)

-- ---- violations

unmet_was : (E : List Fact) (w : Change) (m : Rule) (k : Known) → touches w (Some m) ≡ false → not (extends k m.right (change E w)) ≡ true → not (extends k m.right E) ≡ true
unmet_was E (Insert t) m k off h = by (extends k m.right E) refl
  where
    by : (b : Bool) → extends k m.right E ≡ b → not b ≡ true
    by true e = differ (sym (ap not (extends_kept E t k m.right e)) ∙ h)
    by false e = refl
unmet_was E (Delete t) m k off h = sym (ap not (extends_other E (Delete t) k m.right off)) ∙ h

scope_was : (s : Scope) (own : List Change) (w : Change) (m : Rule) (image : List Fact) (k : Known) (b : Binding) → touches w (Some m) ≡ false → image_under b m.left ≡ image → in_scope s (own ++ w ∷ []) m image k ≡ true → in_scope s own m image k ≡ true
scope_was Every own w m image k b off is h = refl
scope_was (Caused Forward) own (Insert t) m image k b off is h =
    sym (subst (λ (ts : List Fact). list_any (inserted_after false (own ++ Insert t ∷ [])) ts ≡ list_any (inserted_after false own) ts) is (image_inserted own (Insert t) b m.left off)) ∙ h
scope_was (Caused Forward) own (Delete t) m image k b off is h = inserted_were own t image h
scope_was (Caused Backward) own (Insert t) m image k b off is h = sym (insert_deletes own t k m.right) ∙ h
scope_was (Caused Backward) own (Delete t) m image k b off is h = sym (deleted_other own (Delete t) k m.right off) ∙ h

tuples_were : (E : List Fact) (w : Change) (m : Rule) (image : List Fact) (b : Binding) → touches w (Some m) ≡ false → image_under b m.left ≡ image → all_in (change E w) image ≡ true → all_in E image ≡ true
tuples_were E (Insert t) m image b off is a = sym (subst (λ (ts : List Fact). all_in (change E (Insert t)) ts ≡ all_in E ts) is (image_in E (Insert t) b m.left off)) ∙ a
tuples_were E (Delete t) m image b off is a = facts_were E t image a

module _ (s : Scope) (own : List Change) (w : Change) (m : Rule) (E : List Fact) (off : touches w (Some m) ≡ false) where
  -- A list of tuples that is the image of a violation after the write was one before it.
  was_violated : (image : List Fact) (o : Option Known) → Means o (λ b. Agrees nothing_known b × (image_under b m.left ≡ image)) → all_in (change E w) image ≡ true
      → violated_at s (own ++ w ∷ []) m (change E w) image o ≡ true → (all_in E image ≡ true) × (violated_at s own m E image o ≡ true)
  was_violated image None means a h = differ h
  was_violated image (Some k) means a h =
      let b : Binding = known_or_zero k in
      let is : image_under b m.left ≡ image = ((means b).0 (agrees_itself k)).1 in
      let p = and_parts (not (extends k m.right (change E w))) (in_scope s (own ++ w ∷ []) m image k) h in (
        tuples_were E w m image b off is a,
        λ i. unmet_was E w m k off p.0 i && scope_was s own w m image k b off is p.1 i,
      )

  -- Where it has no violation among those that count it has none after the write.
  pub none_stays : first_violation s own m E ≡ None → first_violation s (own ++ w ∷ []) m (change E w) ≡ None
  none_stays nothing = by (list_any (violates s (own ++ w ∷ []) m (change E w)) (lists_of (length m.left) (change E w))) refl
    where
      none_of : (o : Option (List Fact)) → is_some o ≡ false → o ≡ None
      none_of None e = refl
      none_of (Some x) e = differ (sym e)

      by : (b : Bool) → list_any (violates s (own ++ w ∷ []) m (change E w)) (lists_of (length m.left) (change E w)) ≡ b
          → find (violates s (own ++ w ∷ []) m (change E w)) (lists_of (length m.left) (change E w)) ≡ None
      by true e =
          let x = passing_from_any (violates s (own ++ w ∷ []) m (change E w)) (length m.left) (change E w) e in
          let was = was_violated x.tuples (learn_all m.left x.tuples nothing_known) (all_means m.left x.tuples nothing_known) x.present x.passes in
          differ (ap is_some (sym nothing) ∙ found_any (violates s own m E) (lists_of (length m.left) E)
          ∙ subst (λ (n : ℕ). list_any (violates s own m E) (lists_of n E) ≡ true) x.many (any_from_passing (violates s own m E) E x.tuples was.0 was.1))
      by false e = none_of (find (violates s (own ++ w ∷ []) m (change E w)) (lists_of (length m.left) (change E w)))
          (found_any (violates s (own ++ w ∷ []) m (change E w)) (lists_of (length m.left) (change E w)) ∙ e)
