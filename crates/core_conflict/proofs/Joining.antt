-- A tuple that joins with no own write decides no violation that own writes caused, and makes none.
use Rattle.std.proofs.Common.{◌≡◌, ◌∙◌, ap, refl, sym, subst, ℕ, suc, ◌==◌, Bool, true, false, ◌||◌, ◌&&◌, not, List, [], ◌∷◌, map, length, Option, Some, None, is_some, inl, inr}
use Rattle.std.specs.List.{list_any, list_all, zip}
use Rattle.std.specs.Prelude.{filter}
use Rattle.std.proofs.lemmas.Bool.{false≢true, and_parts, or_cases, eqb-true, eq-eqb}
use Rattle.def_chase.specs.Values.{Fact, same_datum, same_fact}
use Rattle.def_chase.specs.Repository.{Change, Insert, Delete, inserted_after, has}
use Rattle.def_chase.specs.Mappings.{Slot, Var, Const, Pattern, Rule, Binding, value_under, fact_under, image_under, all_in}
use Rattle.def_chase.specs.Matching.{Known, nothing_known, learn_atom, learn_all, lists_of, extends}
use Rattle.def_chase.specs.Violations.{Direction, Caused, Forward, Backward, deletes_match, in_scope, violated_at, violates, first_violation}
use Rattle.def_chase.proofs.Among.{passing_from_any, any_from_passing}
use Rattle.def_chase.proofs.Coarse.{lists_within}
use Rattle.def_chase.proofs.Bools.{both, or_left, or_right, differ, and-false}
use Rattle.def_chase.proofs.Learning.{Agrees, Means, all_means, atom_means, same_datum_itself}
use Rattle.def_chase.proofs.Matches.{known_or_zero, agrees_itself, extends_decides}
use Rattle.def_chase.proofs.Searches.{find_same, found_any}
use Rattle.def_chase.proofs.Sets.{same_exact}
use Rattle.core_conflict.specs.Concerns.{may_be, agree, has_columns, stand_together, may_join, joins, joins_own, at_side, joins_either}

-- ---- atoms under one binding

-- The atom is one of the list.
abbrev IsAmong : Pattern → List Pattern → Type 0
IsAmong a as' = (r : Pattern → Bool) → r a ≡ true → list_any r as' ≡ true

module _ (b : Binding) where
  columns_agree : (p q : Slot) → may_be p (value_under b p) q (value_under b q) ≡ true
  columns_agree (Var v) (Var w) = by (v == w) refl
    where
      by : (e : Bool) → (v == w) ≡ e → (not e || same_datum (b v) (b w)) ≡ true
      by true e = ap (λ x. same_datum (b v) (b x)) (sym (eqb-true v w e)) ∙ same_datum_itself (b v)
      by false e = refl
  columns_agree (Var v) (Const c) = refl
  columns_agree (Const c) q = refl

  each_agrees : (p : Slot) (qs : List Slot) → list_all (agree (p, value_under b p)) (zip qs (map (value_under b) qs)) ≡ true
  each_agrees p [] = refl
  each_agrees p (q ∷ qs) = both (may_be p (value_under b p) q (value_under b q)) (list_all (agree (p, value_under b p)) (zip qs (map (value_under b) qs))) (columns_agree p q) (each_agrees p qs)

  all_agree : (ps qs : List Slot) → list_all (λ p. list_all (agree p) (zip qs (map (value_under b) qs))) (zip ps (map (value_under b) ps)) ≡ true
  all_agree [] qs = refl
  all_agree (p ∷ ps) qs =
      both (list_all (agree (p, value_under b p)) (zip qs (map (value_under b) qs))) (list_all (λ p. list_all (agree p) (zip qs (map (value_under b) qs))) (zip ps (map (value_under b) ps))) (each_agrees p qs) (all_agree ps qs)

  -- The image of an atom has its columns.
  columns_kept : (ps : List Slot) → length ps ≡ length (map (value_under b) ps)
  columns_kept [] = refl
  columns_kept (p ∷ ps) = ap suc (columns_kept ps)

  together : (a c : Pattern) → stand_together a (fact_under b a) c (fact_under b c) ≡ true
  together a c =
      let alike = list_all (λ p. list_all (agree p) (zip c.terms (map (value_under b) c.terms))) (zip a.terms (map (value_under b) a.terms)) in
      both (c.relation == c.relation) ((a.relation == a.relation) && (has_columns a (fact_under b a) && alike)) (eq-eqb c.relation c.relation refl)
      (both (a.relation == a.relation) (has_columns a (fact_under b a) && alike) (eq-eqb a.relation a.relation refl)
      (both (has_columns a (fact_under b a)) alike (eq-eqb (length a.terms) (length (map (value_under b) a.terms)) (columns_kept a.terms)) (all_agree a.terms c.terms)))

  joined : (as' cs : List Pattern) (a c : Pattern) → IsAmong a as' → IsAmong c cs → may_join as' cs (fact_under b a) (fact_under b c) ≡ true
  joined as' cs a c i j = i (λ x. list_any (λ y. stand_together x (fact_under b a) y (fact_under b c)) cs) (j (λ y. stand_together a (fact_under b a) y (fact_under b c)) (together a c))

  seed_of : (p : Fact → Bool) (as' : List Pattern) → list_any p (image_under b as') ≡ true → (a : Pattern) × IsAmong a as' × (p (fact_under b a) ≡ true)
  seed_of p [] e = differ e
  seed_of p (a ∷ as') e =
      elim (or_cases (p (fact_under b a)) (list_any p (image_under b as')) e) [
        | inl h ↦ (a, (λ r x. or_left (r a) (list_any r as') x), h)
        | inr h ↦ let s = seed_of p as' h in (s.0, (λ r x. or_right (r a) (list_any r as') (s.1 r x)), s.2)
      ]

  all_of : (g : Fact → Bool) (as' : List Pattern) → ((a : Pattern) → IsAmong a as' → g (fact_under b a) ≡ true) → list_all g (image_under b as') ≡ true
  all_of g [] h = refl
  all_of g (a ∷ as') h =
      both (g (fact_under b a)) (list_all g (image_under b as')) (h a (λ r x. or_left (r a) (list_any r as') x)) (all_of g as' (λ c i. h c (λ r x. or_right (r a) (list_any r as') (i r x))))

-- ---- what own writes inserted

-- A tuple whose last write inserts it is one that some write inserts.
seeded : (g : Change → Bool) (ws : List Change) (b : Bool) (s : Fact) → inserted_after b ws s ≡ true → b ≡ false → g (Insert s) ≡ true → list_any g ws ≡ true
seeded g [] b s e f x = absurd (false≢true (sym f ∙ e))
seeded g (Insert t ∷ ws) b s e f x = by (same_fact s t) refl e (λ k. seeded g ws b s k f x)
  where
    by : (c : Bool) → same_fact s t ≡ c → inserted_after (c || b) ws s ≡ true → (inserted_after b ws s ≡ true → list_any g ws ≡ true) → (g (Insert t) || list_any g ws) ≡ true
    by true h e rest = or_left (g (Insert t)) (list_any g ws) (ap (λ y. g (Insert y)) (sym (same_exact s t h)) ∙ x)
    by false h e rest = or_right (g (Insert t)) (list_any g ws) (rest e)
seeded g (Delete t ∷ ws) b s e f x = or_right (g (Delete t)) (list_any g ws) (seeded g ws (b && not (same_fact s t)) s e (ap (λ c. c && not (same_fact s t)) f) x)

-- ---- lists of tuples

-- Where each passes the one test each passes the weaker one.
all_still : (p q : Fact → Bool) → ((t : Fact) → p t ≡ true → q t ≡ true) → (ts : List Fact) → list_all p ts ≡ true → list_all q ts ≡ true
all_still p q h [] e = refl
all_still p q h (t ∷ ts) e = let parts = and_parts (p t) (list_all p ts) e in both (q t) (list_all q ts) (h t parts.0) (all_still p q h ts parts.1)

-- Where each passes and is in the one, each is in the other.
all_there : (p : Fact → Bool) (D E : List Fact) → ((t : Fact) → p t ≡ true → has D t ≡ true → has E t ≡ true) → (ts : List Fact) → list_all p ts ≡ true → all_in D ts ≡ true → all_in E ts ≡ true
all_there p D E h [] e d = refl
all_there p D E h (t ∷ ts) e d =
    let parts = and_parts (p t) (list_all p ts) e in
    let there = and_parts (has D t) (all_in D ts) d in
    both (has E t) (all_in E ts) (h t parts.0 there.0) (all_there p D E h ts parts.1 there.1)

-- ---- the first violation

-- An atom of which an own deletion is the tuple, for an extension of what is known.
record Seed (own : List Change) (as' : List Pattern) (k : Known) : Type 0 where
  pub atom : Pattern
  pub among : IsAmong atom as'
  pub tuple : Fact
  pub deleted : (g : Change → Bool) → g (Delete tuple) ≡ true → list_any g own ≡ true
  pub learned : is_some (learn_atom atom tuple k) ≡ true

deleted_in : (k : Known) (a : Pattern) (own : List Change) → list_any (deletes_match k a) own ≡ true → (s : Fact) × ((g : Change → Bool) → g (Delete s) ≡ true → list_any g own ≡ true) × (is_some (learn_atom a s k) ≡ true)
deleted_in k a [] e = differ e
deleted_in k a (Insert t ∷ own) e = let r = deleted_in k a own e in (r.0, (λ g x. or_right (g (Insert t)) (list_any g own) (r.1 g x)), r.2)
deleted_in k a (Delete t ∷ own) e =
    elim (or_cases (is_some (learn_atom a t k)) (list_any (deletes_match k a) own) e) [
      | inl h ↦ (t, (λ g x. or_left (g (Delete t)) (list_any g own) x), h)
      | inr h ↦ let r = deleted_in k a own h in (r.0, (λ g x. or_right (g (Delete t)) (list_any g own) (r.1 g x)), r.2)
    ]

seed_in : (own : List Change) (k : Known) (as' : List Pattern) → list_any (λ a. list_any (deletes_match k a) own) as' ≡ true → Seed own as' k
seed_in own k [] e = differ e
seed_in own k (a ∷ as') e =
    elim (or_cases (list_any (deletes_match k a) own) (list_any (λ a. list_any (deletes_match k a) own) as') e) [
      | inl h ↦ let r = deleted_in k a own h in record { atom = a; among = λ p x. or_left (p a) (list_any p as') x; tuple = r.0; deleted = r.1; learned = r.2 }
      | inr h ↦ let r = seed_in own k as' h in record { atom = r.atom; among = λ p x. or_right (p a) (list_any p as') (r.among p x); tuple = r.tuple; deleted = r.deleted; learned = r.learned }
    ]

module _ (m : Rule) (own all : List Change) (sub : (g : Change → Bool) → list_any g own ≡ true → list_any g all ≡ true) where
  abbrev caused_by : List Fact → Bool
  caused_by ts = list_any (inserted_after false own) ts

  -- Where an own insertion stands on the left, each atom's tuple joins with it.
  all_join : (cs : List Pattern) (b : Binding) → caused_by (image_under b m.left) ≡ true → list_all (joins_own Forward cs m all) (image_under b cs) ≡ true
  all_join cs b e =
      let s = seed_of b (inserted_after false own) m.left e in
      all_of b (joins_own Forward cs m all) cs (λ c i. sub (joins Forward cs m (fact_under b c)) (seeded (joins Forward cs m (fact_under b c)) own false (fact_under b s.0) s.2 refl (joined b m.left cs s.0 c s.1 i)))

  -- Where an extension of what is known makes a right atom an own deletion's tuple, each left atom's tuple joins with that.
  all_join_back : (ts : List Fact) (k : Known) → Means (Some k) (λ b. Agrees nothing_known b × (image_under b m.left ≡ ts)) → list_any (λ a. list_any (deletes_match k a) own) m.right ≡ true → list_all (joins_own Backward m.left m all) ts ≡ true
  all_join_back ts k means e =
      let s = seed_in own k m.right e in
      by s (learn_atom s.atom s.tuple k) (atom_means s.atom s.tuple k) s.learned
    where
      by : (s : Seed own m.right k) (o : Option Known) → Means o (λ b. Agrees k b × (fact_under b s.atom ≡ s.tuple)) → is_some o ≡ true → list_all (joins_own Backward m.left m all) ts ≡ true
      by s None more h = differ h
      by s (Some j) more h =
          let b = known_or_zero j in
          let there = (more b).0 (agrees_itself j) in
          let is : image_under b m.left ≡ ts = ((means b).0 there.0).1 in
          subst (λ us. list_all (joins_own Backward m.left m all) us ≡ true) is
          (all_of b (joins_own Backward m.left m all) m.left
          (λ c i. sub (joins Backward m.left m (fact_under b c)) (s.deleted (joins Backward m.left m (fact_under b c)) (subst (λ x. may_join m.right m.left x (fact_under b c) ≡ true) there.1 (joined b m.right m.left s.atom c s.among i)))))

  -- What is on the left of a violation that own writes caused joins with one of them.
  left_joins : (h : Direction) (ts : List Fact) (k : Known) → Means (Some k) (λ b. Agrees nothing_known b × (image_under b m.left ≡ ts)) → in_scope (Caused h) own m ts k ≡ true → list_all (at_side true h m all) ts ≡ true
  left_joins Forward ts k means e =
      let b = known_or_zero k in
      let is : image_under b m.left ≡ ts = ((means b).0 (agrees_itself k)).1 in
      subst (λ us. list_all (joins_own Forward m.left m all) us ≡ true) is (all_join m.left b (ap caused_by is ∙ e))
  left_joins Backward ts k means e = all_join_back ts k means e

  -- And so does what meets it on the right.
  right_joins : (h : Direction) (ts : List Fact) (k : Known) (b : Binding) → image_under b m.left ≡ ts → in_scope (Caused h) own m ts k ≡ true → list_all (at_side false h m all) (image_under b m.right) ≡ true
  right_joins Forward ts k b is e = all_join m.right b (ap caused_by is ∙ e)
  right_joins Backward ts k b is e = all_of b (at_side false Backward m all) m.right (λ c i. i (λ x. x.relation == c.relation) (eq-eqb c.relation c.relation refl))

  module _ (h : Direction) where
    -- The tuple joins with an own write.
    abbrev pub some_joins : Fact → Bool
    some_joins t = joins_either h m all t

    image_joins : (E ts : List Fact) (o : Option Known) → Means o (λ b. Agrees nothing_known b × (image_under b m.left ≡ ts)) → violated_at (Caused h) own m E ts o ≡ true → list_all (at_side true h m all) ts ≡ true
    image_joins E ts None means e = differ e
    image_joins E ts (Some k) means e = left_joins h ts k means (and_parts (not (extends k m.right E)) (in_scope (Caused h) own m ts k) e).1

    met_joins : (ts us : List Fact) (k : Known) → Means (Some k) (λ b. Agrees nothing_known b × (image_under b m.left ≡ ts)) → in_scope (Caused h) own m ts k ≡ true
        → (o : Option Known) → Means o (λ b. Agrees k b × (image_under b m.right ≡ us)) → is_some o ≡ true → list_all some_joins us ≡ true
    met_joins ts us k means e None more x = differ x
    met_joins ts us k means e (Some j) more x =
        let b = known_or_zero j in
        let right = (more b).0 (agrees_itself j) in
        let left : image_under b m.left ≡ ts = ((means b).0 right.0).1 in
        all_still (at_side false h m all) some_joins (λ t i. or_right (at_side true h m all t) (at_side false h m all t) i) us
        (subst (λ xs. list_all (at_side false h m all) xs ≡ true) right.1 (right_joins h ts k b left e))

    violated_same : (E ts : List Fact) (o : Option Known) → Means o (λ b. Agrees nothing_known b × (image_under b m.left ≡ ts)) → violated_at (Caused h) own m E ts o ≡ violated_at (Caused h) own m (filter some_joins E) ts o
    violated_same E ts None means = refl
    violated_same E ts (Some k) means = by (in_scope (Caused h) own m ts k) refl
      where
        by : (c : Bool) → in_scope (Caused h) own m ts k ≡ c → (not (extends k m.right E) && in_scope (Caused h) own m ts k) ≡ (not (extends k m.right (filter some_joins E)) && in_scope (Caused h) own m ts k)
        by true e =
            ap (λ x. not (is_some x) && in_scope (Caused h) own m ts k)
            (lists_within some_joins (length m.right) (λ us. is_some (learn_all m.right us k)) (λ us x. met_joins ts us k means e (learn_all m.right us k) (all_means m.right us k) x) E)
        by false e =
            ap (λ x. not (extends k m.right E) && x) e ∙ and-false (not (extends k m.right E)) ∙ sym (and-false (not (extends k m.right (filter some_joins E)))) ∙ ap (λ x. not (extends k m.right (filter some_joins E)) && x) (sym e)

    -- The first violation is that among the tuples that join.
    pub first_joins : (E : List Fact) → first_violation (Caused h) own m E ≡ first_violation (Caused h) own m (filter some_joins E)
    first_joins E =
        lists_within some_joins (length m.left) (violates (Caused h) own m E)
        (λ ts e. all_still (at_side true h m all) some_joins (λ t i. or_left (at_side true h m all t) (at_side false h m all t) i) ts (image_joins E ts (learn_all m.left ts nothing_known) (all_means m.left ts nothing_known) e)) E
        ∙ find_same (violates (Caused h) own m E) (violates (Caused h) own m (filter some_joins E)) (λ ts. violated_same E ts (learn_all m.left ts nothing_known) (all_means m.left ts nothing_known))
        (lists_of (length m.left) (filter some_joins E))

    -- ---- no violation where there was none

    module _ (D E : List Fact) (since : (t : Fact) → at_side true h m all t ≡ true → has E t ≡ true → has D t ≡ true) (before : (t : Fact) → at_side false h m all t ≡ true → has D t ≡ true → has E t ≡ true) where
      -- What is met on the right in the first is met in the second.
      extends_still : (ts : List Fact) (k : Known) → Means (Some k) (λ b. Agrees nothing_known b × (image_under b m.left ≡ ts)) → in_scope (Caused h) own m ts k ≡ true → extends k m.right D ≡ true → extends k m.right E ≡ true
      extends_still ts k means c e =
          let x = (extends_decides k m.right D).0 e in
          let is : image_under x.binding m.left ≡ ts = ((means x.binding).0 x.agrees).1 in
          (extends_decides k m.right E).1
          (record {
            binding = x.binding;
            agrees = x.agrees;
            present = all_there (at_side false h m all) D E before (image_under x.binding m.right) (right_joins h ts k x.binding is c) x.present;
          })

      unmet_still : (a b : Bool) → (b ≡ true → a ≡ true) → not a ≡ true → not b ≡ true
      unmet_still a true i e = ap not (sym (i refl)) ∙ e
      unmet_still a false i e = refl

      -- What is violated in the second is in the first.
      violated_still : (ts : List Fact) (o : Option Known) → Means o (λ b. Agrees nothing_known b × (image_under b m.left ≡ ts)) → violated_at (Caused h) own m E ts o ≡ true → violated_at (Caused h) own m D ts o ≡ true
      violated_still ts None means e = differ e
      violated_still ts (Some k) means e =
          let parts = and_parts (not (extends k m.right E)) (in_scope (Caused h) own m ts k) e in
          both (not (extends k m.right D)) (in_scope (Caused h) own m ts k) (unmet_still (extends k m.right E) (extends k m.right D) (extends_still ts k means parts.1) parts.0) parts.1

      found_still : is_some (first_violation (Caused h) own m E) ≡ true → is_some (first_violation (Caused h) own m D) ≡ true
      found_still e =
          let p = passing_from_any (violates (Caused h) own m E) (length m.left) E (sym (found_any (violates (Caused h) own m E) (lists_of (length m.left) E)) ∙ e) in
          let o = learn_all m.left p.tuples nothing_known in
          let means = all_means m.left p.tuples nothing_known in
          let there : all_in D p.tuples ≡ true = all_there (at_side true h m all) E D since p.tuples (image_joins E p.tuples o means p.passes) p.present in
          found_any (violates (Caused h) own m D) (lists_of (length m.left) D)
          ∙ subst (λ (n : ℕ). list_any (violates (Caused h) own m D) (lists_of n D) ≡ true) p.many
          (any_from_passing (violates (Caused h) own m D) D p.tuples there (violated_still p.tuples o means p.passes))

      -- Where the first has no violation the second has none.
      pub none_made : first_violation (Caused h) own m D ≡ None → first_violation (Caused h) own m E ≡ None
      none_made f = by (first_violation (Caused h) own m E) refl
        where
          by : (o : Option (List Fact)) → first_violation (Caused h) own m E ≡ o → o ≡ None
          by None e = refl
          by (Some ts) e = differ (ap is_some (sym f) ∙ found_still (ap is_some e))
