-- In a timely session no mapping is in force below or in an update whose `since` is above the update's number.
use Rattle.std.specs.Prelude.{◌==◌, nat_lt, slice_get, pos, negsuc, if◌then◌else◌}
use Rattle.std.proofs.Common.{◌≡◌, ℕ, zero, suc, ◌+◌, ◌≤◌, ◌<◌, ap, refl, sym, ◌∙◌, subst, List, [], ◌∷◌, map, Bool, true, false, not, ◌||◌, Option, Some, None, arith}
use Rattle.std.specs.List.{list_all}
use Rattle.std.proofs.lemmas.Bool.{and_parts, both_ways, eqb-true, ltb-true, lt-ltb}
use Rattle.def_machine.specs.Updates.{Read}
use Rattle.def_machine.specs.Runs.{Reached}
use Rattle.def_chase.specs.Values.{Datum, Number, Text, Unknown, Fact, same_fact, under}
use Rattle.def_chase.specs.Repository.{has, apply}
use Rattle.def_chase.specs.Mappings.{Pattern, Rule, fact_under, listed, force_relation, force, in_force}
use Rattle.def_chase.specs.Violations.{Scope}
use Rattle.def_chase.specs.Updates.{Operation, Adds, Choice}
use Rattle.def_chase.specs.Caused.{KeepsConstants}
use Rattle.def_chase.proofs.Bools.{differ, none_some, some_same, not_both}
use Rattle.def_chase.proofs.Sets.{same_exact}
use Rattle.def_steps.specs.Attempts.{Attempt}
use Rattle.def_steps.specs.Chase.{chase}
use Rattle.def_steps.specs.Looking.{NoneLater}
use Rattle.def_steps.specs.Timely.{not_after, enacts_by, in_time, is_plain_atom, repairs_plainly, acts_in_time}
use Rattle.def_steps.proofs.Made.{Closed}
use Rattle.def_steps.proofs.MadeRuns.{view_passes, reached_passing}

all_true : (ds : List Datum) → list_all (λ d. true) ds ≡ true
all_true [] = refl
all_true (d ∷ ds) = all_true ds

module _ (ms : List Rule) where
  -- a tuple of another relation is in time
  elsewhere : (u : ℕ) (t : Fact) → (t.relation == force_relation) ≡ false → in_time ms u t ≡ true
  elsewhere u t h = ap (λ b. if b then enacts_by ms u t.values else true) h

  plainly : (b : Bool) → not b ≡ true → b ≡ false
  plainly true h = absurd (both_ways false refl h)
  plainly false h = refl

  -- a substitution leaves the values of a tuple that puts a mapping in force
  values_stay : (u : ℕ) (f : Datum → Datum) → KeepsConstants f → (ds : List Datum) → enacts_by ms u ds ≡ true → map f ds ≡ ds
  values_stay u f c [] h = refl
  values_stay u f c (Number (pos n) ∷ []) h = λ i. c.0 (pos n) i ∷ []
  values_stay u f c (Number (pos n) ∷ d ∷ ds) h = differ h
  values_stay u f c (Number (negsuc n) ∷ ds) h = differ h
  values_stay u f c (Text w ∷ ds) h = differ h
  values_stay u f c (Unknown m ∷ ds) h = differ h

  substituted : (u : ℕ) (f : Datum → Datum) → KeepsConstants f → (t : Fact) → in_time ms u t ≡ true → in_time ms u (under f t) ≡ true
  substituted u f c t h = by (t.relation == force_relation) h
    where
      by : (b : Bool) → (if b then enacts_by ms u t.values else true) ≡ true → (if b then enacts_by ms u (map f t.values) else true) ≡ true
      by true e = ap (enacts_by ms u) (values_stay u f c t.values e) ∙ e
      by false e = refl

  right_plain : repairs_plainly ms ≡ true → (n i : ℕ) (m : Rule) (b : Pattern) → slice_get ms n ≡ Some m → slice_get m.right i ≡ Some b → (b.relation == force_relation) ≡ false
  right_plain h n i m b e f = plainly (b.relation == force_relation) (at_place is_plain_atom m.right i b (at_place (λ (m : Rule). list_all is_plain_atom m.right) ms n m h e) f)
    where
      at_place : {A : Type 0} (p : A → Bool) (xs : List A) (i : ℕ) (x : A) → list_all p xs ≡ true → slice_get xs i ≡ Some x → p x ≡ true
      at_place p [] i x a g = absurd (none_some x g)
      at_place p (y ∷ ys) zero x a g = subst (λ z. p z ≡ true) (some_same y x g) (and_parts (p y) (list_all p ys) a).0
      at_place p (y ∷ ys) (suc i) x a g = at_place p ys i x (and_parts (p y) (list_all p ys) a).1 g

  added_plain : (u : ℕ) (op : Operation) → acts_in_time ms u op ≡ true → (t : Fact) → op ≡ Adds t → (t.relation == force_relation) ≡ false
  added_plain u op h t e = plainly (t.relation == force_relation) (subst (λ o. acts_in_time ms u o ≡ true) e h)

  pub time_tests : (op : Operation) (u a : ℕ) → repairs_plainly ms ≡ true → acts_in_time ms u op ≡ true → Closed ms op u a (λ k d. true) (λ k t. in_time ms u t)
  time_tests op u a plain acts =
      record {
        constants = λ k d e. refl;
        later = λ k j d e. refl;
        fresh = λ k j i h l. refl;
        values = λ k t e. all_true t.values;
        tuples_later = λ k j t e. e;
        substituted = λ k f c h t e. substituted u f c t e;
        generated = λ k n i m b e f ds h. elsewhere u (fact_under (listed ds) b) (right_plain plain n i m b e f);
        nowhere = λ k. refl;
        added = λ t e k f h. elsewhere u (under f t) (added_plain u op acts t e);
        enacted = λ n e k. subst (λ o. acts_in_time ms u o ≡ true) e acts;
      }

  -- ---- what is in force

  later_one : (u v : ℕ) → u ≤ v → (o : Option Rule) → not_after u o ≡ true → not_after v o ≡ true
  later_one u v l None h = refl
  later_one u v l (Some m) h = by (nat_lt v m.since) refl h
    where
      by : (b : Bool) → nat_lt v m.since ≡ b → not (nat_lt u m.since) ≡ true → not b ≡ true
      by false e g = refl
      by true e g =
          let k : v < m.since = ltb-true v m.since e in
          let below : nat_lt u m.since ≡ true = lt-ltb u m.since (omega arith) in
          sym (ap not below) ∙ g

  later_values : (u v : ℕ) → u ≤ v → (ds : List Datum) → enacts_by ms u ds ≡ true → enacts_by ms v ds ≡ true
  later_values u v l [] h = differ h
  later_values u v l (Number (pos n) ∷ []) h = later_one u v l (slice_get ms n) h
  later_values u v l (Number (pos n) ∷ d ∷ ds) h = differ h
  later_values u v l (Number (negsuc n) ∷ ds) h = differ h
  later_values u v l (Text w ∷ ds) h = differ h
  later_values u v l (Unknown m ∷ ds) h = differ h

  -- what is in time for an update is so for the later ones
  pub in_time_later : (u v : ℕ) → u ≤ v → (t : Fact) → in_time ms u t ≡ true → in_time ms v t ≡ true
  in_time_later u v l t h = by (t.relation == force_relation) h
    where
      by : (b : Bool) → (if b then enacts_by ms u t.values else true) ≡ true → (if b then enacts_by ms v t.values else true) ≡ true
      by true e = later_values u v l t.values e
      by false e = refl

  has_passes : (q : Fact → Bool) (E : List Fact) (t : Fact) → list_all q E ≡ true → has E t ≡ true → q t ≡ true
  has_passes q [] t a h = differ h
  has_passes q (s ∷ E) t a h = let p = and_parts (q s) (list_all q E) a in by (same_fact t s) refl h p.0 (has_passes q E t p.1)
    where
      by : (b : Bool) → same_fact t s ≡ b → (b || has E t) ≡ true → q s ≡ true → (has E t ≡ true → q t ≡ true) → q t ≡ true
      by true e g x rest = ap q (same_exact t s e) ∙ x
      by false e g x rest = rest g

  none_of : (u : ℕ) (E : List Fact) → list_all (in_time ms u) E ≡ true → (n : ℕ) (m : Rule) → slice_get ms n ≡ Some m → nat_lt u m.since ≡ true → in_force n m E ≡ false
  none_of u E a n m e l =
      not_both (in_force n m E)
      (λ f. by (m.since == 0) refl (has E (force n)) refl f)
    where
      by : (b : Bool) → (m.since == 0) ≡ b → (c : Bool) → has E (force n) ≡ c → (b || c) ≡ true → ⊥
      by true x c y f =
          let zero_since : m.since ≡ 0 = eqb-true m.since 0 x in
          let above : u < m.since = ltb-true u m.since l in omega arith
      by false x true y f =
          both_ways (nat_lt u m.since) (plainly (nat_lt u m.since) (ap (not_after u) (sym e) ∙ has_passes (in_time ms u) E (force n) a y)) l
      by false x false y f = both_ways false refl f

  pub none_later : (u : ℕ) (E : List Fact) → list_all (in_time ms u) E ≡ true → (n : ℕ) (rs : List Rule) → ((j : ℕ) → slice_get rs j ≡ slice_get ms (n + j)) → NoneLater u n rs E
  none_later u E a n [] t = tt
  none_later u E a n (m ∷ rs) t = (
    λ l. none_of u E a n m (ap (slice_get ms) (omega arith) ∙ sym (t 0)) l,
    none_later u E a (suc n) rs (λ j. t (suc j) ∙ ap (slice_get ms) (omega arith)),
  )

-- All that an update leaves is in time, where what lay below it was.
pub view_in_time : (scope : Operation → Scope) (ms : List Rule) (B : ℕ) (D : List Fact) (answers : List Choice) (u a : ℕ) (op : Operation) {P : Attempt} {log : List (Read (chase scope ms B))}
    → repairs_plainly ms ≡ true → acts_in_time ms u op ≡ true → list_all (in_time ms u) D ≡ true → Reached (chase scope ms B) D answers u a op P log → list_all (in_time ms u) (apply D P.own) ≡ true
view_in_time scope ms B D answers u a op {P} plain acts base r =
    view_passes scope ms B D answers u a op (λ k d. true) (λ k t. in_time ms u t) (time_tests ms op u a plain acts) base P
    (reached_passing scope ms B D answers u a op (λ k d. true) (λ k t. in_time ms u t) (time_tests ms op u a plain acts) base r)
