-- The chase meets the laws of a machine, in each scope.
use Rattle.std.proofs.Common.{◌≡◌, ℕ, suc, ◌≤◌, ◌<◌, ap, refl, sym, ◌∙◌, List, [], ◌∷◌, Bool, true, false, not, ◌||◌, ◌&&◌, Option, Some, None}
use Rattle.std.specs.Prelude.{nat_lt, if◌then◌else◌, is_some, filter}
use Rattle.std.specs.Option.{option_map}
use Rattle.std.specs.List.{AllByRecursion}
use Rattle.std.proofs.lemmas.Bool.{both_ways, ltb-true}
use Rattle.def_machine.specs.Machine.{Laws}
use Rattle.def_chase.specs.Values.{Fact, same_fact}
use Rattle.def_chase.specs.Repository.{Change, Insert, Delete, has, apply, inserted_after}
use Rattle.def_chase.specs.Mappings.{Rule}
use Rattle.def_chase.specs.Violations.{Scope}
use Rattle.def_chase.specs.Queries.{Query, value}
use Rattle.def_chase.specs.Mentions.{mentions}
use Rattle.def_chase.specs.Updates.{Operation}
use Rattle.def_chase.proofs.Bools.{none_some, not_both}
use Rattle.def_chase.proofs.Sets.{has-apply, apply_in_order, filter_in_order, same_exact, same_repository}
use Rattle.def_chase.proofs.Members.{has-filter}
use Rattle.def_chase.proofs.Coarse.{coarse_law}
use Rattle.def_chase.proofs.Replies.{reply_is, reply_itself}
use Rattle.def_steps.specs.Attempts.{Outcome, Phase, Ended, Spent, outcome_in}
use Rattle.def_steps.specs.Chase.{relation_of, AgreeOn, ending, chase}
use Rattle.def_steps.proofs.Steady.{apply_join}

-- ---- the budget

bounded : (B n : ℕ) (p : Phase) → outcome_in (if is_some (outcome_in p) || nat_lt n B then p else Ended Spent) ≡ None → n < B
bounded B n p h = by (is_some (outcome_in p)) refl (nat_lt n B) refl
  where
    by : (e : Bool) → is_some (outcome_in p) ≡ e → (l : Bool) → nat_lt n B ≡ l → n < B
    by e f true g = ltb-true n B g
    by true f false g = absurd (both_ways (is_some (outcome_in p)) (ap is_some (sym (ap (λ b. outcome_in (if b || nat_lt n B then p else Ended Spent)) f) ∙ h)) f)
    by false f false g = absurd (none_some Spent (sym h ∙ (ap (λ b. outcome_in (if b || nat_lt n B then p else Ended Spent)) f ∙ ap (λ b. outcome_in (if b then p else Ended Spent)) g)))

-- ---- repositories that agree

module _ (p : ℕ → Bool) where
  other : (s t : Fact) → p s.relation ≡ false → p t.relation ≡ true → same_fact t s ≡ false
  other s t g e = not_both (same_fact t s) (λ i. both_ways (p s.relation) g (ap (λ (x : Fact). p x.relation) (sym (same_exact t s i)) ∙ e))

  and_yes : (b : Bool) → (b && true) ≡ b
  and_yes true = refl
  and_yes false = refl

  skipped : (ws : List Change) (b : Bool) (t : Fact) → AllByRecursion (λ w. p (relation_of w) ≡ false) ws → p t.relation ≡ true → inserted_after b ws t ≡ b
  skipped [] b t h e = refl
  skipped (Insert s ∷ ws) b t h e = ap (λ c. inserted_after (c || b) ws t) (other s t h.0 e) ∙ skipped ws b t h.1 e
  skipped (Delete s ∷ ws) b t h e = ap (λ c. inserted_after (b && not c) ws t) (other s t h.0 e) ∙ ap (λ c. inserted_after c ws t) (and_yes b) ∙ skipped ws b t h.1 e

  agree_apply : (D E : List Fact) (ws : List Change) → AgreeOn p D E → AgreeOn p (apply D ws) (apply E ws)
  agree_apply D E ws a =
      record {
        sorted = apply_in_order D ws a.sorted;
        also = apply_in_order E ws a.also;
        same = λ t h. has-apply D ws t ∙ ap (λ b. inserted_after b ws t) (a.same t h) ∙ sym (has-apply E ws t);
      }

  agree_skip : (D E : List Fact) (ws : List Change) → AllByRecursion (λ w. p (relation_of w) ≡ false) ws → AgreeOn p D E → AgreeOn p (apply D ws) E
  agree_skip D E ws h a =
      record {
        sorted = apply_in_order D ws a.sorted;
        also = a.also;
        same = λ t e. has-apply D ws t ∙ skipped ws (has D t) t h e ∙ a.same t e;
      }

  -- agreeing tuple by tuple is having the same tuples
  agree_filter : (D E : List Fact) → AgreeOn p D E → filter (λ t. p t.relation) D ≡ filter (λ t. p t.relation) E
  agree_filter D E a =
      same_repository (filter (λ t. p t.relation) D) (filter (λ t. p t.relation) E) (filter_in_order (λ t. p t.relation) D a.sorted) (filter_in_order (λ t. p t.relation) E a.also)
      (λ s. has-filter (λ t. p t.relation) D s ∙ at s (p s.relation) refl ∙ sym (has-filter (λ t. p t.relation) E s))
    where
      at : (s : Fact) (b : Bool) → p s.relation ≡ b → (has D s && p s.relation) ≡ (has E s && p s.relation)
      at s true e = ap (λ h. h && p s.relation) (a.same s e)
      at s false e = ap (λ b. has D s && b) e ∙ no (has D s) (has E s) ∙ sym (ap (λ b. has E s && b) e)
        where
          no : (x y : Bool) → (x && false) ≡ (y && false)
          no true true = refl
          no true false = refl
          no false true = refl
          no false false = refl

value_agrees : (ms : List Rule) (q : Query) (scope : Scope) (own : List Change) (D E : List Fact) → AgreeOn (mentions ms q) D E → value ms q D own scope ≡ value ms q E own scope
value_agrees ms q scope own D E a = coarse_law ms q D E own scope a.sorted a.also (agree_filter (mentions ms q) D E a)

pub chase_laws : (scope : Operation → Scope) (ms : List Rule) (B : ℕ) → 1 ≤ B → Laws (chase scope ms B)
chase_laws scope ms B few =
    record {
      same_is = reply_is;
      same_self = reply_itself;
      apply_none = λ D. refl;
      apply_join = apply_join;
      begin_own = λ n a op. refl;
      begin_taken = λ n a op. refl;
      begin_count = λ n a op. refl;
      moved_own = λ P m. refl;
      moved_taken = λ P m. refl;
      moved_count = λ P m. refl;
      some_budget = few;
      bounded = λ P m h e. bounded B (suc P.steps) m.phase (unmapped (outcome_in (if is_some (outcome_in m.phase) || nat_lt (suc P.steps) B then m.phase else Ended Spent)) e);
      sound_apply = λ D ws z. apply_in_order D ws z;
      alike_same = λ p D z. record { sorted = z; also = z; same = λ t h. refl };
      alike_apply = λ p D E ws a. agree_apply p D E ws a;
      alike_skip = λ p D E ws h a. agree_skip p D E ws h a;
      alike_value = λ op q D E own a. value_agrees ms q (scope op) own D E a;
    }
  where
    unmapped : (o : Option Outcome) → option_map ending o ≡ None → o ≡ None
    unmapped None e = refl
    unmapped (Some x) e = absurd (none_some (ending x) (sym e))
