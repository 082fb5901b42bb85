-- Where the base violates no mapping that is in force from the start, all mappings in force hold in it.
use Rattle.std.proofs.Common.{◌≡◌, ap, refl, sym, ◌∙◌, subst, cond, List, [], ◌∷◌, ℕ, suc, ◌==◌, ◌≤◌, length, Bool, true, false, ◌||◌, Option, Some, None, is_some, option_map}
use Rattle.std.specs.List.{AllByRecursion}
use Rattle.std.specs.Option.{option_or}
use Rattle.std.proofs.lemmas.Bool.{both_ways}
use Rattle.def_chase.specs.Values.{Fact, same_fact}
use Rattle.def_chase.specs.Repository.{has}
use Rattle.def_chase.specs.Mappings.{Holds, force, force_relation, in_force, HoldFrom, AllHold}
use Rattle.def_chase.specs.Violations.{Every, first_violation}
use Rattle.def_chase.proofs.Sets.{same_exact}
use Rattle.def_chase.proofs.Violations.{none_violates}
use Rattle.def_language.specs.Names.{Name}
use Rattle.def_language.specs.Sessions.{RelationSchema, SessionMapping, SessionData, is_initial}
use Rattle.def_language.specs.Checks.{rules_of}
use Rattle.def_language.specs.Validity.{IsFact, IsSession}
use Rattle.lang_session.specs.Base.{Violated, violated_by, first_violated, base_violation}
use Rattle.lang_session.proofs.Suiting.{few_relations, no_force}

-- No tuple of the base says that a mapping is in force.
not_force : (rs : List RelationSchema) (n : ℕ) (ts : List Fact) → length rs ≤ 128 → AllByRecursion (IsFact rs 0) ts → has ts (force n) ≡ false
not_force rs n [] few h = refl
not_force rs n (t ∷ ts) few h = by (same_fact (force n) t) refl (not_force rs n ts few h.1)
  where
    by : (b : Bool) → same_fact (force n) t ≡ b → has ts (force n) ≡ false → (b || has ts (force n)) ≡ false
    by true e rest = absurd (both_ways ((t.relation == force_relation)) (no_force rs t.relation (length t.values) few h.0.0) (ap (λ (u : Fact). u.relation == force_relation) (sym (same_exact (force n) t e))))
    by false e rest = rest

none_left : {A : Type 0} → (x y : Option A) → option_or x y ≡ None → (x ≡ None) × (y ≡ None)
none_left None y e = (refl, e)
none_left (Some a) y e = absurd (no_some a e)
  where
    no_some : {A : Type 0} → (a : A) → Some a ≡ None → ⊥
    no_some a e = both_ways (is_some (Some a)) (ap is_some e) refl

abbrev violation : Name → List Fact → Violated
violation n xs = record { name = n; image = xs }

unmapped : (n : Name) (image : Option (List Fact)) → option_map (violation n) image ≡ None → image ≡ None
unmapped n None e = refl
unmapped n (Some xs) e = absurd (both_ways true (ap is_some e) refl)

holds_from : (n : ℕ) (ms : List SessionMapping) (D : List Fact) → ((k : ℕ) → has D (force k) ≡ false) → first_violated D ms ≡ None → HoldFrom n (rules_of ms) D
holds_from n [] D free none = tt
holds_from n (m ∷ ms) D free none =
    let parts = none_left (violated_by D m) (first_violated D ms) none in
    (λ forced. by (is_initial m) refl forced parts.0, holds_from (suc n) ms D free parts.1)
  where
    by : (b : Bool) → is_initial m ≡ b → in_force n m.rule D ≡ true → violated_by D m ≡ None → Holds m.rule D
    by true e forced none =
        none_violates m.rule [] D (unmapped m.name (first_violation Every [] m.rule D)
        (subst (λ b. cond b (option_map (violation m.name) (first_violation Every [] m.rule D)) None ≡ None) e none))
    by false e forced none = absurd (both_ways (in_force n m.rule D) (ap (λ b. b || has D (force n)) e ∙ free n) forced)

pub base_holds : (s : SessionData) → IsSession s → base_violation s ≡ None → AllHold (rules_of s.mappings) s.base
base_holds s v none = holds_from 0 s.mappings s.base (λ k. not_force s.relations k s.base (few_relations s v) v.base) none
