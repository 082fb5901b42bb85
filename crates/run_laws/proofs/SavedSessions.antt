-- The saved session is a session, and its base meets its mappings.
use Rattle.std.specs.Prelude.{slice_get, filter, nat_lt, ◌-◌}
use Rattle.std.proofs.Common.{◌≡◌, ℕ, zero, suc, ◌+◌, ◌≤◌, ◌==◌, ap, refl, sym, ◌∙◌, subst, List, [], ◌∷◌, ◌++◌, map, length, Bool, true, false, ◌||◌, cond, Option, Some, None, option_map, inr, arith}
use Rattle.std.specs.Option.{option_or}
use Rattle.std.specs.List.{list_all, AllByRecursion}
use Rattle.std.proofs.lemmas.Bool.{and_parts, ltb-false}
use Rattle.std.proofs.lemmas.List.{take_all, append-nil}
use Rattle.def_machine.specs.Serial.{serial}
use Rattle.def_chase.specs.Values.{Fact}
use Rattle.def_chase.specs.Repository.{IsRepository, has}
use Rattle.def_chase.specs.Mappings.{Holds, in_force, force, HoldFrom, AllHold}
use Rattle.def_chase.specs.Violations.{Every, first_violation}
use Rattle.def_chase.specs.Laws.{HaveNoNulls}
use Rattle.def_chase.proofs.Bools.{differ, first_off, none_some, or_left, or_right}
use Rattle.def_chase.proofs.Maps.{length_map, get_map}
use Rattle.def_chase.proofs.Violations.{first_violation_is}
use Rattle.def_steps.specs.Attempts.{Outcome, Done, Spent, Refused}
use Rattle.def_steps.specs.Chase.{whole_chase}
use Rattle.def_steps.specs.Serial.{Finished, answered, turns_of, serial_result}
use Rattle.def_steps.specs.Timely.{is_plain_atom, repairs_plainly}
use Rattle.chase_update.specs.Wishes.{end_in}
use Rattle.chase_update.specs.Results.{ResultTold, finish_in}
use Rattle.def_language.specs.Names.{Name}
use Rattle.def_language.specs.Printing.{printed}
use Rattle.def_language.specs.Sessions.{SessionMapping, SessionData, initial_mappings, added_mappings}
use Rattle.def_language.specs.Checks.{rules_of}
use Rattle.def_language.specs.Validity.{IsFact, sinces, IsSession}
use Rattle.lang_session.specs.Base.{Violated, violated_by, first_violated, base_violation}
use Rattle.lang_session.specs.Meanings.{requests_in}
use Rattle.lang_report.specs.Results.{serial_told}
use Rattle.lang_report.specs.Saved.{saved_base, is_done, is_done_in, stays_in_force, from_start, saved_mappings, saved, is_too_large}
use Rattle.run_laws.specs.Kept.{InForceHold}
use Rattle.run_laws.specs.Renamed.{IsRenamed}
use Rattle.run_laws.proofs.Renaming.{base_renamed}
use Rattle.run_laws.proofs.Names.{renamed_repository}
use Rattle.run_laws.proofs.Inherited.{names_new, some_mappings, some_few, none_added, all_initial, no_new_cycle}
use Rattle.run_laws.proofs.Based.{base_facts}
use Rattle.run_laws.proofs.Leaving.{session_left, facts_left, order_left}
use Rattle.run_laws.proofs.Enacting.{ByUpdate, added_by}
use Rattle.run_laws.proofs.Holding.{begun, holds_answered, holds_renamed, holds_begun}
use Rattle.lang_session.proofs.Suiting.{few_relations, mappings_no_null, timely}
use Rattle.lang_session.proofs.Meeting.{base_holds}
use Rattle.def_steps.proofs.SerialHolding.{hold_throughout}

small_base : (s : SessionData) → is_too_large s ≡ false → length s.base ≤ 100000
small_base s h = ltb-false 100000 (length s.base) (first_off (nat_lt 100000 (length s.base)) (nat_lt 16777216 (length (printed s))) h).0

-- What is saved of any result whose repository fits the session is a session.
saved_is : (s : SessionData) → IsSession s → (r : ResultTold) (most : ℕ) → IsRepository r.repository → AllByRecursion (IsFact s.relations most) r.repository → length (saved_base r.repository) ≤ 100000 → IsSession (saved s r)
saved_is s v r most order facts few =
    let base_few : length r.repository ≤ 100000 = subst (λ n. n ≤ 100000) (length_map _ r.repository) few in
    record {
      format = inr refl;
      relation_names = v.relation_names;
      relations = v.relations;
      relation_count = few_relations s v;
      mapping_names = names_new (stays_in_force r.finishes) s.mappings [] [] (λ n e. e) v.mapping_names;
      mappings = some_mappings s.relations (stays_in_force r.finishes) s.mappings v.mappings;
      mapping_count = (let few_left : length (saved_mappings r.finishes s.mappings) ≤ length s.mappings = some_few (stays_in_force r.finishes) s.mappings in let all : length s.mappings ≤ 64 = v.mapping_count in omega arith);
      added_count = (let none : length (added_mappings (saved_mappings r.finishes s.mappings)) ≡ 0 = ap length (none_added (filter (stays_in_force r.finishes) s.mappings)) in omega arith);
      added_last = joined;
      added_by_updates = ap (sinces (length (initial_mappings (saved_mappings r.finishes s.mappings)))) (sym (none_added (filter (stays_in_force r.finishes) s.mappings)));
      added_format = λ e. absurd (omega arith);
      no_cycle = λ c. v.no_cycle (no_new_cycle (stays_in_force r.finishes) s.mappings (length s.relations) c);
      base_order = renamed_repository r.repository (saved_base r.repository) (base_renamed r.repository) order;
      base = base_facts s.relations v.relations most r.repository base_few facts;
      base_count = few;
      labels = tt;
      updates = tt;
      update_count = omega arith;
      curator_count = omega arith;
      answers = omega arith;
    }
  where
    joined : saved_mappings r.finishes s.mappings ≡ initial_mappings (saved_mappings r.finishes s.mappings) ++ added_mappings (saved_mappings r.finishes s.mappings)
    joined = sym ((λ i. all_initial (filter (stays_in_force r.finishes) s.mappings) i ++ none_added (filter (stays_in_force r.finishes) s.mappings) i) ∙ append-nil (saved_mappings r.finishes s.mappings))

-- ---- the mappings in force

abbrev violation : Name → List Fact → Violated
violation n image = record { name = n; image = image }

none_violated : (m : SessionMapping) (E : List Fact) → IsRepository E → Holds (begun m.rule) E → violated_by E (from_start m) ≡ None
none_violated m E order holds = by (first_violation Every [] (begun m.rule) E) refl
  where
    by : (o : Option (List Fact)) → first_violation Every [] (begun m.rule) E ≡ o → option_map (violation m.name) o ≡ None
    by None e = refl
    by (Some image) e = absurd (holds image (first_violation_is (begun m.rule) [] E image order e).is_violation)

-- Those that are kept hold under other names.
none_left : (p : SessionMapping → Bool) (R E : List Fact) → IsRenamed (answered R) E → IsRepository E → (n : ℕ) (ms : List SessionMapping) → HaveNoNulls (rules_of ms) → repairs_plainly (rules_of ms) ≡ true → HoldFrom n (rules_of ms) R
    → ((j : ℕ) (m : SessionMapping) → slice_get ms j ≡ Some m → p m ≡ true → in_force (n + j) m.rule R ≡ true)
    → first_violated E (map from_start (filter p ms)) ≡ None
none_left p R E r order n [] plain acts hold forced = refl
none_left p R E r order n (m ∷ ms) plain acts hold forced =
    let a = and_parts (list_all is_plain_atom m.rule.right) (repairs_plainly (rules_of ms)) acts in
    by (p m) refl a.0 (none_left p R E r order (suc n) ms plain.1 a.1 hold.1 (λ j k e f. let next : n + suc j ≡ suc n + j = omega arith in subst (λ i. in_force i k.rule R ≡ true) next (forced (suc j) k e f)))
  where
    here : p m ≡ true → in_force n m.rule R ≡ true
    here f = let first : n + 0 ≡ n = omega arith in subst (λ i. in_force i m.rule R ≡ true) first (forced 0 m refl f)

    by : (b : Bool) → p m ≡ b → list_all is_plain_atom m.rule.right ≡ true → first_violated E (map from_start (filter p ms)) ≡ None → first_violated E (map from_start (cond b (m ∷ filter p ms) (filter p ms))) ≡ None
    by true f right rest =
        ap (λ (o : Option Violated). option_or o (first_violated E (map from_start (filter p ms))))
        (none_violated m E order (holds_begun m.rule E (holds_renamed (answered R) E r m.rule plain.0 (holds_answered m.rule R right (hold.0 (here f))))))
        ∙ rest
    by false f right rest = rest

-- Each that is in force holds in what is told of the repository.
plain_holding : (k : ℕ) (ms : List SessionMapping) (R : List Fact) → HoldFrom k (rules_of ms) R → repairs_plainly (rules_of ms) ≡ true
    → (n : ℕ) (m : SessionMapping) → slice_get ms n ≡ Some m → in_force (k + n) m.rule R ≡ true → Holds m.rule (answered R)
plain_holding k [] R hold acts n m e f = absurd (none_some m e)
plain_holding k (x ∷ ms) R hold acts zero m e f =
    let same : x ≡ m = cc in
    let first : k + 0 ≡ k = omega arith in
    let a = and_parts (list_all is_plain_atom x.rule.right) (repairs_plainly (rules_of ms)) acts in
    subst (λ (y : SessionMapping). Holds y.rule (answered R)) same
    (holds_answered x.rule R a.0
    (hold.0 (subst (λ i. in_force i x.rule R ≡ true) first (subst (λ (y : SessionMapping). in_force (k + 0) y.rule R ≡ true) (sym same) f))))
plain_holding k (x ∷ ms) R hold acts (suc n) m e f =
    let next : k + suc n ≡ suc k + n = omega arith in
    let a = and_parts (list_all is_plain_atom x.rule.right) (repairs_plainly (rules_of ms)) acts in
    plain_holding (suc k) ms R hold.1 a.1 n m e (subst (λ i. in_force i m.rule R ≡ true) next f)

done_is : (o : Outcome) → is_done (end_in o) ≡ true → o ≡ Done
done_is Done e = refl
done_is Spent e = differ e
done_is (Refused n) e = differ e

module _ (s : SessionData) (v : IsSession s) (B : ℕ) (some : 1 ≤ B) (within : B ≤ 1000001) where
  -- a mapping that stays in force is in force in the end
  forced : (n : ℕ) (m : SessionMapping) → slice_get s.mappings n ≡ Some m → stays_in_force (serial_told B s).finishes m ≡ true
      → in_force n m.rule (serial (whole_chase (rules_of s.mappings) B) s.base (turns_of (rules_of s.mappings) B (requests_in s))).repository ≡ true
  forced n m e f = by (m.rule.since == 0) refl f
    where
      found : ByUpdate s.updates n m.rule.since → (o : Option Finished) → slice_get (serial_result (rules_of s.mappings) B s.base (requests_in s)).finishes (m.rule.since - 1) ≡ o → is_done_in (option_map finish_in o) ≡ true
          → has (serial (whole_chase (rules_of s.mappings) B) s.base (turns_of (rules_of s.mappings) B (requests_in s))).repository (force n) ≡ true
      found u None g h = differ h
      found u (Some k) g h = (session_left s v B some within).enacts (m.rule.since - 1) n k u.by g (done_is k.outcome h) u.there u.does

      by : (b : Bool) → (m.rule.since == 0) ≡ b → (b || is_done_in (slice_get (serial_told B s).finishes (m.rule.since - 1))) ≡ true
          → in_force n m.rule (serial (whole_chase (rules_of s.mappings) B) s.base (turns_of (rules_of s.mappings) B (requests_in s))).repository ≡ true
      by true g h = or_left (m.rule.since == 0) _ g
      by false g h =
          or_right (m.rule.since == 0) _
          (found (added_by s v n m e g) (slice_get (serial_result (rules_of s.mappings) B s.base (requests_in s)).finishes (m.rule.since - 1)) refl
          (ap is_done_in (sym (get_map finish_in (serial_result (rules_of s.mappings) B s.base (requests_in s)).finishes (m.rule.since - 1))) ∙ h))

  pub saved_is_session : is_too_large (saved s (serial_told B s)) ≡ false → IsSession (saved s (serial_told B s))
  saved_is_session small =
      saved_is s v (serial_told B s) (length s.updates) (order_left s v B some within) (facts_left s v B some within) (small_base (saved s (serial_told B s)) small)

  all_hold : base_violation s ≡ None → AllHold (rules_of s.mappings) (serial (whole_chase (rules_of s.mappings) B) s.base (turns_of (rules_of s.mappings) B (requests_in s))).repository
  all_hold meets =
      subst (λ rs. AllHold (rules_of s.mappings) (serial (whole_chase (rules_of s.mappings) B) s.base (turns_of (rules_of s.mappings) B rs)).repository)
      (take_all (length (requests_in s)) (requests_in s) (omega arith))
      (hold_throughout (rules_of s.mappings) B s.base (requests_in s) (length (requests_in s)) some (timely s v) (base_holds s v meets))

  pub left_hold : base_violation s ≡ None → InForceHold s (serial_told B s)
  left_hold meets n m e f =
      let same : 0 + n ≡ n = omega arith in
      plain_holding 0 s.mappings (serial (whole_chase (rules_of s.mappings) B) s.base (turns_of (rules_of s.mappings) B (requests_in s))).repository
      (all_hold meets) (timely s v).mappings n m e
      (subst (λ i. in_force i m.rule (serial (whole_chase (rules_of s.mappings) B) s.base (turns_of (rules_of s.mappings) B (requests_in s))).repository ≡ true) (sym same) (forced n m e f))

  pub saved_meets : base_violation s ≡ None → base_violation (saved s (serial_told B s)) ≡ None
  saved_meets meets =
      none_left (stays_in_force (serial_told B s).finishes) (serial (whole_chase (rules_of s.mappings) B) s.base (turns_of (rules_of s.mappings) B (requests_in s))).repository (saved_base (serial_told B s).repository)
      (base_renamed (serial_told B s).repository) (renamed_repository (serial_told B s).repository (saved_base (serial_told B s).repository) (base_renamed (serial_told B s).repository) (order_left s v B some within))
      0 s.mappings (mappings_no_null s.relations s.mappings v.mappings) (timely s v).mappings (all_hold meets)
      (λ j m e f. let same : 0 + j ≡ j = omega arith in subst (λ n. in_force n m.rule (serial (whole_chase (rules_of s.mappings) B) s.base (turns_of (rules_of s.mappings) B (requests_in s))).repository ≡ true) (sym same) (forced j m e f))
