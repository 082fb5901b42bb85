-- A base of facts that a session spells is one of update 0 and attempt 0 and puts no mapping in force; with what else is known of a checked session, it is admissible.
use Rattle.std.specs.Prelude.{List, [], ◌∷◌, map, length, None, slice_get, Some}
use Rattle.std.proofs.Common.{arith, ◌≡◌, ap, refl, sym, ◌∙◌, subst, ℕ, suc, ◌==◌, ◌≤◌, Bool, true, false, not, ◌&&◌}
use Rattle.std.specs.List.{list_all, AllByRecursion}
use Rattle.std.proofs.lemmas.Bool.Decides.{nat_tests}
use Rattle.std.proofs.lemmas.List.{append-nil}
use Rattle.def_machine.specs.Serial.{first_stop}
use Rattle.def_machine.specs.Updates.{Session}
use Rattle.def_chase.specs.Values.{Datum, Number, Text, Unknown, Fact}
use Rattle.def_chase.specs.Mappings.{force_relation}
use Rattle.def_chase.specs.Laws.{is_by, are_by}
use Rattle.def_chase.proofs.Bools.{both}
use Rattle.def_chase.proofs.Maps.{length_map}
use Rattle.def_steps.specs.Chase.{caused_chase}
use Rattle.def_steps.specs.Serial.{Request, serial_result}
use Rattle.def_steps.specs.Shifting.{is_of_base, IsBase}
use Rattle.def_steps.specs.Timely.{ActInTime}
use Rattle.def_language.specs.Sessions.{RelationSchema, SessionData}
use Rattle.def_language.specs.Checks.{rules_of}
use Rattle.def_language.specs.Validity.{IsValue, IsFact, IsSession}
use Rattle.lang_session.specs.Base.{base_violation}
use Rattle.lang_session.specs.Meanings.{request_of, requests_in}
use Rattle.lang_session.proofs.Suiting.{few_relations, no_force, mappings_no_null, timely}
use Rattle.lang_session.proofs.Meeting.{base_holds}
use Rattle.def_history.specs.Admissible.{is_plain, IsAdmissible}
use Rattle.def_history.specs.AnyOrder.{tells}
use Rattle.def_history.specs.Histories.{submissions, session_of}
use Rattle.def_history.proofs.Sessions.{sessions_are_admissible}
use Rattle.def_history.proofs.Theorem.{any_order}
use Rattle.core_laws.specs.Histories.{CheckedIsAdmissible, WholeIsSerial, MappingsHold, rules, history_session}

value_of_base : (d : Datum) → IsValue 0 d → is_of_base d ≡ true
value_of_base (Number i) h = refl
value_of_base (Text w) h = refl
value_of_base (Unknown n) h = let e : (n.update == 0) ≡ true = grind (arith, nat_tests) in e

value_first : (d : Datum) → IsValue 0 d → is_by (λ u. 0) d ≡ true
value_first (Number i) h = refl
value_first (Text w) h = refl
value_first (Unknown n) h = let e : (n.attempt == 0) ≡ true = grind (arith, nat_tests) in e

-- What every value that a fact of the base may have passes, all values of it pass.
values_pass : (p : Datum → Bool) → ((d : Datum) → IsValue 0 d → p d ≡ true) → (ds : List Datum) → AllByRecursion (IsValue 0) ds → list_all p ds ≡ true
values_pass p each [] h = refl
values_pass p each (d ∷ ds) h = both (p d) (list_all p ds) (each d h.0) (values_pass p each ds h.1)

facts_pass : (p : Fact → Bool) (rs : List RelationSchema) → ((t : Fact) → IsFact rs 0 t → p t ≡ true) → (ts : List Fact) → AllByRecursion (IsFact rs 0) ts → list_all p ts ≡ true
facts_pass p rs each [] h = refl
facts_pass p rs each (t ∷ ts) h = both (p t) (list_all p ts) (each t h.0) (facts_pass p rs each ts h.1)

-- The session with any updates that act in time.
pub timely_is_admissible : (budget : ℕ) (s : SessionData) (rs : List Request) → IsSession s → base_violation s ≡ None → 1 ≤ budget → ActInTime (rules s) 1 rs
    → IsAdmissible (rules s) budget (session_of (rules s) budget s.base rs [])
timely_is_admissible budget s rs v meets some acts =
    sessions_are_admissible.timely (rules s) budget s.base rs some v.base_order (base_holds s v meets)
    (facts_pass is_plain s.relations (λ t h. ap not (no_force s.relations t.relation (length t.values) (few_relations s v) h.0)) s.base v.base)
    (facts_pass (λ t. list_all is_of_base t.values) s.relations (λ t h. values_pass is_of_base value_of_base t.values h.1) s.base v.base)
    (facts_pass (are_by (λ u. 0)) s.relations (λ t h. values_pass (is_by (λ u. 0)) value_first t.values h.1) s.base v.base)
    (mappings_no_null s.relations s.mappings v.mappings) (timely s v).mappings acts

pub checked_is_admissible : CheckedIsAdmissible
checked_is_admissible budget s v meets some = timely_is_admissible budget s (requests_in s) v meets some (timely s v).updates

pub mappings_hold : MappingsHold
mappings_hold budget c s H us v meets some legal = (any_order (rules s) budget c (history_session budget s) H us (checked_is_admissible budget s v meets some) legal).hold

-- The history's session has as many updates as the session that was read.
same_length : (budget : ℕ) (s : SessionData) → length s.updates ≡ length (history_session budget s).submissions
same_length budget s =
    sym (ap (λ (rs : List Request). length (submissions (rules s) budget rs)) (append-nil (requests_in s))
    ∙ length_map _ (requests_in s) ∙ length_map request_of s.updates)

pub whole_is_serial : WholeIsSerial
whole_is_serial budget c s H us v meets some legal whole =
    subst (λ rs. serial_result (rules s) budget s.base rs ≡ tells (rules s) budget (history_session budget s) us (first_stop (caused_chase (rules s) budget) 1 us))
    (sessions_are_admissible.same (rules s) budget s.base (requests_in s))
    ((any_order (rules s) budget c (history_session budget s) H us (checked_is_admissible budget s v meets some) legal).session whole.recorded (whole.admitted ∙ same_length budget s) whole.quiet)
