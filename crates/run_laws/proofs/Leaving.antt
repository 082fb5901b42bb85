-- What the serial machine leaves of a whole valid session.
use Rattle.std.proofs.Common.{◌≡◌, ℕ, ◌+◌, ◌≤◌, ◌==◌, subst, List, [], ◌∷◌, length, true, not, refl, arith}
use Rattle.std.specs.List.{list_all, AllByRecursion}
use Rattle.def_machine.specs.Serial.{serial}
use Rattle.def_chase.specs.Values.{Fact}
use Rattle.def_chase.specs.Repository.{IsRepository}
use Rattle.def_chase.specs.Mappings.{force_relation}
use Rattle.def_chase.proofs.Bools.{both}
use Rattle.def_chase.proofs.Sets.{filter_in_order}
use Rattle.def_steps.specs.Chase.{whole_chase}
use Rattle.def_steps.specs.Serial.{turns_of, serial_result}
use Rattle.def_language.specs.Sessions.{RelationSchema, SessionData}
use Rattle.def_language.specs.Checks.{rules_of}
use Rattle.def_language.specs.Validity.{IsFact, IsSession}
use Rattle.lang_session.specs.Meanings.{requests_in}
use Rattle.lang_session.proofs.Suiting.{no_force, few_relations}
use Rattle.run_laws.proofs.Fitting.{fits, fact_fits}
use Rattle.run_laws.proofs.Enacting.{session_acts}
use Rattle.run_laws.proofs.Serial.{Left, serial_left, answered_facts}

facts_fit : (rs : List RelationSchema) → length rs ≤ 128 → (ts : List Fact) → AllByRecursion (IsFact rs 0) ts → list_all (fits rs 0 0) ts ≡ true
facts_fit rs few [] h = refl
facts_fit rs few (t ∷ ts) h = both (fits rs 0 0 t) (list_all (fits rs 0 0) ts) (fact_fits rs 0 0 t (no_force rs t.relation (length t.values) few h.0.0) h.0) (facts_fit rs few ts h.1)

module _ (s : SessionData) (v : IsSession s) (B : ℕ) (some : 1 ≤ B) (within : B ≤ 1000001) where
  pub session_left : Left s v B some within 0 s.updates s.base (serial (whole_chase (rules_of s.mappings) B) s.base (turns_of (rules_of s.mappings) B (requests_in s)))
  session_left = serial_left s v B some within s.updates 0 s.base (session_acts s v) record { order = v.base_order; fit = facts_fit s.relations (few_relations s v) s.base v.base }

  pub facts_left : AllByRecursion (IsFact s.relations (length s.updates)) (serial_result (rules_of s.mappings) B s.base (requests_in s)).repository
  facts_left =
      let all : 0 + length s.updates ≡ length s.updates = omega arith in
      answered_facts s.relations (length s.updates) (serial (whole_chase (rules_of s.mappings) B) s.base (turns_of (rules_of s.mappings) B (requests_in s))).repository
      (subst (λ n. list_all (fits s.relations n 0) (serial (whole_chase (rules_of s.mappings) B) s.base (turns_of (rules_of s.mappings) B (requests_in s))).repository ≡ true) all session_left.kept.fit)

  pub order_left : IsRepository (serial_result (rules_of s.mappings) B s.base (requests_in s)).repository
  order_left = filter_in_order (λ t. not (t.relation == force_relation)) (serial (whole_chase (rules_of s.mappings) B) s.base (turns_of (rules_of s.mappings) B (requests_in s))).repository session_left.kept.order
