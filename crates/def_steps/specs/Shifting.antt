-- Other attempt numbers: a shift takes attempt a of update u to attempt a + n u. It commutes with every step, with updates taken
-- whole and with the serial machine.
use Rattle.std.specs.Prelude.{◌≡◌, ℕ, ◌+◌, ◌==◌, Bool, true, List, map, Option}
use Rattle.std.specs.Option.{option_map}
use Rattle.std.specs.List.{list_all}
use Rattle.def_machine.specs.Trees.{result_of, log_of}
use Rattle.def_machine.specs.Serial.{Turn, Finish, Stop, Result, whole, serial}
use Rattle.def_chase.specs.Values.{Datum, Number, Text, Unknown, Fact, outer_datum, outer}
use Rattle.def_chase.specs.Mappings.{Rule}
use Rattle.def_chase.specs.Violations.{Scope}
use Rattle.def_chase.specs.Queries.{Query, Reply, value}
use Rattle.def_chase.specs.Updates.{Operation, Choice}
use Rattle.def_chase.specs.Laws.{HaveNoNulls}
use Rattle.def_chase.specs.Shifts.{shift, shift_fact, shift_change, shift_query, shift_reply}
use Rattle.def_steps.specs.Attempts.{Repair, Question, Positive, Negative, Phase, Start, Look, Generate, Asked, Ended, Attempt}
use Rattle.def_steps.specs.Steps.{Move, step}
use Rattle.def_steps.specs.Chase.{chase}
use Rattle.def_steps.specs.Serial.{Stopped, SerialResult, at_rest, told}

abbrev pub shift_repair : (ℕ → ℕ) → Repair → Repair
shift_repair n r = record { mapping = r.mapping; binding = map (shift n) r.binding; atom = r.atom }

abbrev pub shift_question : (ℕ → ℕ) → Question → Question
shift_question n (Positive r t cs) = Positive (shift_repair n r) (shift_fact n t) (map (shift_fact n) cs)
shift_question n (Negative m ts) = Negative m (map (shift_fact n) ts)

abbrev pub shift_phase : (ℕ → ℕ) → Phase → Phase
shift_phase n Start = Start
shift_phase n Look = Look
shift_phase n (Generate r) = Generate (shift_repair n r)
shift_phase n (Asked q) = Asked (shift_question n q)
shift_phase n (Ended o) = Ended o

-- The attempt with its own number and the attempts of all its nulls shifted. Its operation names nulls by outer forms, which do
-- not change.
abbrev pub shift_attempt : (ℕ → ℕ) → Attempt → Attempt
shift_attempt n P =
    record {
      number = P.number;
      attempt = P.attempt + n P.number;
      operation = P.operation;
      phase = shift_phase n P.phase;
      own = map (shift_change n) P.own;
      steps = P.steps;
      nulls = P.nulls;
      taken = P.taken;
    }

abbrev pub shift_move : (ℕ → ℕ) → Move → Move
shift_move n m = record { writes = map (shift_change n) m.writes; phase = shift_phase n m.phase; drawn = m.drawn }

abbrev pub shift_read : (ℕ → ℕ) → Query × Reply → Query × Reply
shift_read n r = (shift_query n r.0, shift_reply n r.1)

-- ---- steps

-- The shifted attempt over the shifted repository asks the shifted queries, gets the shifted answers, and makes the shifted move.
pub record StepShifts (n : ℕ → ℕ) (scope : Scope) (ms : List Rule) (D : List Fact) (P : Attempt) (c : Option Choice) : Type 0 where
  pub reads : log_of (λ q. value ms q (map (shift_fact n) D) (map (shift_change n) P.own) scope) (step ms (shift_attempt n P) c) ≡ map (shift_read n) (log_of (λ q. value ms q D P.own scope) (step ms P c))
  pub move : result_of (λ q. value ms q (map (shift_fact n) D) (map (shift_change n) P.own) scope) (step ms (shift_attempt n P) c) ≡ shift_move n (result_of (λ q. value ms q D P.own scope) (step ms P c))

abbrev pub StepsShift : Type 0
StepsShift = (n : ℕ → ℕ) (scope : Scope) (ms : List Rule) (D : List Fact) (P : Attempt) (c : Option Choice) → HaveNoNulls ms → StepShifts n scope ms D P c

-- ---- updates taken whole

-- The turn with its attempt's number shifted.
abbrev pub shift_turn : (scope : Operation → Scope) (ms : List Rule) (B : ℕ) → (ℕ → ℕ) → Turn (chase scope ms B) → Turn (chase scope ms B)
shift_turn scope ms B n t = record { number = t.number; attempt = t.attempt + n t.number; operation = t.operation; answers = t.answers }

-- Taken whole, the shifted turn over the shifted repository comes to the shifted state, with the same lack.
abbrev pub WholeShifts : Type 0
WholeShifts =
    (n : ℕ → ℕ) (scope : Operation → Scope) (ms : List Rule) (B : ℕ) (D : List Fact) (t : Turn (chase scope ms B)) → HaveNoNulls ms
    → at_rest scope ms B (whole (chase scope ms B) (map (shift_fact n) D) (shift_turn scope ms B n t))
    ≡ (let r = at_rest scope ms B (whole (chase scope ms B) D t) in (shift_attempt n r.0, r.1))

-- ---- the serial machine

abbrev pub shift_result : (scope : Operation → Scope) (ms : List Rule) (B : ℕ) → (ℕ → ℕ) → Result (chase scope ms B) → Result (chase scope ms B)
shift_result scope ms B n r =
    record {
      finishes = map (λ (f : Finish (chase scope ms B)). record { number = f.number; state = shift_attempt n f.state }) r.finishes;
      stop = option_map (λ (s : Stop (chase scope ms B)). record { number = s.number; state = shift_attempt n s.state; lack = s.lack }) r.stop;
      repository = map (shift_fact n) r.repository;
    }

abbrev pub SerialShifts : Type 0
SerialShifts =
    (n : ℕ → ℕ) (scope : Operation → Scope) (ms : List Rule) (B : ℕ) (D : List Fact) (ts : List (Turn (chase scope ms B))) → HaveNoNulls ms
    → serial (chase scope ms B) (map (shift_fact n) D) (map (shift_turn scope ms B n) ts) ≡ shift_result scope ms B n (serial (chase scope ms B) D ts)

-- ---- outer forms

-- The value is not a null of an update: a constant, or a null of update 0.
abbrev pub is_of_base : Datum → Bool
is_of_base (Number i) = true
is_of_base (Text w) = true
is_of_base (Unknown m) = m.update == 0

-- All nulls of the base are of update 0.
abbrev pub IsBase : List Fact → Type 0
IsBase D = list_all (λ t. list_all is_of_base t.values) D ≡ true

abbrev pub outer_repair : Repair → Repair
outer_repair r = record { mapping = r.mapping; binding = map outer_datum r.binding; atom = r.atom }

-- The question as people see it: its nulls by outer forms.
abbrev pub outer_question : Question → Question
outer_question (Positive r t cs) = Positive (outer_repair r) (outer t) (map outer cs)
outer_question (Negative m ts) = Negative m (map outer ts)

-- The result as people see it: all nulls by their outer forms.
abbrev pub outer_told : SerialResult → SerialResult
outer_told r =
    record {
      finishes = r.finishes;
      stop = option_map (λ (s : Stopped). record { number = s.number; question = outer_question s.question; lack = s.lack }) r.stop;
      repository = map outer r.repository;
    }

-- The turns with other attempts: `attempts` gives each update's.
abbrev pub by_attempts : (scope : Operation → Scope) (ms : List Rule) (B : ℕ) → (ℕ → ℕ) → List (Turn (chase scope ms B)) → List (Turn (chase scope ms B))
by_attempts scope ms B attempts ts = map (λ (t : Turn (chase scope ms B)). record { number = t.number; attempt = attempts t.number; operation = t.operation; answers = t.answers }) ts

-- Whatever the attempts, the serial machine leaves the same repository and has the same result, by outer forms, as with attempt 0
-- of every update.
pub record OuterSame (scope : Operation → Scope) (ms : List Rule) (B : ℕ) (D : List Fact) (ts : List (Turn (chase scope ms B))) (attempts : ℕ → ℕ) : Type 0 where
  pub left : map outer (serial (chase scope ms B) D (by_attempts scope ms B attempts ts)).repository ≡ map outer (serial (chase scope ms B) D (by_attempts scope ms B (λ u. 0) ts)).repository
  pub tells : outer_told (told scope ms B (serial (chase scope ms B) D (by_attempts scope ms B attempts ts))) ≡ outer_told (told scope ms B (serial (chase scope ms B) D (by_attempts scope ms B (λ u. 0) ts)))

abbrev pub AttemptsAreOuter : Type 0
AttemptsAreOuter =
    (scope : Operation → Scope) (ms : List Rule) (B : ℕ) (D : List Fact) (ts : List (Turn (chase scope ms B))) (attempts : ℕ → ℕ) → HaveNoNulls ms → attempts 0 ≡ 0 → IsBase D
    → OuterSame scope ms B D ts attempts
