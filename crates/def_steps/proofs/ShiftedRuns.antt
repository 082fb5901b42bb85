-- A shift of attempt numbers goes through updates taken whole and the serial machine, which tells the same by outer forms.
use Rattle.std.specs.Prelude.{◌==◌, nat_lt, slice_get, is_some, if◌then◌else◌}
use Rattle.std.proofs.Common.{◌≡◌, ℕ, zero, suc, ◌+◌, ap, refl, sym, ◌∙◌, subst, List, [], ◌∷◌, ◌++◌, map, Bool, true, false, not, ◌||◌, Option, Some, None, arith}
use Rattle.std.specs.Option.{option_map, option_and_then}
use Rattle.std.specs.List.{list_all, flat_map}
use Rattle.std.proofs.lemmas.Bool.{and_parts, eqb-true}
use Rattle.def_machine.specs.Trees.{result_of}
use Rattle.def_machine.specs.Updates.{hides, shown}
use Rattle.def_machine.specs.Standings.{Lack, lack, lack_for, unless_fits, next_answer, Misfit}
use Rattle.def_machine.specs.Steps.{next_move, next_state}
use Rattle.def_machine.specs.Serial.{Rest, Ends, Stops, go_on, run, Turn, Finish, Stop, Result, with_finish, after_turn, whole, serial}
use Rattle.def_chase.specs.Values.{Datum, Number, Text, Unknown, Fact, outer_datum, outer}
use Rattle.def_chase.specs.Repository.{apply}
use Rattle.def_chase.specs.Mappings.{Rule, force_relation}
use Rattle.def_chase.specs.Violations.{Scope}
use Rattle.def_chase.specs.Queries.{value}
use Rattle.def_chase.specs.Updates.{Operation, Choice}
use Rattle.def_chase.specs.Laws.{HaveNoNulls}
use Rattle.def_chase.specs.Shifts.{shift, shift_fact, shift_change}
use Rattle.def_chase.proofs.Bools.{none_some, some_same}
use Rattle.def_chase.proofs.Maps.{map_join, filter_map}
use Rattle.def_chase.proofs.Shifted.{apply_shifts, outer_shift, outer_fact_shifts}
use Rattle.def_steps.specs.Attempts.{Outcome, Spent, Question, Positive, Negative, Phase, Start, Look, Generate, Asked, Ended, Attempt, begun, question_in, outcome_in}
use Rattle.def_steps.specs.Steps.{Move, step, moved}
use Rattle.def_steps.specs.Chase.{ending, chase}
use Rattle.def_steps.specs.Serial.{Stopped, answered, at_rest, finished_so, finished, stopped, told}
use Rattle.def_steps.specs.Shifting.{shift_question, shift_phase, shift_attempt, shift_move, shift_turn, WholeShifts, shift_result, SerialShifts, is_of_base, IsBase, outer_question, outer_told, by_attempts, AttemptsAreOuter}
use Rattle.def_steps.proofs.ShiftedWords.{fits_shifts}
use Rattle.def_steps.proofs.ShiftedSteps.{steps_shift}

module _ (n : ℕ → ℕ) where
  pub outcome_shifts : (p : Phase) → outcome_in (shift_phase n p) ≡ outcome_in p
  outcome_shifts Start = refl
  outcome_shifts Look = refl
  outcome_shifts (Generate r) = refl
  outcome_shifts (Asked q) = refl
  outcome_shifts (Ended o) = refl

  pub question_shifts : (p : Phase) → question_in (shift_phase n p) ≡ option_map (shift_question n) (question_in p)
  question_shifts Start = refl
  question_shifts Look = refl
  question_shifts (Generate r) = refl
  question_shifts (Asked q) = refl
  question_shifts (Ended o) = refl

  asks_shifts : (p : Phase) → is_some (question_in (shift_phase n p)) ≡ is_some (question_in p)
  asks_shifts Start = refl
  asks_shifts Look = refl
  asks_shifts (Generate r) = refl
  asks_shifts (Asked q) = refl
  asks_shifts (Ended o) = refl

  if_shifts : (b : Bool) (p : Phase) → (if b then shift_phase n p else Ended Spent) ≡ shift_phase n (if b then p else Ended Spent)
  if_shifts true p = refl
  if_shifts false p = refl

  moved_shifts : (B : ℕ) (P : Attempt) (m : Move) → moved B (shift_attempt n P) (shift_move n m) ≡ shift_attempt n (moved B P m)
  moved_shifts B P m =
      λ i. record {
        number = P.number;
        attempt = P.attempt + n P.number;
        operation = P.operation;
        phase = (ap (λ o. if is_some o || nat_lt (suc P.steps) B then shift_phase n m.phase else Ended Spent) (outcome_shifts m.phase) ∙ if_shifts (is_some (outcome_in m.phase) || nat_lt (suc P.steps) B) m.phase) i;
        own = sym (map_join (shift_change n) P.own m.writes) i;
        steps = suc P.steps;
        nulls = P.nulls + m.drawn;
        taken = if asks_shifts P.phase i then suc P.taken else P.taken;
      }

  module _ (scope : Operation → Scope) (ms : List Rule) (plain : HaveNoNulls ms) (B : ℕ) where
    lack_shifts : (answers : List Choice) (P : Attempt) → lack (chase scope ms B) answers (shift_attempt n P) ≡ lack (chase scope ms B) answers P
    lack_shifts answers P = by P.phase
      where
        at : (q : Question) (o : Option Choice) → unless_fits (chase scope ms B) (shift_question n q) o ≡ unless_fits (chase scope ms B) q o
        at q None = refl
        at q (Some c) = ap (λ b. if b then None else Some Misfit) (fits_shifts n q c)

        by : (p : Phase) → lack_for (chase scope ms B) answers (shift_attempt n P) (question_in (shift_phase n p)) ≡ lack_for (chase scope ms B) answers P (question_in p)
        by Start = refl
        by Look = refl
        by (Generate r) = refl
        by (Asked q) = at q (slice_get answers P.taken)
        by (Ended o) = refl

    next_shifts : (op : Operation) (D : List Fact) (answers : List Choice) (P : Attempt) → next_state (chase scope ms B) op (map (shift_fact n) D) answers (shift_attempt n P) ≡ shift_attempt n (next_state (chase scope ms B) op D answers P)
    next_shifts op D answers P =
        let c : Option Choice = next_answer (chase scope ms B) answers P in
        ap (λ b. moved B (shift_attempt n P) (result_of (λ q. value ms q (map (shift_fact n) D) (map (shift_change n) P.own) (scope op)) (step ms (shift_attempt n P) (if b then slice_get answers P.taken else None)))) (asks_shifts P.phase)
        ∙ ap (moved B (shift_attempt n P)) (steps_shift n (scope op) ms D P c plain).move
        ∙ moved_shifts B P (next_move (chase scope ms B) op D answers P)

    abbrev shift_rest : Attempt × Option Lack → Attempt × Option Lack
    shift_rest r = (shift_attempt n r.0, r.1)

    abbrev Rested : Rest (chase scope ms B) → Rest (chase scope ms B) → Type 0
    Rested r q = at_rest scope ms B r ≡ shift_rest (at_rest scope ms B q)

    if_rested : (b c : Bool) → c ≡ b → (x x' y y' : Rest (chase scope ms B)) → Rested x y → Rested x' y' → Rested (if c then x else x') (if b then y else y')
    if_rested b c e x x' y y' f g = subst (λ d. Rested (if d then x else x') (if b then y else y')) (sym e) (by b)
      where
        by : (b : Bool) → Rested (if b then x else x') (if b then y else y')
        by true = f
        by false = g

    gone_shifts : (op : Operation) (D : List Fact) (answers : List Choice) (k : ℕ) (P : Attempt)
        → Rested (run (chase scope ms B) op (map (shift_fact n) D) answers k (shift_attempt n (next_state (chase scope ms B) op D answers P))) (run (chase scope ms B) op D answers k (next_state (chase scope ms B) op D answers P))
        → (o : Option Lack)
        → Rested (go_on (chase scope ms B) (run (chase scope ms B) op (map (shift_fact n) D) answers k) (shift_attempt n P) (shift_attempt n (next_state (chase scope ms B) op D answers P)) o)
        (go_on (chase scope ms B) (run (chase scope ms B) op D answers k) P (next_state (chase scope ms B) op D answers P) o)
    gone_shifts op D answers k P rec None = rec
    gone_shifts op D answers k P rec (Some l) = refl

    run_shifts : (op : Operation) (D : List Fact) (answers : List Choice) (k : ℕ) (P : Attempt) → Rested (run (chase scope ms B) op (map (shift_fact n) D) answers k (shift_attempt n P)) (run (chase scope ms B) op D answers k P)
    run_shifts op D answers zero P = refl
    run_shifts op D answers (suc k) P =
        if_rested (is_some (option_map ending (outcome_in P.phase))) (is_some (option_map ending (outcome_in (shift_phase n P.phase)))) (ap (λ o. is_some (option_map ending o)) (outcome_shifts P.phase))
        (Ends (shift_attempt n P)) _ (Ends P) _ refl
        ((λ i. at_rest scope ms B (go_on (chase scope ms B) (run (chase scope ms B) op (map (shift_fact n) D) answers k) (shift_attempt n P) (next_shifts op D answers P i) (lack_shifts answers P i)))
        ∙ gone_shifts op D answers k P (run_shifts op D answers k (next_state (chase scope ms B) op D answers P)) (lack (chase scope ms B) answers P))

    -- ---- the serial machine

    shown_shifts : (P : Attempt) → shown (chase scope ms B) (shift_attempt n P) ≡ map (shift_change n) (shown (chase scope ms B) P)
    shown_shifts P = ap (λ o. if hides (option_map ending o) then [] else map (shift_change n) P.own) (outcome_shifts P.phase) ∙ by (hides (option_map ending (outcome_in P.phase)))
      where
        by : (b : Bool) → (if b then [] else map (shift_change n) P.own) ≡ map (shift_change n) (if b then [] else P.own)
        by true = refl
        by false = refl

    left_shifts : (D : List Fact) (P : Attempt) → apply (map (shift_fact n) D) (shown (chase scope ms B) (shift_attempt n P)) ≡ map (shift_fact n) (apply D (shown (chase scope ms B) P))
    left_shifts D P = ap (apply (map (shift_fact n) D)) (shown_shifts P) ∙ apply_shifts n D (shown (chase scope ms B) P)

    abbrev at_rest_is : Attempt → Option Lack → Attempt × Option Lack
    at_rest_is P l = (P, l)

    state_of : (P Q : Attempt) (l m : Option Lack) → at_rest_is P l ≡ at_rest_is Q m → P ≡ Q
    state_of P Q l m e = ap (λ (x : Attempt × Option Lack). x.0) e

    lack_of : (P Q : Attempt) (l m : Option Lack) → at_rest_is P l ≡ at_rest_is Q m → l ≡ m
    lack_of P Q l m e = ap (λ (x : Attempt × Option Lack). x.1) e

    turn_shifts : (u : ℕ) (D : List Fact) (ts ss : List (Turn (chase scope ms B))) → ((E : List Fact) → serial (chase scope ms B) (map (shift_fact n) E) ts ≡ shift_result scope ms B n (serial (chase scope ms B) E ss))
        → (x y : Rest (chase scope ms B)) → Rested x y
        → after_turn (chase scope ms B) (λ E. serial (chase scope ms B) E ts) u (map (shift_fact n) D) x ≡ shift_result scope ms B n (after_turn (chase scope ms B) (λ E. serial (chase scope ms B) E ss) u D y)
    turn_shifts u D ts ss rec (Ends P) (Ends Q) e =
        let same : P ≡ shift_attempt n Q = state_of P (shift_attempt n Q) None None e in
        ap (λ S. with_finish (chase scope ms B) u S (serial (chase scope ms B) (apply (map (shift_fact n) D) (shown (chase scope ms B) S)) ts)) same
        ∙ ap (λ E. with_finish (chase scope ms B) u (shift_attempt n Q) (serial (chase scope ms B) E ts)) (left_shifts D Q)
        ∙ ap (with_finish (chase scope ms B) u (shift_attempt n Q)) (rec (apply D (shown (chase scope ms B) Q)))
    turn_shifts u D ts ss rec (Stops P l) (Stops Q m) e =
        let same : P ≡ shift_attempt n Q = state_of P (shift_attempt n Q) (Some l) (Some m) e in
        let one : l ≡ m = some_same l m (lack_of P (shift_attempt n Q) (Some l) (Some m) e) in
        λ i. record { finishes = []; stop = Some (record { number = u; state = same i; lack = one i }); repository = map (shift_fact n) D }
    turn_shifts u D ts ss rec (Ends P) (Stops Q m) e = absurd (none_some m (lack_of P (shift_attempt n Q) None (Some m) e))
    turn_shifts u D ts ss rec (Stops P l) (Ends Q) e = absurd (none_some l (sym (lack_of P (shift_attempt n Q) (Some l) None e)))

    pub serial_shifts_at : (ts : List (Turn (chase scope ms B))) (D : List Fact) → serial (chase scope ms B) (map (shift_fact n) D) (map (shift_turn scope ms B n) ts) ≡ shift_result scope ms B n (serial (chase scope ms B) D ts)
    serial_shifts_at [] D = refl
    serial_shifts_at (t ∷ ts) D =
        turn_shifts t.number D (map (shift_turn scope ms B n) ts) ts (λ E. serial_shifts_at ts E)
        (whole (chase scope ms B) (map (shift_fact n) D) (shift_turn scope ms B n t)) (whole (chase scope ms B) D t)
        (run_shifts t.operation D t.answers B (begun t.number t.attempt t.operation))

    -- ---- what is told

    outer_datums : (ds : List Datum) → map outer_datum (map (shift n) ds) ≡ map outer_datum ds
    outer_datums [] = refl
    outer_datums (d ∷ ds) = λ i. outer_shift n d i ∷ outer_datums ds i

    outer_tuples : (ts : List Fact) → map outer (map (shift_fact n) ts) ≡ map outer ts
    outer_tuples [] = refl
    outer_tuples (t ∷ ts) = λ i. outer_fact_shifts n t i ∷ outer_tuples ts i

    outer_questions : (q : Question) → outer_question (shift_question n q) ≡ outer_question q
    outer_questions (Positive r t cs) = λ i. Positive record { mapping = r.mapping; binding = outer_datums r.binding i; atom = r.atom } (outer_fact_shifts n t i) (outer_tuples cs i)
    outer_questions (Negative m ts) = ap (Negative m) (outer_tuples ts)

    answered_shifts : (D : List Fact) → answered (map (shift_fact n) D) ≡ map (shift_fact n) (answered D)
    answered_shifts D = filter_map (shift_fact n) (λ t. not (t.relation == force_relation)) (λ t. not (t.relation == force_relation)) (λ t. refl) D

    finished_shifts : (u : ℕ) (P : Attempt) → finished u (shift_attempt n P) ≡ finished u P
    finished_shifts u P = ap (finished_so u (shift_attempt n P)) (outcome_shifts P.phase) ∙ by (outcome_in P.phase)
      where
        by : (o : Option Outcome) → finished_so u (shift_attempt n P) o ≡ finished_so u P o
        by None = refl
        by (Some o) = refl

    finishes_shift : (fs : List (Finish (chase scope ms B))) → flat_map (λ (f : Finish (chase scope ms B)). finished f.number f.state) (map (λ (f : Finish (chase scope ms B)). record { number = f.number; state = shift_attempt n f.state }) fs) ≡ flat_map (λ (f : Finish (chase scope ms B)). finished f.number f.state) fs
    finishes_shift [] = refl
    finishes_shift (f ∷ fs) = λ i. finished_shifts f.number f.state i ++ finishes_shift fs i

    abbrev outer_stop : Option Stopped → Option Stopped
    outer_stop o = option_map (λ (s : Stopped). record { number = s.number; question = outer_question s.question; lack = s.lack }) o

    stopped_shifts : (u : ℕ) (P : Attempt) (l : Lack) → outer_stop (stopped u (shift_attempt n P) l) ≡ outer_stop (stopped u P l)
    stopped_shifts u P l = ap (λ o. outer_stop (option_map (λ q. record { number = u; question = q; lack = l }) o)) (question_shifts P.phase) ∙ by (question_in P.phase)
      where
        by : (o : Option Question) → outer_stop (option_map (λ q. record { number = u; question = q; lack = l }) (option_map (shift_question n) o)) ≡ outer_stop (option_map (λ q. record { number = u; question = q; lack = l }) o)
        by None = refl
        by (Some q) = λ i. Some (record { number = u; question = outer_questions q i; lack = l })

    stop_shifts : (o : Option (Stop (chase scope ms B)))
        → outer_stop (option_and_then (λ (s : Stop (chase scope ms B)). stopped s.number s.state s.lack) (option_map (λ (s : Stop (chase scope ms B)). record { number = s.number; state = shift_attempt n s.state; lack = s.lack }) o))
        ≡ outer_stop (option_and_then (λ (s : Stop (chase scope ms B)). stopped s.number s.state s.lack) o)
    stop_shifts None = refl
    stop_shifts (Some s) = stopped_shifts s.number s.state s.lack

    pub told_shifts : (r : Result (chase scope ms B)) → outer_told (told scope ms B (shift_result scope ms B n r)) ≡ outer_told (told scope ms B r)
    told_shifts r =
        λ i. record {
          finishes = finishes_shift r.finishes i;
          stop = stop_shifts r.stop i;
          repository = (ap (map outer) (answered_shifts r.repository) ∙ outer_tuples (answered r.repository)) i;
        }

pub whole_shifts : WholeShifts
whole_shifts n scope ms B D t plain = run_shifts n scope ms plain B t.operation D t.answers B (begun t.number t.attempt t.operation)

pub serial_shifts : SerialShifts
serial_shifts n scope ms B D ts plain = serial_shifts_at n scope ms plain B ts D

-- ---- a base without nulls of updates

base_value : (n : ℕ → ℕ) → n 0 ≡ 0 → (x : Datum) → is_of_base x ≡ true → shift n x ≡ x
base_value n z (Number i) e = refl
base_value n z (Text w) e = refl
base_value n z (Unknown m) e =
    let at : m.update ≡ 0 = eqb-true m.update 0 e in
    ap (λ (k : ℕ). Unknown record { update = m.update; attempt = k; place = m.place }) (let k : n m.update ≡ 0 = ap n at ∙ z in let j : m.attempt + n m.update ≡ m.attempt = omega arith in j)

base_values : (n : ℕ → ℕ) → n 0 ≡ 0 → (ds : List Datum) → list_all is_of_base ds ≡ true → map (shift n) ds ≡ ds
base_values n z [] e = refl
base_values n z (d ∷ ds) e = let p = and_parts (is_of_base d) (list_all is_of_base ds) e in λ i. base_value n z d p.0 i ∷ base_values n z ds p.1 i

base_facts : (n : ℕ → ℕ) → n 0 ≡ 0 → (D : List Fact) → IsBase D → map (shift_fact n) D ≡ D
base_facts n z [] e = refl
base_facts n z (t ∷ D) e =
    let p = and_parts (list_all is_of_base t.values) (list_all (λ t. list_all is_of_base t.values) D) e in
    λ i. record { relation = t.relation; values = base_values n z t.values p.0 i } ∷ base_facts n z D p.1 i

turns_shift : (scope : Operation → Scope) (ms : List Rule) (B : ℕ) (n : ℕ → ℕ) (ts : List (Turn (chase scope ms B))) → map (shift_turn scope ms B n) (by_attempts scope ms B (λ u. 0) ts) ≡ by_attempts scope ms B n ts
turns_shift scope ms B n [] = refl
turns_shift scope ms B n (t ∷ ts) =
    let e : 0 + n t.number ≡ n t.number = omega arith in
    λ i. record { number = t.number; attempt = e i; operation = t.operation; answers = t.answers } ∷ turns_shift scope ms B n ts i

pub attempts_are_outer : AttemptsAreOuter
attempts_are_outer scope ms B D ts attempts plain z base =
    record {
      left = ap (λ (r : Result (chase scope ms B)). map outer r.repository) same ∙ outer_tuples attempts scope ms plain B (serial (chase scope ms B) D (by_attempts scope ms B (λ u. 0) ts)).repository;
      tells = ap (λ r. outer_told (told scope ms B r)) same ∙ told_shifts attempts scope ms plain B (serial (chase scope ms B) D (by_attempts scope ms B (λ u. 0) ts));
    }
  where
    same : serial (chase scope ms B) D (by_attempts scope ms B attempts ts) ≡ shift_result scope ms B attempts (serial (chase scope ms B) D (by_attempts scope ms B (λ u. 0) ts))
    same =
        (λ i. serial (chase scope ms B) (sym (base_facts attempts z D base) i) (sym (turns_shift scope ms B attempts ts) i))
        ∙ serial_shifts_at attempts scope ms plain B (by_attempts scope ms B (λ u. 0) ts) D
