-- With attempt 0 of every update all nulls have attempt 0, so what is told is told by outer forms.
use Rattle.std.proofs.Common.{◌≡◌, ℕ, ◌≤◌, ap, refl, sym, subst, List, [], ◌∷◌, map, Bool, true, false, not, Option, Some, None}
use Rattle.std.specs.Prelude.{◌==◌, if◌then◌else◌}
use Rattle.std.specs.Option.{option_map, option_and_then}
use Rattle.std.specs.List.{list_all}
use Rattle.std.proofs.lemmas.Bool.{and_parts, eqb-true}
use Rattle.def_machine.specs.Updates.{Read, hides, shown}
use Rattle.def_machine.specs.Standings.{Lack}
use Rattle.def_machine.specs.Runs.{Reached}
use Rattle.def_machine.specs.Rests.{IsRest}
use Rattle.def_machine.specs.Serial.{Rest, Ends, Stops, Turn, Stop, Result, after_turn, whole, serial}
use Rattle.def_chase.specs.Values.{Datum, Number, Text, Unknown, Fact, outer_datum, outer}
use Rattle.def_chase.specs.Repository.{apply}
use Rattle.def_chase.specs.Mappings.{Rule, force_relation}
use Rattle.def_chase.specs.Specific.{is_constant}
use Rattle.def_chase.specs.Updates.{Operation, Choice}
use Rattle.def_chase.specs.Laws.{is_by, are_by, HaveNoNulls}
use Rattle.def_chase.proofs.Bools.{none_some, some_same}
use Rattle.def_steps.specs.Attempts.{Question, Positive, Negative, Phase, Start, Look, Generate, Asked, Ended, Attempt, question_in, outcome_in}
use Rattle.def_steps.specs.Chase.{ending, every, whole_chase, caused_chase}
use Rattle.def_steps.specs.Serial.{Stopped, answered, stopped}
use Rattle.def_steps.specs.Shifting.{outer_question, outer_told}
use Rattle.def_steps.proofs.Passing.{all_kept}
use Rattle.def_steps.proofs.Made.{Closed, PhasePasses}
use Rattle.def_steps.proofs.MadeRuns.{view_passes, reached_passing}
use Rattle.def_steps.proofs.SerialHolding.{whole_rests}
use Rattle.def_history.specs.AnyOrder.{first_turn, serially}
use Rattle.def_history.proofs.ValueTests.{value_tests}

-- the value is no null, or one of attempt 0
abbrev pub is_first : ℕ → Datum → Bool
is_first k d = is_by (λ u. 0) d

-- all nulls of the tuple are of attempt 0
abbrev pub are_first : ℕ → Fact → Bool
are_first k t = are_by (λ u. 0) t

-- ---- outer forms

first_datum : (d : Datum) → is_by (λ u. 0) d ≡ true → outer_datum d ≡ d
first_datum (Number i) h = refl
first_datum (Text w) h = refl
first_datum (Unknown m) h = λ i. Unknown record { update = m.update; attempt = sym (eqb-true m.attempt 0 h) i; place = m.place }

first_datums : (ds : List Datum) → list_all (is_by (λ u. 0)) ds ≡ true → map outer_datum ds ≡ ds
first_datums [] h = refl
first_datums (d ∷ ds) h = let p = and_parts (is_by (λ u. 0) d) (list_all (is_by (λ u. 0)) ds) h in λ i. first_datum d p.0 i ∷ first_datums ds p.1 i

first_fact : (t : Fact) → are_by (λ u. 0) t ≡ true → outer t ≡ t
first_fact t h = λ i. record { relation = t.relation; values = first_datums t.values h i }

first_facts : (ts : List Fact) → list_all (are_by (λ u. 0)) ts ≡ true → map outer ts ≡ ts
first_facts [] h = refl
first_facts (t ∷ ts) h = let p = and_parts (are_by (λ u. 0) t) (list_all (are_by (λ u. 0)) ts) h in λ i. first_fact t p.0 i ∷ first_facts ts p.1 i

first_question : (k : ℕ) (q : Question) → PhasePasses is_first are_first k (Asked q) → outer_question q ≡ q
first_question k (Positive r t cs) h = λ i. Positive record { mapping = r.mapping; binding = first_datums r.binding h.0 i; atom = r.atom } (first_fact t h.1 i) (first_facts cs h.2 i)
first_question k (Negative n ts) h = ap (Negative n) (first_facts ts h)

-- ---- the serial machine

constants_first : (k : ℕ) (d : Datum) → is_constant d ≡ true → is_first k d ≡ true
constants_first k (Number i) h = refl
constants_first k (Text w) h = refl
constants_first k (Unknown m) h = absurd (Rattle.std.proofs.lemmas.Bool.both_ways false refl h)

module _ (ms : List Rule) (B : ℕ) (few : 1 ≤ B) (nulls : HaveNoNulls ms) where
  tests : (op : Operation) (u : ℕ) → Closed ms op u 0 is_first are_first
  tests op u = value_tests is_first constants_first ms op u 0 nulls (λ k j d e. e) (λ k j i a b. refl)

  passing : (D : List Fact) (answers : List Choice) (u : ℕ) (op : Operation) (P : Attempt) (log : List (Read (whole_chase ms B))) → list_all (are_by (λ u. 0)) D ≡ true → Reached (whole_chase ms B) D answers u 0 op P log
      → (list_all (are_by (λ u. 0)) (apply D P.own) ≡ true) × PhasePasses is_first are_first P.nulls P.phase
  passing D answers u op P log b r =
      let s = reached_passing every ms B D answers u 0 op is_first are_first (tests op u) b r in
      (view_passes every ms B D answers u 0 op is_first are_first (tests op u) b P s, s.phase)

  -- all nulls of the result are of attempt 0
  record AreFirst (r : Result (whole_chase ms B)) : Type 0 where
    repository : list_all (are_by (λ u. 0)) r.repository ≡ true
    stop : (s : Stop (whole_chase ms B)) → r.stop ≡ Some s → PhasePasses is_first are_first s.state.nulls s.state.phase

  shown_first : (D : List Fact) (P : Attempt) (b : Bool) → list_all (are_by (λ u. 0)) D ≡ true → list_all (are_by (λ u. 0)) (apply D P.own) ≡ true → list_all (are_by (λ u. 0)) (apply D (if b then [] else P.own)) ≡ true
  shown_first D P true d e = d
  shown_first D P false d e = e

  turn_first : (D : List Fact) (t : Turn (caused_chase ms B)) (ts : List (Turn (whole_chase ms B))) → list_all (are_by (λ u. 0)) D ≡ true
      → ((E : List Fact) → list_all (are_by (λ u. 0)) E ≡ true → AreFirst (serial (whole_chase ms B) E ts))
      → (x : Rest (whole_chase ms B)) → IsRest (whole_chase ms B) D (first_turn ms B t) x → AreFirst (after_turn (whole_chase ms B) (λ E. serial (whole_chase ms B) E ts) t.number D x)
  turn_first D t ts b rec (Ends P) r =
      let f = passing D t.answers t.number t.operation P r.0.log b r.0.reached in
      let next : AreFirst (serial (whole_chase ms B) (apply D (shown (whole_chase ms B) P)) ts) = rec (apply D (shown (whole_chase ms B) P)) (shown_first D P (hides (option_map ending (outcome_in P.phase))) b f.0) in
      record { repository = next.repository; stop = next.stop }
  turn_first D t ts b rec (Stops P l) r =
      let f = passing D t.answers t.number t.operation P r.0.log b r.0.reached in
      record { repository = b; stop = λ s e. subst (λ (s : Stop (whole_chase ms B)). PhasePasses is_first are_first s.state.nulls s.state.phase) (some_same (record { number = t.number; state = P; lack = l }) s e) f.1 }

  serial_first : (ts : List (Turn (caused_chase ms B))) (D : List Fact) → list_all (are_by (λ u. 0)) D ≡ true → AreFirst (serial (whole_chase ms B) D (map (first_turn ms B) ts))
  serial_first [] D b = record { repository = b; stop = λ s e. absurd (none_some s e) }
  serial_first (t ∷ ts) D b =
      turn_first D t (map (first_turn ms B) ts) b (λ E f. serial_first ts E f) (whole (whole_chase ms B) D (first_turn ms B t)) (whole_rests every ms B few D (first_turn ms B t))

  -- ---- what is told

  abbrev outer_stop : Option Stopped → Option Stopped
  outer_stop o = option_map (λ (s : Stopped). record { number = s.number; question = outer_question s.question; lack = s.lack }) o

  question_first : (k n : ℕ) (l : Lack) (p : Phase) → PhasePasses is_first are_first k p
      → outer_stop (option_map (λ q. record { number = n; question = q; lack = l }) (question_in p)) ≡ option_map (λ q. record { number = n; question = q; lack = l }) (question_in p)
  question_first k n l Start h = refl
  question_first k n l Look h = refl
  question_first k n l (Generate r) h = refl
  question_first k n l (Asked q) h = λ i. Some (record { number = n; question = first_question k q h i; lack = l })
  question_first k n l (Ended o) h = refl

  stop_first : (o : Option (Stop (whole_chase ms B))) → ((s : Stop (whole_chase ms B)) → o ≡ Some s → PhasePasses is_first are_first s.state.nulls s.state.phase)
      → outer_stop (option_and_then (λ (s : Stop (whole_chase ms B)). stopped s.number s.state s.lack) o) ≡ option_and_then (λ (s : Stop (whole_chase ms B)). stopped s.number s.state s.lack) o
  stop_first None h = refl
  stop_first (Some s) h = question_first s.state.nulls s.number s.lack s.state.phase (h s refl)

  pub told_first : (ts : List (Turn (caused_chase ms B))) (D : List Fact) → list_all (are_by (λ u. 0)) D ≡ true → outer_told (serially ms B D ts) ≡ serially ms B D ts
  told_first ts D b =
      let f : AreFirst (serial (whole_chase ms B) D (map (first_turn ms B) ts)) = serial_first ts D b in
      λ i. record {
        finishes = (serially ms B D ts).finishes;
        stop = stop_first (serial (whole_chase ms B) D (map (first_turn ms B) ts)).stop f.stop i;
        repository = first_facts (answered (serial (whole_chase ms B) D (map (first_turn ms B) ts)).repository) (all_kept (are_by (λ u. 0)) (λ t. not (t.relation == force_relation)) (serial (whole_chase ms B) D (map (first_turn ms B) ts)).repository f.repository) i;
      }
