-- Attempts in any order leave what the serial machine leaves.
use Rattle.std.proofs.Common.{◌≡◌, ℕ, suc, ◌+◌, ap, refl, sym, ◌∙◌, subst, List, [], ◌∷◌, map, take, length, Bool, true, false, not, Some, arith}
use Rattle.std.specs.Prelude.{◌==◌, if◌then◌else◌, slice_get}
use Rattle.std.proofs.lemmas.Bool.{both_ways}
use Rattle.def_machine.specs.Updates.{Update, Submission, Session, Settings}
use Rattle.def_machine.specs.Effects.{Entry}
use Rattle.def_machine.specs.Histories.{event_of}
use Rattle.def_machine.specs.Serial.{Turn, Result, serial, committed_turns, all_turns, session_turns}
use Rattle.def_machine.specs.Recorded.{IsRecorded, by_first_attempt}
use Rattle.def_machine.specs.History.{IsHistory}
use Rattle.def_machine.proofs.Recorded.{recorded_law}
use Rattle.def_machine.proofs.Theorem.{history_law}
use Rattle.def_chase.specs.Values.{Fact}
use Rattle.def_chase.specs.Mappings.{Rule, AllHold, force_relation}
use Rattle.def_steps.specs.Chase.{every, caused, whole_chase, caused_chase}
use Rattle.def_steps.specs.Serial.{Request, told}
use Rattle.def_steps.specs.Shifting.{outer_told}
use Rattle.def_steps.specs.Timely.{enacts_by, in_time, acts_in_time}
use Rattle.def_steps.proofs.ChaseLaws.{chase_laws}
use Rattle.def_steps.proofs.Holding.{Kept}
use Rattle.def_steps.proofs.Passing.{all_weaker}
use Rattle.def_history.specs.Histories.{IsLegalHistory, left}
use Rattle.def_history.specs.Admissible.{is_plain, IsAdmissible}
use Rattle.def_history.specs.AnyOrder.{first_turn, serially, IsSerial, AnyOrder}
use Rattle.def_history.proofs.Turns.{Rising, committed_rising, all_rising}
use Rattle.def_history.proofs.Whole.{whole_turn, InTime, serial_whole, serial_holds}
use Rattle.def_history.proofs.Attempts.{attempt_in, attempts_of, IsPresent, outer_turns}
use Rattle.def_history.proofs.Firsts.{told_first}

plain_in_time : (ms : List Rule) (u : ℕ) (t : Fact) → is_plain t ≡ true → in_time ms u t ≡ true
plain_in_time ms u t h = by (t.relation == force_relation) h
  where
    by : (b : Bool) → not b ≡ true → (if b then enacts_by ms u t.values else true) ≡ true
    by true e = absurd (both_ways false refl e)
    by false e = refl

module _ (ms : List Rule) (B : ℕ) (s : Settings) (S : Session (caused_chase ms B)) (H : List (Entry (caused_chase ms B))) (us : List (Update (caused_chase ms B))) (fit : IsAdmissible ms B S) (h : IsLegalHistory ms B s S H us) where
  history : IsHistory (caused_chase ms B) s S record { updates = us; entries = H }
  history = history_law (caused_chase ms B) (chase_laws caused ms B fit.some_step) s S (map event_of H) record { updates = us; entries = H } fit.in_order h

  recorded : IsRecorded (caused_chase ms B) S (map event_of H) us
  recorded = recorded_law (caused_chase ms B) s S (map event_of H) record { updates = us; entries = H } h

  -- what holds of the base below the first update
  pub base_kept : Kept ms 1 S.base
  base_kept = record { hold = fit.hold; timely = all_weaker is_plain (in_time ms 1) (plain_in_time ms 1) S.base fit.plain }

  pub acts : (k : ℕ) (u : Update (caused_chase ms B)) → slice_get us k ≡ Some u → acts_in_time ms (suc k) u.operation ≡ true
  acts k u g = let x = recorded.operations k u g in ap (acts_in_time ms (suc k)) x.2 ∙ fit.timely k x.0 x.1

  acts_at : (k m : ℕ) (u : Update (caused_chase ms B)) → m ≡ 1 + k → slice_get us k ≡ Some u → acts_in_time ms m u.operation ≡ true
  acts_at k m u e g = let n : m ≡ suc k = omega (arith, e) in ap (λ i. acts_in_time ms i u.operation) n ∙ acts k u g

  attempt_at : (k m : ℕ) (u : Update (caused_chase ms B)) → m ≡ 1 + k → slice_get us k ≡ Some u → attempts_of ms B us m ≡ u.attempt
  attempt_at k m u e g = let n : m ≡ suc k = omega (arith, e) in ap (attempts_of ms B us) n ∙ ap (attempt_in ms B) g

  abbrev Timely : List (Turn (caused_chase ms B)) → Type 0
  Timely ts = Rising (caused_chase ms B) (InTime ms B fit.some_step fit.constants fit.repairs) 1 ts

  abbrev Present : List (Turn (caused_chase ms B)) → Type 0
  Present ts = Rising (caused_chase ms B) (IsPresent ms B us) 1 ts

  -- what the serial machine tells of turns that come to this result one after the other
  tells_same : (ts : List (Turn (caused_chase ms B))) (r : Result (caused_chase ms B)) → Timely ts → Present ts → serial (caused_chase ms B) S.base ts ≡ r → serially ms B S.base ts ≡ outer_told (told caused ms B r)
  tells_same ts r t p e =
      sym (told_first ms B fit.some_step fit.constants ts S.base fit.first)
      ∙ outer_turns ms B fit.some_step fit.constants fit.repairs us 1 ts S.base t p base_kept fit.base
      ∙ ap (λ r. outer_told (told caused ms B r)) e

  committed_timely : Timely (committed_turns (caused_chase ms B) 1 us)
  committed_timely = committed_rising (caused_chase ms B) (InTime ms B fit.some_step fit.constants fit.repairs) 1 us acts_at

  committed_present : Present (committed_turns (caused_chase ms B) 1 us)
  committed_present = committed_rising (caused_chase ms B) (IsPresent ms B us) 1 us attempt_at

  all_timely : Timely (all_turns (caused_chase ms B) 1 us)
  all_timely = all_rising (caused_chase ms B) (InTime ms B fit.some_step fit.constants fit.repairs) 1 us acts_at

  all_present : Present (all_turns (caused_chase ms B) 1 us)
  all_present = all_rising (caused_chase ms B) (IsPresent ms B us) 1 us attempt_at

  holds : AllHold ms (left ms B S us)
  holds =
      subst (λ (r : Result (caused_chase ms B)). AllHold ms r.repository) history.as_serial
      (subst (λ (r : Result (whole_chase ms B)). AllHold ms r.repository) (serial_whole ms B fit.some_step fit.constants fit.repairs (committed_turns (caused_chase ms B) 1 us) 1 S.base committed_timely base_kept)
      (serial_holds ms B fit.some_step fit.constants fit.repairs (committed_turns (caused_chase ms B) 1 us) 1 S.base committed_timely base_kept))

  -- in what the serial machine leaves by attempt 0 too
  first_in_time : (n : ℕ) (ts : List (Turn (caused_chase ms B))) → Rising (caused_chase ms B) (InTime ms B fit.some_step fit.constants fit.repairs) n ts
      → Rising (caused_chase ms B) (InTime ms B fit.some_step fit.constants fit.repairs) n (map (by_first_attempt {M = caused_chase ms B}) ts)
  first_in_time n [] h = tt
  first_in_time n (t ∷ ts) h = (h.0, h.1, first_in_time (suc t.number) ts h.2)

  first_whole : (ts : List (Turn (caused_chase ms B))) → map (whole_turn ms B fit.some_step fit.constants fit.repairs) (map (by_first_attempt {M = caused_chase ms B}) ts) ≡ map (first_turn ms B) ts
  first_whole [] = refl
  first_whole (t ∷ ts) = ap (λ ss. first_turn ms B t ∷ ss) (first_whole ts)

  holds_serially : AllHold ms (serial (whole_chase ms B) S.base (map (first_turn ms B) (committed_turns (caused_chase ms B) 1 us))).repository
  holds_serially =
      subst (λ ss. AllHold ms (serial (whole_chase ms B) S.base ss).repository) (first_whole (committed_turns (caused_chase ms B) 1 us))
      (serial_holds ms B fit.some_step fit.constants fit.repairs (map (by_first_attempt {M = caused_chase ms B}) (committed_turns (caused_chase ms B) 1 us)) 1 S.base
      (first_in_time 1 (committed_turns (caused_chase ms B) 1 us) committed_timely) base_kept)

  -- ---- the whole session

  first_again : (ts : List (Turn (caused_chase ms B))) → map (first_turn ms B) ts ≡ map (first_turn ms B) (map (by_first_attempt {M = caused_chase ms B}) ts)
  first_again [] = refl
  first_again (t ∷ ts) = ap (λ ss. first_turn ms B t ∷ ss) (first_again ts)

  session_first : (n : ℕ) (xs : List (Submission (caused_chase ms B)))
      → map (first_turn ms B) (session_turns (caused_chase ms B) n xs)
      ≡ session_turns (whole_chase ms B) n (map (λ (r : Request). record { operation = r.operation; answers = r.answers }) (map (λ (x : Submission (caused_chase ms B)). record { operation = x.operation; answers = x.answers }) xs))
  session_first n [] = refl
  session_first n (x ∷ xs) = ap (λ ss. first_turn ms B (record { number = n; attempt = 0; operation = x.operation; answers = x.answers }) ∷ ss) (session_first (suc n) xs)

  taken_whole : {A : Type 0} (xs : List A) → take (length xs) xs ≡ xs
  taken_whole [] = refl
  taken_whole (x ∷ xs) = ap (λ ys. x ∷ ys) (taken_whole xs)

  pub serial_law : IsSerial ms B s S H us
  serial_law =
      record {
        committed = tells_same (committed_turns (caused_chase ms B) 1 us) _ committed_timely committed_present history.as_serial;
        hold = holds;
        hold_serially = holds_serially;
        quiet = λ q. tells_same (all_turns (caused_chase ms B) 1 us) _ all_timely all_present (history.quiet q);
        session = λ r e q.
            ap (λ ts. told every ms B (serial (whole_chase ms B) S.base ts))
            (sym (session_first 1 S.submissions)
            ∙ ap (λ xs. map (first_turn ms B) (session_turns (caused_chase ms B) 1 xs)) (sym (taken_whole S.submissions) ∙ ap (λ n. take n S.submissions) (sym e))
            ∙ ap (map (first_turn ms B)) (sym (recorded.turns r))
            ∙ sym (first_again (all_turns (caused_chase ms B) 1 us)))
            ∙ tells_same (all_turns (caused_chase ms B) 1 us) _ all_timely all_present (history.quiet q);
      }

pub any_order : AnyOrder
any_order ms B s S H us fit h = serial_law ms B s S H us fit h
