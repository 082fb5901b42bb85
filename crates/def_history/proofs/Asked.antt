-- After every history the question of a paused update is asked about its present view.
use Rattle.std.proofs.Common.{◌≡◌, ℕ, suc, ◌≤◌, ap, refl, sym, ◌∙◌, subst, List, [], Bool, true, false, length, Some, None, arith, map}
use Rattle.std.specs.Prelude.{if◌then◌else◌, slice_get}
use Rattle.std.specs.List.{list_all}
use Rattle.def_machine.specs.Updates.{Update, Session, Settings, hides, shown, trail, below, view, committed}
use Rattle.def_machine.specs.Standings.{standing, is_paused, question_of}
use Rattle.def_machine.specs.Effects.{Entry}
use Rattle.def_machine.specs.Histories.{event_of}
use Rattle.def_machine.specs.History.{IsHistory}
use Rattle.def_machine.proofs.Allowed.{allowed_law}
use Rattle.def_machine.proofs.Basics.{length_from}
use Rattle.def_machine.proofs.Carried.{below_more, carried}
use Rattle.def_machine.proofs.Standing.{paused_parts}
use Rattle.def_machine.proofs.Theorem.{history_law}
use Rattle.def_chase.specs.Values.{Fact}
use Rattle.def_chase.specs.Repository.{apply}
use Rattle.def_chase.specs.Mappings.{Rule}
use Rattle.def_chase.proofs.Bools.{none_some, some_same}
use Rattle.def_steps.specs.Attempts.{Question, Phase, Start, Look, Generate, Asked, Ended, question_in}
use Rattle.def_steps.specs.Chase.{caused, caused_chase}
use Rattle.def_steps.specs.Timely.{in_time}
use Rattle.def_steps.proofs.ChaseLaws.{chase_laws}
use Rattle.def_steps.proofs.Passing.{all_weaker}
use Rattle.def_steps.proofs.Timely.{in_time_later, view_in_time}
use Rattle.def_history.specs.Histories.{IsLegalHistory}
use Rattle.def_history.specs.Admissible.{IsAdmissible}
use Rattle.def_history.specs.Asked.{IsQuestion, QuestionsAreOfViews}
use Rattle.def_history.proofs.Theorem.{base_kept, acts}
use Rattle.def_history.proofs.Asking.{reached_right}

module _ (ms : List Rule) (B : ℕ) (s : Settings) (S : Session (caused_chase ms B)) (H : List (Entry (caused_chase ms B))) (us : List (Update (caused_chase ms B))) (fit : IsAdmissible ms B S) (h : IsLegalHistory ms B s S H us) where
  history : IsHistory (caused_chase ms B) s S record { updates = us; entries = H }
  history = history_law (caused_chase ms B) (chase_laws caused ms B fit.some_step) s S (map event_of H) record { updates = us; entries = H } fit.in_order h

  later : (n : ℕ) (E : List Fact) → list_all (in_time ms n) E ≡ true → list_all (in_time ms (suc n)) E ≡ true
  later n E a = all_weaker (in_time ms n) (in_time ms (suc n)) (λ t e. in_time_later ms n (suc n) (omega arith) t e) E a

  -- what is shown is in time, whether it is all or nothing
  shown_in_time : (n : ℕ) (D : List Fact) (u : Update (caused_chase ms B)) → list_all (in_time ms n) D ≡ true → (u.withdrawn ≡ false → list_all (in_time ms n) (apply D u.state.own) ≡ true)
      → list_all (in_time ms n) (apply D (trail (caused_chase ms B) u)) ≡ true
  shown_in_time n D u a b = by u.withdrawn refl (hides ((caused_chase ms B).outcome u.state))
    where
      by : (w : Bool) → u.withdrawn ≡ w → (o : Bool) → list_all (in_time ms n) (apply D (if w then [] else (if o then [] else u.state.own))) ≡ true
      by true e o = a
      by false e true = a
      by false e false = b e

  -- what lies below an update is in time for it
  below_in_time : (k : ℕ) → k ≤ length us → list_all (in_time ms (suc k)) (below (caused_chase ms B) S.base us k) ≡ true
  below_in_time k b =
      carried (caused_chase ms B) (chase_laws caused ms B fit.some_step) (λ n E. list_all (in_time ms (suc n)) E ≡ true) S.base us k b (base_kept ms B s S H us fit h).timely
      (λ i u j g a. later (suc i) (apply (below (caused_chase ms B) S.base us i) (trail (caused_chase ms B) u))
      (shown_in_time (suc i) (below (caused_chase ms B) S.base us i) u a
      (λ w. view_in_time caused ms B (below (caused_chase ms B) S.base us i) u.answers (suc i) u.attempt u.operation fit.repairs (acts ms B s S H us fit h i u g) a (history.runs i u g w))))

  -- the view of an update that goes on is what lies below it with its own writes
  open_view : (k : ℕ) (u : Update (caused_chase ms B)) → slice_get us k ≡ Some u → u.withdrawn ≡ false → (caused_chase ms B).outcome u.state ≡ None
      → view (caused_chase ms B) S.base us k ≡ apply (below (caused_chase ms B) S.base us k) u.state.own
  open_view k u g w o =
      below_more (caused_chase ms B) (chase_laws caused ms B fit.some_step) S.base us k u g
      ∙ ap (λ b. apply (below (caused_chase ms B) S.base us k) (if b then [] else shown (caused_chase ms B) u.state)) w
      ∙ ap (λ b. apply (below (caused_chase ms B) S.base us k) (if hides b then [] else u.state.own)) o

  asked_in : (p : Phase) (q : Question) → question_in p ≡ Some q → p ≡ Asked q
  asked_in Start q e = absurd (none_some q e)
  asked_in Look q e = absurd (none_some q e)
  asked_in (Generate r) q e = absurd (none_some q e)
  asked_in (Asked x) q e = ap Asked (some_same x q e)
  asked_in (Ended o) q e = absurd (none_some q e)

  pub question_is : (k : ℕ) (u : Update (caused_chase ms B)) → slice_get us k ≡ Some u → (q : Question) → question_of (caused_chase ms B) s (committed (caused_chase ms B) us) (suc k) u ≡ Some q
      → IsQuestion ms B S us k u q
  question_is k u g q e =
      record {
        asked = by (is_paused (standing (caused_chase ms B) s (committed (caused_chase ms B) us) (suc k) u)) refl e;
        unfit = λ c f. ((allowed_law (caused_chase ms B) s S us k).0 u g).unfit q c e f;
      }
    where
      by : (b : Bool) → is_paused (standing (caused_chase ms B) s (committed (caused_chase ms B) us) (suc k) u) ≡ b → (if b then question_in u.state.phase else None) ≡ Some q
          → Rattle.def_history.specs.Asked.IsAsked ms (caused u.operation) u.state.own (view (caused_chase ms B) S.base us k) q
      by false f x = absurd (none_some q x)
      by true f x =
          let going = (paused_parts (caused_chase ms B) s (committed (caused_chase ms B) us) (suc k) u f).0 in
          subst (λ E. Rattle.def_history.specs.Asked.IsAsked ms (caused u.operation) u.state.own E q) (sym (open_view k u g going.present going.going))
          (reached_right ms B (below (caused_chase ms B) S.base us k) u.answers (suc k) u.attempt u.operation fit.repairs (acts ms B s S H us fit h k u g) (below_in_time k (length_from us k u g))
          (history.runs k u g going.present) q (asked_in u.state.phase q x))

pub questions_are_of_views : QuestionsAreOfViews
questions_are_of_views ms B s S H us fit h k u g =
    record {
      paused = ((allowed_law (caused_chase ms B) s S us k).0 u g).question;
      question = λ q e. question_is ms B s S H us fit h k u g q e;
    }
