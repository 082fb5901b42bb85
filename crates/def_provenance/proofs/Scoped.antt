-- The steps of the serial machine are the same in the full and in the caused scope.
use Rattle.std.specs.Prelude.{is_some, if◌then◌else◌}
use Rattle.std.proofs.Common.{◌≡◌, ◌∙◌, ap, refl, sym, ℕ, zero, suc, ◌≤◌, Bool, true, false, Option, Some, None, List, [], ◌∷◌, ◌++◌, arith}
use Rattle.std.specs.Option.{option_map}
use Rattle.def_machine.specs.Updates.{Read, shown}
use Rattle.def_machine.specs.Standings.{Lack, lack, next_answer}
use Rattle.def_machine.specs.Steps.{next_state, step_log}
use Rattle.def_machine.specs.Runs.{Reached, start, more}
use Rattle.def_machine.specs.Serial.{Rest, Ends, Stops, Turn, whole}
use Rattle.def_chase.specs.Values.{Fact}
use Rattle.def_chase.specs.Repository.{apply}
use Rattle.def_chase.specs.Mappings.{Rule, AllHold}
use Rattle.def_chase.specs.Violations.{Scope}
use Rattle.def_chase.specs.Updates.{Operation, Choice}
use Rattle.def_chase.specs.Laws.{HaveNoNulls}
use Rattle.def_chase.proofs.Bools.{none_some}
use Rattle.def_steps.specs.Attempts.{Attempt, begun, outcome_in}
use Rattle.def_steps.specs.Steps.{moved}
use Rattle.def_steps.specs.Chase.{ending, chase, every, caused, whole_chase, caused_chase}
use Rattle.def_steps.specs.Serial.{Request, at_rest, turns_in}
use Rattle.def_steps.specs.Soundness.{SameStep}
use Rattle.def_steps.specs.Timely.{in_time, repairs_plainly, ActInTime}
use Rattle.def_steps.proofs.Holding.{Kept}
use Rattle.def_steps.proofs.SerialHolding.{kept_on}
use Rattle.def_steps.proofs.Scopes.{agree}
use Rattle.def_steps.proofs.Passing.{all_weaker}
use Rattle.def_steps.proofs.Timely.{in_time_later}
use Rattle.def_provenance.specs.Puts.{Step, step_by}
use Rattle.def_provenance.specs.Courses.{step_next, unless_lacking, steps_from, whole_steps, if_done, steps_after, serial_steps}
use Rattle.def_provenance.specs.Laws.{StepsAgree}

none_of : {A : Type 0} (o : Option A) → is_some o ≡ false → o ≡ None
none_of None e = refl
none_of (Some x) e = absurd (Rattle.std.proofs.lemmas.Bool.both_ways true e refl)

module _ (ms : List Rule) (B : ℕ) (D : List Fact) (answers : List Choice) (u a : ℕ) (op : Operation) (plain : HaveNoNulls ms) (held : AllHold ms D) where
  abbrev rest_steps : (scope : Operation → Scope) → ℕ → Attempt → List Step
  rest_steps scope k P = step_next scope ms B op D answers P ∷ steps_from scope ms B op D answers k (next_state (chase scope ms B) op D answers P)

  lacking : (k : ℕ) (P : Attempt) (log : List (Read (caused_chase ms B))) → Reached (caused_chase ms B) D answers u a op P log
      → ((Q : Attempt) (l : List (Read (caused_chase ms B))) → Reached (caused_chase ms B) D answers u a op Q l → steps_from caused ms B op D answers k Q ≡ steps_from every ms B op D answers k Q)
      → (caused_chase ms B).outcome P ≡ None → (o : Option Lack) → lack (caused_chase ms B) answers P ≡ o
      → unless_lacking o (rest_steps caused k P) ≡ unless_lacking o (rest_steps every k P)
  lacking k P log r rec going (Some l) e = refl
  lacking k P log r rec going None e =
      let s : SameStep ms D op P (next_answer (caused_chase ms B) answers P) = (agree ms B D answers u a op plain held).steps P log r in
      ap (λ ss. step_next caused ms B op D answers P ∷ ss) (rec (next_state (caused_chase ms B) op D answers P) (log ++ step_log (caused_chase ms B) op D answers P) (more r going e))
      ∙ ap (λ m. step_by ms D P (next_answer (caused_chase ms B) answers P) m ∷ steps_from every ms B op D answers k (moved B P m)) s.moves

  unless_ended : (b : Bool) (xs ys : List Step) → (b ≡ false → xs ≡ ys) → (if b then [] else xs) ≡ (if b then [] else ys)
  unless_ended true xs ys f = refl
  unless_ended false xs ys f = f refl

  steps_same : (k : ℕ) (P : Attempt) (log : List (Read (caused_chase ms B))) → Reached (caused_chase ms B) D answers u a op P log
      → steps_from caused ms B op D answers k P ≡ steps_from every ms B op D answers k P
  steps_same zero P log r = refl
  steps_same (suc k) P log r =
      unless_ended (is_some (option_map ending (outcome_in P.phase))) _ _
      (λ e. lacking k P log r (λ Q l q. steps_same k Q l q) (none_of _ e) (lack (caused_chase ms B) answers P) refl)

  pub whole_same : steps_from caused ms B op D answers B (begun u a op) ≡ steps_from every ms B op D answers B (begun u a op)
  whole_same = steps_same B (begun u a op) [] start

module _ (ms : List Rule) (B : ℕ) (few : 1 ≤ B) (nulls : HaveNoNulls ms) (plain : repairs_plainly ms ≡ true) where
  abbrev turn : (scope : Operation → Scope) (u : ℕ) (r : Request) → Turn (chase scope ms B)
  turn scope u r = record { number = u; attempt = 0; operation = r.operation; answers = r.answers }

  turn_same : (D : List Fact) (ss : List Step) (from to : List Fact → List Step)
      → (x : Rest (caused_chase ms B)) (y : Rest (whole_chase ms B)) → at_rest caused ms B x ≡ at_rest every ms B y
      → ((P : Attempt) → y ≡ Ends P → from (apply D (shown (caused_chase ms B) P)) ≡ to (apply D (shown (whole_chase ms B) P)))
      → steps_after caused ms B from D ss x ≡ steps_after every ms B to D ss y
  turn_same D ss from to (Ends P) (Ends Q) e rec =
      let same : P ≡ Q = ap (λ (x : Attempt × Option Lack). x.0) e in
      ap (λ S. if_done S ss ++ from (apply D (shown (caused_chase ms B) S))) same ∙ ap (λ zs. if_done Q ss ++ zs) (rec Q refl)
  turn_same D ss from to (Ends P) (Stops Q m) e rec = absurd (none_some m (ap (λ (x : Attempt × Option Lack). x.1) e))
  turn_same D ss from to (Stops P l) (Ends Q) e rec = absurd (none_some l (sym (ap (λ (x : Attempt × Option Lack). x.1) e)))
  turn_same D ss from to (Stops P l) (Stops Q m) e rec = refl

  serial_same : (rs : List Request) (u : ℕ) (D : List Fact) → ActInTime ms u rs → Kept ms u D
      → serial_steps caused ms B D (turns_in caused ms B u rs) ≡ serial_steps every ms B D (turns_in every ms B u rs)
  serial_same [] u D a k = refl
  serial_same (r ∷ rs) u D a k =
      ap (λ ss. steps_after caused ms B (λ E. serial_steps caused ms B E (turns_in caused ms B (suc u) rs)) D ss (whole (caused_chase ms B) D (turn caused u r)))
      (whole_same ms B D r.answers u 0 r.operation nulls k.hold)
      ∙ turn_same D (whole_steps every ms B D (turn every u r)) (λ E. serial_steps caused ms B E (turns_in caused ms B (suc u) rs)) (λ E. serial_steps every ms B E (turns_in every ms B (suc u) rs))
      (whole (caused_chase ms B) D (turn caused u r)) (whole (whole_chase ms B) D (turn every u r))
      (agree ms B D r.answers u 0 r.operation nulls k.hold).rests
      (λ P e. serial_same rs (suc u) (apply D (shown (whole_chase ms B) P)) a.1 (kept_on ms B few plain D (turn every u r) P a.0 k e))

pub steps_agree : StepsAgree
steps_agree ms B D rs few nulls t h =
    serial_same ms B few nulls t.mappings rs 1 D t.updates
    record { hold = h; timely = all_weaker (in_time ms 0) (in_time ms 1) (λ s e. in_time_later ms 0 1 (omega arith) s e) D t.base }
