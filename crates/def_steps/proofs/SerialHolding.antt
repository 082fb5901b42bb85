-- The mappings in force hold after every update of a timely session, which goes the same way in the caused scope.
use Rattle.std.specs.Prelude.{is_some}
use Rattle.std.proofs.Common.{◌≡◌, ℕ, zero, suc, ◌≤◌, ap, refl, sym, ◌∙◌, subst, List, [], ◌∷◌, ◌++◌, take, true, Option, Some, None, arith}
use Rattle.std.specs.Option.{option_map}
use Rattle.def_machine.specs.Updates.{Read, shown}
use Rattle.def_machine.specs.Standings.{Lack}
use Rattle.def_machine.specs.Runs.{Reached}
use Rattle.def_machine.specs.Rests.{IsRest}
use Rattle.def_machine.specs.Serial.{Rest, Ends, Stops, Turn, after_turn, whole, serial}
use Rattle.def_machine.proofs.Simulations.{rest_law}
use Rattle.def_chase.specs.Values.{Fact}
use Rattle.def_chase.specs.Repository.{apply}
use Rattle.def_chase.specs.Mappings.{Rule, AllHold}
use Rattle.def_chase.specs.Violations.{Scope}
use Rattle.def_chase.specs.Updates.{Operation}
use Rattle.def_chase.specs.Laws.{HaveNoNulls}
use Rattle.def_chase.proofs.Bools.{none_some, some_same}
use Rattle.def_steps.specs.Attempts.{Attempt, outcome_in}
use Rattle.def_steps.specs.Chase.{ending, chase, every, caused, whole_chase, caused_chase}
use Rattle.def_steps.specs.Serial.{Request, SerialResult, answered, at_rest, finished, stopped, told, turns_in}
use Rattle.def_steps.specs.Timely.{in_time, repairs_plainly, acts_in_time, ActInTime, IsTimely}
use Rattle.def_steps.specs.Holding.{WholeRests, Leaves, HoldAfter, HoldThroughout, SerialScopesAgree}
use Rattle.def_steps.proofs.ChaseLaws.{chase_laws}
use Rattle.def_steps.proofs.Scopes.{agree}
use Rattle.def_steps.proofs.Passing.{all_weaker}
use Rattle.def_steps.proofs.Holding.{Kept, leaves_reached, kept_reached}
use Rattle.def_steps.proofs.Timely.{in_time_later}

pub whole_rests : WholeRests
whole_rests scope ms B few = rest_law (chase scope ms B) (chase_laws scope ms B few)

module _ (ms : List Rule) (B : ℕ) (few : 1 ≤ B) where
  -- a rest of this kind is one that was reached
  reached_end : (scope : Operation → Scope) (D : List Fact) (t : Turn (chase scope ms B)) (P : Attempt) → whole (chase scope ms B) D t ≡ Ends P
      → (log : List (Read (chase scope ms B))) × (Reached (chase scope ms B) D t.answers t.number t.attempt t.operation P log) × (is_some (option_map ending (outcome_in P.phase)) ≡ true)
  reached_end scope D t P e =
      let r : IsRest (chase scope ms B) D t (Ends P) = subst (λ x. IsRest (chase scope ms B) D t x) e (whole_rests scope ms B few D t) in
      (r.0.log, r.0.reached, r.1)

  pub leaves : (D : List Fact) (t : Turn (whole_chase ms B)) (P : Attempt) → whole (whole_chase ms B) D t ≡ Ends P → Leaves ms B D t P
  leaves D t P e = let r = reached_end every D t P e in leaves_reached ms B D t P r.0 r.1

  pub kept_on : (plain : repairs_plainly ms ≡ true) (D : List Fact) (t : Turn (whole_chase ms B)) (P : Attempt) → acts_in_time ms t.number t.operation ≡ true → Kept ms t.number D
      → whole (whole_chase ms B) D t ≡ Ends P → Kept ms (suc t.number) (apply D (shown (whole_chase ms B) P))
  kept_on plain D t P acts k e = let r = reached_end every D t P e in kept_reached ms B plain D t P r.0 acts k r.1 r.2

  abbrev turn : (scope : Operation → Scope) (u : ℕ) (r : Request) → Turn (chase scope ms B)
  turn scope u r = record { number = u; attempt = 0; operation = r.operation; answers = r.answers }

  turn_holds : (u : ℕ) (D : List Fact) (r : Request) (ts : List (Turn (whole_chase ms B))) (plain : repairs_plainly ms ≡ true) → acts_in_time ms u r.operation ≡ true → Kept ms u D
      → ((E : List Fact) → Kept ms (suc u) E → AllHold ms (serial (whole_chase ms B) E ts).repository)
      → (x : Rest (whole_chase ms B)) → whole (whole_chase ms B) D (turn every u r) ≡ x → AllHold ms (after_turn (whole_chase ms B) (λ E. serial (whole_chase ms B) E ts) u D x).repository
  turn_holds u D r ts plain acts k rec (Ends P) e = rec (apply D (shown (whole_chase ms B) P)) (kept_on plain D (turn every u r) P acts k e)
  turn_holds u D r ts plain acts k rec (Stops P l) e = k.hold

  pub serial_holds : (plain : repairs_plainly ms ≡ true) (rs : List Request) (u : ℕ) (D : List Fact) → ActInTime ms u rs → Kept ms u D → AllHold ms (serial (whole_chase ms B) D (turns_in every ms B u rs)).repository
  serial_holds plain [] u D a k = k.hold
  serial_holds plain (r ∷ rs) u D a k =
      turn_holds u D r (turns_in every ms B (suc u) rs) plain a.0 k (λ E j. serial_holds plain rs (suc u) E a.1 j) (whole (whole_chase ms B) D (turn every u r)) refl

  -- ---- the caused scope

  -- what is told with one finish more
  abbrev with_one : ℕ → Attempt → SerialResult → SerialResult
  with_one u P r = record { finishes = finished u P ++ r.finishes; stop = r.stop; repository = r.repository }

  abbrev resting : Attempt → Option Lack → Attempt × Option Lack
  resting P l = (P, l)

  first_same : (P Q : Attempt) (l m : Option Lack) → resting P l ≡ resting Q m → P ≡ Q
  first_same P Q l m e = ap (λ (x : Attempt × Option Lack). x.0) e

  second_same : (P Q : Attempt) (l m : Option Lack) → resting P l ≡ resting Q m → l ≡ m
  second_same P Q l m e = ap (λ (x : Attempt × Option Lack). x.1) e

  turn_same : (u : ℕ) (D : List Fact) (r : Request) (ts : List (Turn (caused_chase ms B))) (ss : List (Turn (whole_chase ms B)))
      → (x : Rest (caused_chase ms B)) (y : Rest (whole_chase ms B)) → at_rest caused ms B x ≡ at_rest every ms B y
      → ((P : Attempt) → y ≡ Ends P → told caused ms B (serial (caused_chase ms B) (apply D (shown (caused_chase ms B) P)) ts) ≡ told every ms B (serial (whole_chase ms B) (apply D (shown (whole_chase ms B) P)) ss))
      → told caused ms B (after_turn (caused_chase ms B) (λ E. serial (caused_chase ms B) E ts) u D x) ≡ told every ms B (after_turn (whole_chase ms B) (λ E. serial (whole_chase ms B) E ss) u D y)
  turn_same u D r ts ss (Ends P) (Ends Q) e rec =
      let same : P ≡ Q = first_same P Q None None e in
      ap (λ S. with_one u S (told caused ms B (serial (caused_chase ms B) (apply D (shown (caused_chase ms B) S)) ts))) same ∙ ap (with_one u Q) (rec Q refl)
  turn_same u D r ts ss (Ends P) (Stops Q m) e rec = absurd (none_some m (second_same P Q None (Some m) e))
  turn_same u D r ts ss (Stops P l) (Ends Q) e rec = absurd (none_some l (sym (second_same P Q (Some l) None e)))
  turn_same u D r ts ss (Stops P l) (Stops Q m) e rec =
      let same : P ≡ Q = first_same P Q (Some l) (Some m) e in
      let lack : l ≡ m = some_same l m (second_same P Q (Some l) (Some m) e) in
      λ i. record { finishes = []; stop = stopped u (same i) (lack i); repository = answered D }

  pub serial_same : (nulls : HaveNoNulls ms) (plain : repairs_plainly ms ≡ true) (rs : List Request) (u : ℕ) (D : List Fact) → ActInTime ms u rs → Kept ms u D
      → told caused ms B (serial (caused_chase ms B) D (turns_in caused ms B u rs)) ≡ told every ms B (serial (whole_chase ms B) D (turns_in every ms B u rs))
  serial_same nulls plain [] u D a k = refl
  serial_same nulls plain (r ∷ rs) u D a k =
      turn_same u D r (turns_in caused ms B (suc u) rs) (turns_in every ms B (suc u) rs) (whole (caused_chase ms B) D (turn caused u r)) (whole (whole_chase ms B) D (turn every u r))
      (agree ms B D r.answers u 0 r.operation nulls k.hold).rests
      (λ P e. serial_same nulls plain rs (suc u) (apply D (shown (whole_chase ms B) P)) a.1 (kept_on plain D (turn every u r) P a.0 k e))

pub hold_after : HoldAfter
hold_after ms B D t P few e = leaves ms B few D t P e

taken_in_time : (ms : List Rule) (rs : List Request) (u k : ℕ) → ActInTime ms u rs → ActInTime ms u (take k rs)
taken_in_time ms rs u zero a = tt
taken_in_time ms [] u (suc k) a = tt
taken_in_time ms (r ∷ rs) u (suc k) a = (a.0, taken_in_time ms rs (suc u) k a.1)

first_kept : (ms : List Rule) (D : List Fact) (rs : List Request) → IsTimely ms D rs → AllHold ms D → Kept ms 1 D
first_kept ms D rs t h = record { hold = h; timely = all_weaker (in_time ms 0) (in_time ms 1) (λ s e. in_time_later ms 0 1 (omega arith) s e) D t.base }

pub hold_throughout : HoldThroughout
hold_throughout ms B D rs k few t h = serial_holds ms B few t.mappings (take k rs) 1 D (taken_in_time ms rs 1 k t.updates) (first_kept ms D rs t h)

pub serial_scopes_agree : SerialScopesAgree
serial_scopes_agree ms B D rs few nulls t h = serial_same ms B few nulls t.mappings rs 1 D t.updates (first_kept ms D rs t h)
