-- Turns of a timely session go the same way where the attempts look at every violation, and the mappings in force hold in what they leave.
use Rattle.std.proofs.Common.{◌≡◌, ℕ, suc, ◌≤◌, ap, refl, sym, ◌∙◌, List, [], ◌∷◌, map, true, Option, Some, None}
use Rattle.std.specs.Option.{option_map}
use Rattle.def_machine.specs.Updates.{shown}
use Rattle.def_machine.specs.Standings.{Lack}
use Rattle.def_machine.specs.Serial.{Rest, Ends, Stops, Turn, Finish, Stop, Result, with_finish, after_turn, whole, serial}
use Rattle.def_chase.specs.Values.{Fact}
use Rattle.def_chase.specs.Repository.{apply}
use Rattle.def_chase.specs.Mappings.{Rule, AllHold}
use Rattle.def_chase.specs.Laws.{HaveNoNulls}
use Rattle.def_chase.proofs.Bools.{none_some, some_same}
use Rattle.def_steps.specs.Attempts.{Attempt}
use Rattle.def_steps.specs.Chase.{every, caused, whole_chase, caused_chase}
use Rattle.def_steps.specs.Serial.{at_rest}
use Rattle.def_steps.specs.Timely.{in_time, repairs_plainly, acts_in_time}
use Rattle.def_steps.proofs.Passing.{all_weaker}
use Rattle.def_steps.proofs.Scopes.{agree}
use Rattle.def_steps.proofs.Timely.{in_time_later}
use Rattle.def_steps.proofs.Holding.{Kept}
use Rattle.def_steps.proofs.SerialHolding.{kept_on}
use Rattle.def_history.proofs.Turns.{Rising}

pub kept_until : (ms : List Rule) (u v : ℕ) (D : List Fact) → u ≤ v → Kept ms u D → Kept ms v D
kept_until ms u v D l k = record { hold = k.hold; timely = all_weaker (in_time ms u) (in_time ms v) (λ t h. in_time_later ms u v l t h) D k.timely }

module _ (ms : List Rule) (B : ℕ) (few : 1 ≤ B) (nulls : HaveNoNulls ms) (plain : repairs_plainly ms ≡ true) where
  -- the turn by the same attempt, looking at every violation
  abbrev pub whole_turn : Turn (caused_chase ms B) → Turn (whole_chase ms B)
  whole_turn t = record { number = t.number; attempt = t.attempt; operation = t.operation; answers = t.answers }

  abbrev whole_finish : Finish (caused_chase ms B) → Finish (whole_chase ms B)
  whole_finish f = record { number = f.number; state = f.state }

  abbrev whole_stop : Stop (caused_chase ms B) → Stop (whole_chase ms B)
  whole_stop s = record { number = s.number; state = s.state; lack = s.lack }

  -- the same result of the other machine
  abbrev pub whole_result : Result (caused_chase ms B) → Result (whole_chase ms B)
  whole_result r = record { finishes = map whole_finish r.finishes; stop = option_map whole_stop r.stop; repository = r.repository }

  abbrev pub InTime : Turn (caused_chase ms B) → Type 0
  InTime t = acts_in_time ms t.number t.operation ≡ true

  abbrev resting : Attempt → Option Lack → Attempt × Option Lack
  resting P l = (P, l)

  first_same : (P Q : Attempt) (l m : Option Lack) → resting P l ≡ resting Q m → P ≡ Q
  first_same P Q l m e = ap (λ (x : Attempt × Option Lack). x.0) e

  second_same : (P Q : Attempt) (l m : Option Lack) → resting P l ≡ resting Q m → l ≡ m
  second_same P Q l m e = ap (λ (x : Attempt × Option Lack). x.1) e

  turn_same : (u : ℕ) (D : List Fact) (ts : List (Turn (caused_chase ms B))) (ss : List (Turn (whole_chase ms B)))
      → (x : Rest (caused_chase ms B)) (y : Rest (whole_chase ms B)) → at_rest caused ms B x ≡ at_rest every ms B y
      → ((P : Attempt) → y ≡ Ends P → serial (whole_chase ms B) (apply D (shown (whole_chase ms B) P)) ss ≡ whole_result (serial (caused_chase ms B) (apply D (shown (caused_chase ms B) P)) ts))
      → after_turn (whole_chase ms B) (λ E. serial (whole_chase ms B) E ss) u D y ≡ whole_result (after_turn (caused_chase ms B) (λ E. serial (caused_chase ms B) E ts) u D x)
  turn_same u D ts ss (Ends P) (Ends Q) e rec =
      let same : P ≡ Q = first_same P Q None None e in
      ap (with_finish (whole_chase ms B) u Q) (rec Q refl)
      ∙ ap (λ S. whole_result (with_finish (caused_chase ms B) u S (serial (caused_chase ms B) (apply D (shown (caused_chase ms B) S)) ts))) (sym same)
  turn_same u D ts ss (Ends P) (Stops Q m) e rec = absurd (none_some m (second_same P Q None (Some m) e))
  turn_same u D ts ss (Stops P l) (Ends Q) e rec = absurd (none_some l (sym (second_same P Q (Some l) None e)))
  turn_same u D ts ss (Stops P l) (Stops Q m) e rec =
      let same : P ≡ Q = first_same P Q (Some l) (Some m) e in
      let lack : l ≡ m = some_same l m (second_same P Q (Some l) (Some m) e) in
      λ i. record { finishes = []; stop = Some (record { number = u; state = sym same i; lack = sym lack i }); repository = D }

  pub serial_whole : (ts : List (Turn (caused_chase ms B))) (u : ℕ) (D : List Fact) → Rising (caused_chase ms B) InTime u ts → Kept ms u D
      → serial (whole_chase ms B) D (map whole_turn ts) ≡ whole_result (serial (caused_chase ms B) D ts)
  serial_whole [] u D a k = refl
  serial_whole (t ∷ ts) u D a k =
      let here : Kept ms t.number D = kept_until ms u t.number D a.0 k in
      turn_same t.number D ts (map whole_turn ts) (whole (caused_chase ms B) D t) (whole (whole_chase ms B) D (whole_turn t))
      (agree ms B D t.answers t.number t.attempt t.operation nulls here.hold).rests
      (λ P e. serial_whole ts (suc t.number) (apply D (shown (whole_chase ms B) P)) a.2 (kept_on ms B few plain D (whole_turn t) P a.1 here e))

  turn_holds : (D : List Fact) (t : Turn (whole_chase ms B)) (ts : List (Turn (whole_chase ms B))) → acts_in_time ms t.number t.operation ≡ true → Kept ms t.number D
      → ((E : List Fact) → Kept ms (suc t.number) E → AllHold ms (serial (whole_chase ms B) E ts).repository)
      → (x : Rest (whole_chase ms B)) → whole (whole_chase ms B) D t ≡ x → AllHold ms (after_turn (whole_chase ms B) (λ E. serial (whole_chase ms B) E ts) t.number D x).repository
  turn_holds D t ts acts k rec (Ends P) e = rec (apply D (shown (whole_chase ms B) P)) (kept_on ms B few plain D t P acts k e)
  turn_holds D t ts acts k rec (Stops P l) e = k.hold

  -- every mapping in force holds in what the turns leave
  pub serial_holds : (ts : List (Turn (caused_chase ms B))) (u : ℕ) (D : List Fact) → Rising (caused_chase ms B) InTime u ts → Kept ms u D → AllHold ms (serial (whole_chase ms B) D (map whole_turn ts)).repository
  serial_holds [] u D a k = k.hold
  serial_holds (t ∷ ts) u D a k =
      turn_holds D (whole_turn t) (map whole_turn ts) a.1 (kept_until ms u t.number D a.0 k) (λ E j. serial_holds ts (suc t.number) E a.2 j) (whole (whole_chase ms B) D (whole_turn t)) refl
