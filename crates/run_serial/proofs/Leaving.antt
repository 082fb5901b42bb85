-- What a run leaves, turn by turn, and that it is what the serial machine leaves, where every violation counts.
use Rattle.std.proofs.Common.{◌≡◌, ◌∙◌, ap, refl, sym, ℕ, suc, ◌+◌, ◌≤◌, Option, Some, None, List, [], ◌∷◌, ◌++◌, true, append_assoc, add-one, arith}
use Rattle.std.specs.Option.{option_map}
use Rattle.std.proofs.lemmas.List.{append-nil}
use Rattle.def_machine.specs.Standings.{Lack}
use Rattle.def_machine.specs.Updates.{shown}
use Rattle.def_machine.specs.Serial.{Rest, Ends, Stops, Turn, after_turn, whole, serial}
use Rattle.def_chase.specs.Laws.{HaveNoNulls}
use Rattle.def_chase.specs.Mappings.{Rule, AllHold}
use Rattle.def_chase.specs.Repository.{Change, apply}
use Rattle.def_chase.specs.Values.{Fact}
use Rattle.def_chase.proofs.Bools.{none_some, some_same}
use Rattle.def_steps.specs.Attempts.{Attempt}
use Rattle.def_steps.specs.Chase.{every, caused, whole_chase, caused_chase}
use Rattle.def_steps.specs.Serial.{Request, stopped, at_rest, turns_in}
use Rattle.def_steps.specs.Timely.{in_time, repairs_plainly, ActInTime, IsTimely}
use Rattle.def_steps.proofs.Holding.{Kept}
use Rattle.def_steps.proofs.Passing.{all_weaker}
use Rattle.def_steps.proofs.Scopes.{agree}
use Rattle.def_steps.proofs.SerialHolding.{kept_on}
use Rattle.def_steps.proofs.Timely.{in_time_later}
use Rattle.def_language.specs.Checks.{rules_of}
use Rattle.def_language.specs.Sessions.{SessionData}
use Rattle.def_language.specs.Validity.{IsSession}
use Rattle.lang_session.specs.Base.{base_violation}
use Rattle.lang_session.specs.Laws.{SuitTheChase, BaseHolds}
use Rattle.lang_session.specs.Meanings.{requests_in}
use Rattle.chase_update.specs.Results.{StopTold, stop_in}
use Rattle.run_serial.specs.Rests.{turn_of, whole_rest}
use Rattle.run_serial.specs.Trails.{TrailsTold, trailed, trailed_from, serial_trailed, after}
use Rattle.run_serial.proofs.Onward.{ends_there, stops_there}

-- Where the update ends, the run goes on over what it shows.
pub goes_on : (ms : List Rule) (B : ℕ) (D E : List Fact) (n : ℕ) (r : Request) (rs : List Request) (P : Attempt) (ts us : List (List Change))
    → whole_rest ms B D (turn_of ms B n r) ≡ (P, None) → us ≡ ts ++ shown (caused_chase ms B) P ∷ [] → E ≡ apply D (shown (caused_chase ms B) P)
    → after ts (trailed_from ms B D n (r ∷ rs)) ≡ after us (trailed_from ms B E (n + 1) rs)
unfolding trailed_from
goes_on ms B D E n r rs P ts us w f k =
    ap (λ (x : Rest (caused_chase ms B)). after ts (trailed caused ms B (after_turn (caused_chase ms B) (λ F. serial (caused_chase ms B) F (turns_in caused ms B (suc n) rs)) n D x)))
    (ends_there ms B _ P w)
    ∙ (ap (λ (vs : List (List Change)). record { trails = vs; stop = (trailed_from ms B (apply D (shown (caused_chase ms B) P)) (suc n) rs).stop })
    (sym (append_assoc ts (shown (caused_chase ms B) P ∷ []) (trailed_from ms B (apply D (shown (caused_chase ms B) P)) (suc n) rs).trails))
    ∙ (ap (λ (vs : List (List Change)). after vs (trailed_from ms B (apply D (shown (caused_chase ms B) P)) (suc n) rs)) (sym f)
    ∙ (ap (λ (F : List Fact). after us (trailed_from ms B F (suc n) rs)) (sym k)
    ∙ ap (λ m. after us (trailed_from ms B E m rs)) (sym (add-one n)))))

-- Where the update stops, the run is over.
pub stops_here : (ms : List Rule) (B : ℕ) (D : List Fact) (n : ℕ) (r : Request) (rs : List Request) (P : Attempt) (l : Lack) (s : StopTold)
    → whole_rest ms B D (turn_of ms B n r) ≡ (P, Some l) → option_map stop_in (stopped n P l) ≡ Some s
    → trailed_from ms B D n (r ∷ rs) ≡ record { trails = []; stop = Some s }
unfolding trailed_from
stops_here ms B D n r rs P l s w e =
    ap (λ (x : Rest (caused_chase ms B)). trailed caused ms B (after_turn (caused_chase ms B) (λ F. serial (caused_chase ms B) F (turns_in caused ms B (suc n) rs)) n D x))
    (stops_there ms B _ P l w)
    ∙ ap (λ (o : Option StopTold). record { trails = []; stop = o }) e

-- Where no updates are left, the run is over.
pub ends_here : (ms : List Rule) (B : ℕ) (D : List Fact) (n : ℕ) (ts : List (List Change)) → after ts (trailed_from ms B D n []) ≡ record { trails = ts; stop = None }
unfolding trailed_from
ends_here ms B D n ts = ap (λ (vs : List (List Change)). record { trails = vs; stop = None }) (append-nil ts)

-- ---- every violation

module _ (ms : List Rule) (B : ℕ) (few : 1 ≤ B) where
  abbrev with_one : List Change → TrailsTold → TrailsTold
  with_one t r = after (t ∷ []) r

  abbrev resting : Attempt → Option Lack → Attempt × Option Lack
  resting P l = (P, l)

  first_same : (P Q : Attempt) (l m : Option Lack) → resting P l ≡ resting Q m → P ≡ Q
  first_same P Q l m e = ap (λ (x : Attempt × Option Lack). x.0) e

  second_same : (P Q : Attempt) (l m : Option Lack) → resting P l ≡ resting Q m → l ≡ m
  second_same P Q l m e = ap (λ (x : Attempt × Option Lack). x.1) e

  turn_same : (u : ℕ) (D : List Fact) (ts : List (Turn (caused_chase ms B))) (ss : List (Turn (whole_chase ms B)))
      → (x : Rest (caused_chase ms B)) (y : Rest (whole_chase ms B)) → at_rest caused ms B x ≡ at_rest every ms B y
      → ((P : Attempt) → y ≡ Ends P → trailed caused ms B (serial (caused_chase ms B) (apply D (shown (caused_chase ms B) P)) ts) ≡ trailed every ms B (serial (whole_chase ms B) (apply D (shown (whole_chase ms B) P)) ss))
      → trailed caused ms B (after_turn (caused_chase ms B) (λ E. serial (caused_chase ms B) E ts) u D x) ≡ trailed every ms B (after_turn (whole_chase ms B) (λ E. serial (whole_chase ms B) E ss) u D y)
  turn_same u D ts ss (Ends P) (Ends Q) e rec =
      let same : P ≡ Q = first_same P Q None None e in
      ap (λ S. with_one (shown (caused_chase ms B) S) (trailed caused ms B (serial (caused_chase ms B) (apply D (shown (caused_chase ms B) S)) ts))) same ∙ ap (with_one (shown (whole_chase ms B) Q)) (rec Q refl)
  turn_same u D ts ss (Ends P) (Stops Q m) e rec = absurd (none_some m (second_same P Q None (Some m) e))
  turn_same u D ts ss (Stops P l) (Ends Q) e rec = absurd (none_some l (sym (second_same P Q (Some l) None e)))
  turn_same u D ts ss (Stops P l) (Stops Q m) e rec =
      let same : P ≡ Q = first_same P Q (Some l) (Some m) e in
      let lack : l ≡ m = some_same l m (second_same P Q (Some l) (Some m) e) in
      λ i. record { trails = []; stop = option_map stop_in (stopped u (same i) (lack i)) }

  serial_same : (nulls : HaveNoNulls ms) (plain : repairs_plainly ms ≡ true) (rs : List Request) (u : ℕ) (D : List Fact) → ActInTime ms u rs → Kept ms u D
      → trailed caused ms B (serial (caused_chase ms B) D (turns_in caused ms B u rs)) ≡ trailed every ms B (serial (whole_chase ms B) D (turns_in every ms B u rs))
  serial_same nulls plain [] u D a k = refl
  serial_same nulls plain (r ∷ rs) u D a k =
      turn_same u D (turns_in caused ms B (suc u) rs) (turns_in every ms B (suc u) rs) (whole (caused_chase ms B) D (turn_of ms B u r)) (whole (whole_chase ms B) D _)
      (agree ms B D r.answers u 0 r.operation nulls k.hold).rests
      (λ P e. serial_same nulls plain rs (suc u) (apply D (shown (whole_chase ms B) P)) a.1 (kept_on ms B few plain D _ P a.0 k e))

first_kept : (ms : List Rule) (D : List Fact) (rs : List Request) → IsTimely ms D rs → AllHold ms D → Kept ms 1 D
first_kept ms D rs t h = record { hold = h; timely = all_weaker (in_time ms 0) (in_time ms 1) (λ s e. in_time_later ms 0 1 (omega arith) s e) D t.base }

-- Of a valid session whose base violates no mapping the same is left where every violation counts.
pub trailed_whole : (s : SessionData) (B : ℕ) → SuitTheChase → BaseHolds → IsSession s → base_violation s ≡ None → 1 ≤ B
    → trailed_from (rules_of s.mappings) B s.base 1 (requests_in s) ≡ serial_trailed (rules_of s.mappings) B s.base (requests_in s)
unfolding trailed_from
trailed_whole s B suit hold v met some =
    let t = suit.timely s v in
    serial_same (rules_of s.mappings) B some (suit.no_nulls s v) t.mappings (requests_in s) 1 s.base t.updates (first_kept (rules_of s.mappings) s.base (requests_in s) t (hold s v met))
