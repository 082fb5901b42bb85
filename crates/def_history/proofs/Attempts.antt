-- By outer forms the turns of a history are those of attempt 0.
use Rattle.std.proofs.Common.{◌≡◌, ℕ, zero, suc, ◌≤◌, ap, refl, sym, ◌∙◌, List, [], ◌∷◌, ◌++◌, map, true, Option, Some, None}
use Rattle.std.specs.Prelude.{slice_get}
use Rattle.std.specs.Option.{option_map, option_and_then}
use Rattle.std.specs.List.{flat_map}
use Rattle.def_machine.specs.Updates.{Update}
use Rattle.def_machine.specs.Serial.{Turn, Finish, Stop, Result, serial}
use Rattle.def_chase.specs.Values.{Fact}
use Rattle.def_chase.specs.Mappings.{Rule}
use Rattle.def_chase.specs.Laws.{HaveNoNulls}
use Rattle.def_steps.specs.Chase.{every, caused, whole_chase, caused_chase}
use Rattle.def_steps.specs.Serial.{answered, finished, stopped, told}
use Rattle.def_steps.specs.Timely.{repairs_plainly}
use Rattle.def_steps.specs.Shifting.{IsBase, outer_told, by_attempts}
use Rattle.def_steps.proofs.Holding.{Kept}
use Rattle.def_steps.proofs.ShiftedRuns.{attempts_are_outer}
use Rattle.def_history.specs.AnyOrder.{first_turn, serially}
use Rattle.def_history.proofs.Turns.{Rising}
use Rattle.def_history.proofs.Whole.{whole_turn, whole_result, InTime, serial_whole}

module _ (ms : List Rule) (B : ℕ) where
  -- the present attempt of an update, if there is one
  abbrev pub attempt_in : Option (Update (caused_chase ms B)) → ℕ
  attempt_in None = 0
  attempt_in (Some u) = u.attempt

  -- the present attempt of each update, by its number
  abbrev pub attempts_of : List (Update (caused_chase ms B)) → ℕ → ℕ
  attempts_of us zero = 0
  attempts_of us (suc k) = attempt_in (slice_get us k)

  -- the turn is by the present attempt of its update
  abbrev pub IsPresent : List (Update (caused_chase ms B)) → Turn (caused_chase ms B) → Type 0
  IsPresent us t = attempts_of us t.number ≡ t.attempt

  module _ (few : 1 ≤ B) (nulls : HaveNoNulls ms) (plain : repairs_plainly ms ≡ true) where
    abbrev whole_turns : List (Turn (caused_chase ms B)) → List (Turn (whole_chase ms B))
    whole_turns ts = map (whole_turn ms B few nulls plain) ts

    -- each turn is by its update's attempt
    present_turns : (us : List (Update (caused_chase ms B))) (n : ℕ) (ts : List (Turn (caused_chase ms B))) → Rising (caused_chase ms B) (IsPresent us) n ts
        → by_attempts every ms B (attempts_of us) (whole_turns ts) ≡ whole_turns ts
    present_turns us n [] h = refl
    present_turns us n (t ∷ ts) h = λ i. record { number = t.number; attempt = h.1 i; operation = t.operation; answers = t.answers } ∷ present_turns us (suc t.number) ts h.2 i

    first_turns : (ts : List (Turn (caused_chase ms B))) → by_attempts every ms B (λ u. 0) (whole_turns ts) ≡ map (first_turn ms B) ts
    first_turns [] = refl
    first_turns (t ∷ ts) = ap (λ ss. first_turn ms B t ∷ ss) (first_turns ts)

    same_finishes : (fs : List (Finish (caused_chase ms B)))
        → flat_map (λ (f : Finish (whole_chase ms B)). finished f.number f.state) (map (λ (f : Finish (caused_chase ms B)). record { number = f.number; state = f.state }) fs) ≡ flat_map (λ (f : Finish (caused_chase ms B)). finished f.number f.state) fs
    same_finishes [] = refl
    same_finishes (f ∷ fs) = ap (λ gs. finished f.number f.state ++ gs) (same_finishes fs)

    same_stop : (o : Option (Stop (caused_chase ms B)))
        → option_and_then (λ (s : Stop (whole_chase ms B)). stopped s.number s.state s.lack) (option_map (λ (s : Stop (caused_chase ms B)). record { number = s.number; state = s.state; lack = s.lack }) o)
        ≡ option_and_then (λ (s : Stop (caused_chase ms B)). stopped s.number s.state s.lack) o
    same_stop None = refl
    same_stop (Some s) = refl

    -- the same is told of it
    same_told : (r : Result (caused_chase ms B)) → told every ms B (whole_result ms B few nulls plain r) ≡ told caused ms B r
    same_told r = λ i. record { finishes = same_finishes r.finishes i; stop = same_stop r.stop i; repository = answered r.repository }

    -- the serial machine's result on these turns is what the history's machine makes of them one after the other
    pub outer_turns : (us : List (Update (caused_chase ms B))) (n : ℕ) (ts : List (Turn (caused_chase ms B))) (D : List Fact) → Rising (caused_chase ms B) (InTime ms B few nulls plain) n ts → Rising (caused_chase ms B) (IsPresent us) n ts
        → Kept ms n D → IsBase D
        → outer_told (serially ms B D ts) ≡ outer_told (told caused ms B (serial (caused_chase ms B) D ts))
    outer_turns us n ts D t p k b =
        ap (λ ss. outer_told (told every ms B (serial (whole_chase ms B) D ss))) (sym (first_turns ts))
        ∙ sym (attempts_are_outer every ms B D (whole_turns ts) (attempts_of us) nulls refl b).tells
        ∙ ap (λ ss. outer_told (told every ms B (serial (whole_chase ms B) D ss))) (present_turns us n ts p)
        ∙ ap (λ r. outer_told (told every ms B r)) (serial_whole ms B few nulls plain ts n D t k)
        ∙ ap outer_told (same_told (serial (caused_chase ms B) D ts))
