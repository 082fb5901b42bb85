-- What is told of a run, turn by turn, and that it is what is told where every violation counts.
use Rattle.std.proofs.Common.{◌≡◌, ◌∙◌, ap, sym, ℕ, suc, ◌+◌, ◌≤◌, Option, Some, None, List, [], ◌∷◌, ◌++◌, map, append_assoc, add-one}
use Rattle.std.specs.Option.{option_map}
use Rattle.std.proofs.lemmas.List.{append-nil, map-append}
use Rattle.def_machine.specs.Standings.{Lack}
use Rattle.def_machine.specs.Updates.{shown}
use Rattle.def_machine.specs.Serial.{Rest, Ends, Stops, Result, with_finish, after_turn, serial}
use Rattle.def_chase.specs.Values.{Fact}
use Rattle.def_chase.specs.Repository.{apply}
use Rattle.def_chase.specs.Mappings.{Rule}
use Rattle.def_steps.specs.Attempts.{Attempt}
use Rattle.def_steps.specs.Chase.{caused, caused_chase}
use Rattle.def_steps.specs.Holding.{SerialScopesAgree}
use Rattle.def_steps.specs.Serial.{Request, Finished, finished, stopped, at_rest, told, turns_in, serial_result}
use Rattle.def_language.specs.Sessions.{SessionData}
use Rattle.def_language.specs.Checks.{rules_of}
use Rattle.def_language.specs.Validity.{IsSession}
use Rattle.lang_session.specs.Base.{base_violation}
use Rattle.lang_session.specs.Laws.{SuitTheChase, BaseHolds}
use Rattle.lang_session.specs.Meanings.{requests_in}
use Rattle.chase_update.specs.Results.{FinishTold, StopTold, finish_in, stop_in, result_in}
use Rattle.run_serial.specs.Rests.{turn_of, whole_rest}
use Rattle.run_serial.specs.Runs.{HasFinished, told_from, after, told_at}

-- What is at rest with no lack has ended.
pub ends_there : (ms : List Rule) (B : ℕ) (r : Rest (caused_chase ms B)) (P : Attempt) → at_rest caused ms B r ≡ (P, None) → r ≡ Ends P
ends_there ms B (Ends Q) P e = ap Ends (ap (λ (x : Attempt × Option Lack). x.0) e)
ends_there ms B (Stops Q l) P e = let never : Some l ≡ None = ap (λ (x : Attempt × Option Lack). x.1) e in cc

-- What is at rest with a lack has stopped.
pub stops_there : (ms : List Rule) (B : ℕ) (r : Rest (caused_chase ms B)) (P : Attempt) (l : Lack) → at_rest caused ms B r ≡ (P, Some l) → r ≡ Stops P l
stops_there ms B (Ends Q) P l e = let never : None ≡ Some l = ap (λ (x : Attempt × Option Lack). x.1) e in cc
stops_there ms B (Stops Q k) P l e =
    let same : Q ≡ P = ap (λ (x : Attempt × Option Lack). x.0) e in
    let lacks : Some k ≡ Some l = ap (λ (x : Attempt × Option Lack). x.1) e in
    cc

-- The finish that was added comes before the others.
finish_first : (n : ℕ) (P : Attempt) (others : List Finished) (fs gs : List FinishTold) → HasFinished n P fs gs
    → fs ++ map finish_in (finished n P ++ others) ≡ gs ++ map finish_in others
finish_first n P others fs gs f =
    ap (λ (xs : List FinishTold). fs ++ xs) (map-append finish_in (finished n P) others ∙ ap (λ (xs : List FinishTold). xs ++ map finish_in others) f.told)
    ∙ (sym (append_assoc fs (f.finish ∷ []) (map finish_in others))
    ∙ ap (λ (xs : List FinishTold). xs ++ map finish_in others) (sym f.added))

-- The finish that is told first may as well stand among those before.
finish_told : (ms : List Rule) (B n : ℕ) (P : Attempt) (R : Result (caused_chase ms B)) (fs gs : List FinishTold) → HasFinished n P fs gs
    → after fs (result_in (told caused ms B (with_finish (caused_chase ms B) n P R))) ≡ after gs (result_in (told caused ms B R))
finish_told ms B n P R fs gs f =
    ap (λ (xs : List FinishTold). record { finishes = xs; stop = (result_in (told caused ms B R)).stop; repository = (result_in (told caused ms B R)).repository })
    (finish_first n P _ fs gs f)

-- Where the update ends, the run goes on over what it shows.
pub goes_on : (ms : List Rule) (B : ℕ) (D E : List Fact) (n : ℕ) (r : Request) (rs : List Request) (P : Attempt) (fs gs : List FinishTold)
    → whole_rest ms B D (turn_of ms B n r) ≡ (P, None) → HasFinished n P fs gs → E ≡ apply D (shown (caused_chase ms B) P)
    → after fs (told_from ms B D n (r ∷ rs)) ≡ after gs (told_from ms B E (n + 1) rs)
unfolding told_from
goes_on ms B D E n r rs P fs gs w f k =
    ap (λ (x : Rest (caused_chase ms B)). after fs (result_in (told caused ms B (after_turn (caused_chase ms B) (λ F. serial (caused_chase ms B) F (turns_in caused ms B (suc n) rs)) n D x))))
    (ends_there ms B _ P w)
    ∙ (finish_told ms B n P (serial (caused_chase ms B) (apply D (shown (caused_chase ms B) P)) (turns_in caused ms B (suc n) rs)) fs gs f
    ∙ (ap (λ (F : List Fact). after gs (told_from ms B F (suc n) rs)) (sym k)
    ∙ ap (λ m. after gs (told_from ms B E m rs)) (sym (add-one n))))

-- Where the update stops, the run is over.
pub stops_here : (ms : List Rule) (B : ℕ) (D : List Fact) (n : ℕ) (r : Request) (rs : List Request) (P : Attempt) (l : Lack) (s : StopTold)
    → whole_rest ms B D (turn_of ms B n r) ≡ (P, Some l) → option_map stop_in (stopped n P l) ≡ Some s
    → told_from ms B D n (r ∷ rs) ≡ told_at [] (Some s) D
unfolding told_from
stops_here ms B D n r rs P l s w e =
    ap (λ (x : Rest (caused_chase ms B)). result_in (told caused ms B (after_turn (caused_chase ms B) (λ F. serial (caused_chase ms B) F (turns_in caused ms B (suc n) rs)) n D x)))
    (stops_there ms B _ P l w)
    ∙ ap (λ (o : Option StopTold). told_at [] o D) e

-- Where no updates are left, the run is over.
pub ends_here : (ms : List Rule) (B : ℕ) (D : List Fact) (n : ℕ) (fs : List FinishTold) → after fs (told_from ms B D n []) ≡ told_at fs None D
unfolding told_from
ends_here ms B D n fs = ap (λ (gs : List FinishTold). told_at gs None D) (append-nil fs)

-- Of a valid session whose base violates no mapping the same is told where every violation counts.
pub told_whole : (s : SessionData) (B : ℕ) → SuitTheChase → BaseHolds → SerialScopesAgree → IsSession s → base_violation s ≡ None → 1 ≤ B
    → told_from (rules_of s.mappings) B s.base 1 (requests_in s) ≡ result_in (serial_result (rules_of s.mappings) B s.base (requests_in s))
unfolding told_from
told_whole s B suit hold agree v met some =
    ap result_in (agree (rules_of s.mappings) B s.base (requests_in s) some (suit.no_nulls s v) (suit.timely s v) (hold s v met))
