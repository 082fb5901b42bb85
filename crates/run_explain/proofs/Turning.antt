-- What is noted of updates in turn.
use Rattle.std.specs.Prelude.{if◌then◌else◌}
use Rattle.std.proofs.Common.{◌≡◌, ◌∙◌, ap, refl, sym, ℕ, suc, ◌+◌, ◌≤◌, Bool, true, false, Some, None, List, [], ◌∷◌, ◌++◌, append_assoc, add-one, Result, Ok, Err, IfOk}
use Rattle.def_machine.specs.Standings.{Lack}
use Rattle.def_machine.specs.Updates.{shown}
use Rattle.def_machine.specs.Serial.{Rest}
use Rattle.def_chase.specs.Values.{Fact}
use Rattle.def_chase.specs.Repository.{apply}
use Rattle.def_chase.specs.Mappings.{Rule}
use Rattle.def_steps.specs.Attempts.{Phase, Start, Look, Generate, Asked, Ended, Done, Spent, Refused, Attempt, outcome_in}
use Rattle.def_steps.specs.Chase.{every, caused, caused_chase}
use Rattle.def_steps.specs.Serial.{Request, turns_in, turns_of}
use Rattle.def_language.specs.Sessions.{SessionData}
use Rattle.def_language.specs.Checks.{rules_of}
use Rattle.def_language.specs.Validity.{IsSession}
use Rattle.lang_session.specs.Base.{base_violation}
use Rattle.lang_session.specs.Laws.{SuitTheChase, BaseHolds}
use Rattle.lang_session.specs.Meanings.{requests_in}
use Rattle.def_provenance.specs.Laws.{StepsAgree}
use Rattle.chase_update.specs.Courses.{State}
use Rattle.chase_update.specs.Wishes.{wish, wish_at}
use Rattle.def_provenance.specs.Courses.{is_done_with, if_done, serial_steps, steps_after, whole_steps}
use Rattle.def_provenance.specs.Notes.{Noted, noted, notes_of}
use Rattle.def_provenance.specs.Puts.{Step}
use Rattle.run_serial.specs.Rests.{turn_of, whole_rest}
use Rattle.run_serial.proofs.Onward.{ends_there, stops_there}
use Rattle.run_serial.proofs.Running.{wish_between}
use Rattle.run_explain.specs.Turns.{noted_from, whole_notes, wants_none_done}

-- What is said of a result holds also weakened.
pub if_ok_weaker : {T E : Type 0} {P Q : T → Type 0} (r : Result T E) → ((x : T) → P x → Q x) → IfOk r P → IfOk r Q
if_ok_weaker (Ok x) f h = f x h
if_ok_weaker (Err e) f h = h

notes_join : (xs ys : List Step) → notes_of (xs ++ ys) ≡ notes_of xs ++ notes_of ys
notes_join [] ys = refl
notes_join (x ∷ xs) ys = ap (λ zs. noted x ++ zs) (notes_join xs ys) ∙ sym (append_assoc (noted x) (notes_of xs) (notes_of ys))

notes_if_done : (b : Bool) (ss : List Step) → notes_of (if b then ss else []) ≡ (if b then notes_of ss else [])
notes_if_done true ss = refl
notes_if_done false ss = refl

-- Where the update ends, what is noted of it where it is done, and then what is noted over what it shows.
pub noted_on : (ms : List Rule) (B : ℕ) (D E : List Fact) (n : ℕ) (r : Request) (rs : List Request) (P : Attempt)
    → whole_rest ms B D (turn_of ms B n r) ≡ (P, None) → E ≡ apply D (shown (caused_chase ms B) P)
    → noted_from ms B D n (r ∷ rs) ≡ (if is_done_with (outcome_in P.phase) then whole_notes ms B D n r else []) ++ noted_from ms B E (n + 1) rs
unfolding noted_from
noted_on ms B D E n r rs P w k =
    let ss = whole_steps caused ms B D (turn_of ms B n r) in
    ap (λ (x : Rest (caused_chase ms B)). notes_of (steps_after caused ms B (λ F. serial_steps caused ms B F (turns_in caused ms B (suc n) rs)) D (whole_steps caused ms B D (turn_of ms B n r)) x))
    (ends_there ms B _ P w)
    ∙ notes_join (if_done P ss) (serial_steps caused ms B (apply D (shown (caused_chase ms B) P)) (turns_in caused ms B (suc n) rs))
    ∙ ap (λ (xs : List Noted). xs ++ noted_from ms B (apply D (shown (caused_chase ms B) P)) (suc n) rs) (notes_if_done (is_done_with (outcome_in P.phase)) ss)
    ∙ ap (λ (F : List Fact). (if is_done_with (outcome_in P.phase) then whole_notes ms B D n r else []) ++ noted_from ms B F (suc n) rs) (sym k)
    ∙ ap (λ m. (if is_done_with (outcome_in P.phase) then whole_notes ms B D n r else []) ++ noted_from ms B E m rs) (sym (add-one n))

-- Where it stops, nothing more is noted.
pub noted_stop : (ms : List Rule) (B : ℕ) (D : List Fact) (n : ℕ) (r : Request) (rs : List Request) (P : Attempt) (l : Lack)
    → whole_rest ms B D (turn_of ms B n r) ≡ (P, Some l) → noted_from ms B D n (r ∷ rs) ≡ []
unfolding noted_from
noted_stop ms B D n r rs P l w =
    ap (λ (x : Rest (caused_chase ms B)). notes_of (steps_after caused ms B (λ F. serial_steps caused ms B F (turns_in caused ms B (suc n) rs)) D (whole_steps caused ms B D (turn_of ms B n r)) x))
    (stops_there ms B _ P l w)

-- Where no updates are left, nothing is noted.
pub noted_end : (ms : List Rule) (B : ℕ) (D : List Fact) (n : ℕ) → noted_from ms B D n [] ≡ []
unfolding noted_from
noted_end ms B D n = refl

done_at : (p : Phase) → wants_none_done (wish_at p) ≡ is_done_with (outcome_in p)
done_at Start = refl
done_at Look = refl
done_at (Generate r) = refl
done_at (Asked q) = refl
done_at (Ended Done) = refl
done_at (Ended Spent) = refl
done_at (Ended (Refused n)) = refl

-- What a program wants between two steps tells whether it is done.
pub done_by_wish : (s : State) → s.reading ≡ None → wants_none_done (wish s) ≡ is_done_with (outcome_in s.attempt.phase)
done_by_wish s r = ap wants_none_done (wish_between s r) ∙ done_at s.attempt.phase

-- Of a valid session whose base violates no mapping that is what is to be noted where every violation counts.
pub noted_whole : (s : SessionData) (B : ℕ) → SuitTheChase → BaseHolds → StepsAgree → IsSession s → base_violation s ≡ None → 1 ≤ B
    → noted_from (rules_of s.mappings) B s.base 1 (requests_in s) ≡ notes_of (serial_steps every (rules_of s.mappings) B s.base (turns_of (rules_of s.mappings) B (requests_in s)))
unfolding noted_from
noted_whole s B suit hold agree v met some =
    ap notes_of (agree (rules_of s.mappings) B s.base (requests_in s) some (suit.no_nulls s v) (suit.timely s v) (hold s v met))
