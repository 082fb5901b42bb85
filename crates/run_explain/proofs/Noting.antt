-- What is noted of an attempt's steps, from what it does next.
use Rattle.std.specs.Prelude.{slice_get, if◌then◌else◌}
use Rattle.std.specs.Option.{option_map}
use Rattle.std.proofs.Common.{◌≡◌, ◌∙◌, ap, refl, sym, subst, ℕ, zero, suc, ◌-◌, ◌<◌, Bool, true, false, Option, Some, None, List, [], ◌∷◌, ◌++◌, is_some, arith}
use Rattle.def_machine.specs.Standings.{Missing, Misfit, unless_fits, lack_for}
use Rattle.def_chase.specs.Values.{Fact}
use Rattle.def_chase.specs.Mappings.{Rule}
use Rattle.def_chase.specs.Updates.{Choice}
use Rattle.chase_question.specs.Inquiries.{inquiry_in, fits_inquiry}
use Rattle.def_steps.specs.Attempts.{Question, Positive, Negative, Phase, Start, Look, Generate, Asked, Ended, Attempt, question_in, outcome_in}
use Rattle.def_steps.specs.Questions.{fits}
use Rattle.def_steps.specs.Chase.{ending, caused, caused_chase}
use Rattle.chase_update.specs.Courses.{between, State}
use Rattle.chase_update.specs.Wishes.{wish, wish_at}
use Rattle.def_provenance.specs.Courses.{steps_from, unless_lacking}
use Rattle.def_provenance.specs.Notes.{noted, notes_of}
use Rattle.def_provenance.specs.Puts.{Step}
use Rattle.run_step.specs.Turns.{Steps, Rests, at_question, next_by, stepped}
use Rattle.run_serial.proofs.Running.{steps_unended, wish_between}
use Rattle.run_note.specs.Steps.{step_of}
use Rattle.run_explain.specs.Turns.{left_from}

same_fits : (q : Question) (c : Choice) → fits_inquiry (inquiry_in q) c ≡ fits q c
same_fits (Positive r t cs) c = refl
same_fits (Negative n ts) c = refl

-- The step with this answer, and those after it.
abbrev steps_with : (ms : List Rule) (B : ℕ) → List Fact → List Choice → ℕ → Attempt → Option Choice → List Step
steps_with ms B D answers k P c = step_of ms D P c ∷ steps_from caused ms B P.operation D answers k (stepped ms B D P c)

-- The next steps in a phase.
abbrev steps_at : (ms : List Rule) (B : ℕ) → List Fact → List Choice → ℕ → Attempt → Phase → List Step
steps_at ms B D answers k P p =
    if is_some (option_map ending (outcome_in p)) then []
    else unless_lacking (lack_for (caused_chase ms B) answers P (question_in p))
    (steps_with ms B D answers k P (if is_some (question_in p) then slice_get answers P.taken else None))

asks_on : (ms : List Rule) (B : ℕ) (D : List Fact) (answers : List Choice) (k : ℕ) (P : Attempt) (q : Question) (o : Option Choice) (c : Option Choice)
    → at_question (inquiry_in q) o ≡ Steps c
    → unless_lacking (unless_fits (caused_chase ms B) q o) (steps_with ms B D answers k P o) ≡ steps_with ms B D answers k P c
asks_on ms B D answers k P q None c e = cc
asks_on ms B D answers k P q (Some a) c e = by (fits q a) (ap (λ b. if b then Steps (Some a) else Rests (Some Misfit)) (sym (same_fits q a)) ∙ e)
  where
    by : (b : Bool) → (if b then Steps (Some a) else Rests (Some Misfit)) ≡ Steps c
        → unless_lacking (if b then None else Some Misfit) (steps_with ms B D answers k P (Some a)) ≡ steps_with ms B D answers k P c
    by true e =
        let same : Some a ≡ c = cc in
        ap (λ d. steps_with ms B D answers k P d) same
    by false e = cc

steps_in : (ms : List Rule) (B : ℕ) (D : List Fact) (answers : List Choice) (k : ℕ) (P : Attempt) (p : Phase) (c : Option Choice)
    → next_by (wish_at p) P.taken answers ≡ Steps c → steps_at ms B D answers k P p ≡ steps_with ms B D answers k P c
steps_in ms B D answers k P Start c e = let same : None ≡ c = cc in ap (λ d. steps_with ms B D answers k P d) same
steps_in ms B D answers k P Look c e = let same : None ≡ c = cc in ap (λ d. steps_with ms B D answers k P d) same
steps_in ms B D answers k P (Generate r) c e = let same : None ≡ c = cc in ap (λ d. steps_with ms B D answers k P d) same
steps_in ms B D answers k P (Asked q) c e = asks_on ms B D answers k P q (slice_get answers P.taken) c e
steps_in ms B D answers k P (Ended o) c e = cc

-- Where a step comes next, it is the first of those that are left.
step_first : (ms : List Rule) (B : ℕ) (D : List Fact) (answers : List Choice) (P : Attempt) (c : Option Choice)
    → P.steps < B → next_by (wish_at P.phase) P.taken answers ≡ Steps c
    → left_from ms B D answers (B - P.steps) P ≡ noted (step_of ms D P c) ++ left_from ms B D answers (B - suc P.steps) (stepped ms B D P c)
step_first ms B D answers P c h e =
    let more : B - P.steps ≡ suc (B - suc P.steps) = omega (arith, h) in
    ap (λ k. left_from ms B D answers k P) more
    ∙ ap notes_of (steps_in ms B D answers (B - suc P.steps) P P.phase c e)

stops_at : (ms : List Rule) (B : ℕ) (q : Question) (o : Option Choice) (l : Option Rattle.def_machine.specs.Standings.Lack) (ss : List Step)
    → at_question (inquiry_in q) o ≡ Rests l → unless_lacking (unless_fits (caused_chase ms B) q o) ss ≡ []
stops_at ms B q None l ss e = refl
stops_at ms B q (Some a) l ss e = by (fits q a) (ap (λ b. if b then Steps (Some a) else Rests (Some Misfit)) (sym (same_fits q a)) ∙ e)
  where
    by : (b : Bool) → (if b then Steps (Some a) else Rests (Some Misfit)) ≡ Rests l → unless_lacking (if b then None else Some Misfit) ss ≡ []
    by true e = cc
    by false e = refl

rests_in : (ms : List Rule) (B : ℕ) (D : List Fact) (answers : List Choice) (k : ℕ) (P : Attempt) (p : Phase) (l : Option Rattle.def_machine.specs.Standings.Lack)
    → next_by (wish_at p) P.taken answers ≡ Rests l → steps_at ms B D answers k P p ≡ []
rests_in ms B D answers k P Start l e = cc
rests_in ms B D answers k P Look l e = cc
rests_in ms B D answers k P (Generate r) l e = cc
rests_in ms B D answers k P (Asked q) l e = stops_at ms B q (slice_get answers P.taken) l _ e
rests_in ms B D answers k P (Ended o) l e = refl

none_left : (ms : List Rule) (B : ℕ) (D : List Fact) (answers : List Choice) (P : Attempt) (l : Option Rattle.def_machine.specs.Standings.Lack) (k : ℕ)
    → next_by (wish_at P.phase) P.taken answers ≡ Rests l → left_from ms B D answers k P ≡ []
none_left ms B D answers P l zero e = refl
none_left ms B D answers P l (suc k) e = ap notes_of (rests_in ms B D answers k P P.phase l e)

-- The step that comes next, made and noted, leaves what is left after it.
pub notes_on : (ms : List Rule) (B : ℕ) (D : List Fact) (answers : List Choice) (s t : State) (c : Option Choice)
    → s.reading ≡ None → (is_some (outcome_in s.attempt.phase) ≡ false → s.attempt.steps < B)
    → Steps c ≡ next_by (wish s) s.attempt.taken answers → t ≡ between (stepped ms B D s.attempt c)
    → left_from ms B D answers (B - s.attempt.steps) s.attempt ≡ noted (step_of ms D s.attempt c) ++ left_from ms B D answers (B - t.attempt.steps) t.attempt
notes_on ms B D answers s t c r left e f =
    let next : next_by (wish_at s.attempt.phase) s.attempt.taken answers ≡ Steps c =
    sym (subst (λ v. Steps c ≡ next_by v s.attempt.taken answers) (wish_between s r) e) in
    let more : s.attempt.steps < B = left (steps_unended s.attempt.phase s.attempt.taken answers c next) in
    step_first ms B D answers s.attempt c more next
    ∙ ap (λ (u : State). noted (step_of ms D s.attempt c) ++ left_from ms B D answers (B - u.attempt.steps) u.attempt) (sym f)

-- Where nothing comes next, nothing is left.
pub notes_rest : (ms : List Rule) (B : ℕ) (D : List Fact) (answers : List Choice) (s : State) (l : Option Rattle.def_machine.specs.Standings.Lack) (k : ℕ)
    → s.reading ≡ None → Rests l ≡ next_by (wish s) s.attempt.taken answers → left_from ms B D answers k s.attempt ≡ []
notes_rest ms B D answers s l k r e =
    none_left ms B D answers s.attempt l k (sym (subst (λ v. Rests l ≡ next_by v s.attempt.taken answers) (wish_between s r) e))
