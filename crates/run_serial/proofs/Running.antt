-- The machine's run, turn by turn, from what an attempt does next.
use Rattle.std.proofs.Common.{◌≡◌, ◌∙◌, ap, refl, sym, subst, ℕ, zero, suc, ◌-◌, ◌<◌, ◌||◌, nat_lt, Bool, true, false, Option, Some, None, List, is_some, ltb-true, arith}
use Rattle.std.specs.Prelude.{slice_get, if◌then◌else◌}
use Rattle.std.specs.Option.{option_map}
use Rattle.def_machine.specs.Standings.{Lack, Missing, Misfit, unless_fits, lack_for}
use Rattle.def_machine.specs.Serial.{Rest, Ends, go_on, run}
use Rattle.def_chase.specs.Values.{Fact}
use Rattle.def_chase.specs.Mappings.{Rule}
use Rattle.def_chase.specs.Updates.{Choice}
use Rattle.chase_question.specs.Inquiries.{inquiry_in, fits_inquiry}
use Rattle.def_steps.specs.Attempts.{Question, Positive, Negative, Phase, Start, Look, Generate, Asked, Ended, Spent, Attempt, question_in, outcome_in}
use Rattle.def_steps.specs.Questions.{fits}
use Rattle.def_steps.specs.Chase.{ending, caused, caused_chase}
use Rattle.def_steps.specs.Serial.{at_rest}
use Rattle.chase_update.specs.Courses.{between, State}
use Rattle.chase_update.specs.Wishes.{wish, wish_at, wish_by}
use Rattle.run_step.specs.Turns.{Steps, Rests, at_question, next_by, stepped}
use Rattle.run_serial.specs.Rests.{rest_from}

same_fits : (q : Question) (c : Choice) → fits_inquiry (inquiry_in q) c ≡ fits q c
same_fits (Positive r t cs) c = refl
same_fits (Negative n ts) c = refl

-- The run's next turn in a phase.
abbrev turn_in : (ms : List Rule) (B : ℕ) → List Fact → List Choice → ℕ → Attempt → Phase → Rest (caused_chase ms B)
turn_in ms B D answers k P p =
    if is_some (option_map ending (outcome_in p)) then Ends P
    else go_on (caused_chase ms B) (run (caused_chase ms B) P.operation D answers k) P
    (stepped ms B D P (if is_some (question_in p) then slice_get answers P.taken else None))
    (lack_for (caused_chase ms B) answers P (question_in p))

asks_on : (ms : List Rule) (B : ℕ) (D : List Fact) (answers : List Choice) (k : ℕ) (P : Attempt) (q : Question) (o : Option Choice) (c : Option Choice)
    → at_question (inquiry_in q) o ≡ Steps c
    → go_on (caused_chase ms B) (run (caused_chase ms B) P.operation D answers k) P (stepped ms B D P o) (unless_fits (caused_chase ms B) q o)
    ≡ run (caused_chase ms B) P.operation D answers k (stepped ms B D P c)
asks_on ms B D answers k P q None c e = cc
asks_on ms B D answers k P q (Some a) c e = by (fits q a) (ap (λ b. if b then Steps (Some a) else Rests (Some Misfit)) (sym (same_fits q a)) ∙ e)
  where
    by : (b : Bool) → (if b then Steps (Some a) else Rests (Some Misfit)) ≡ Steps c
        → go_on (caused_chase ms B) (run (caused_chase ms B) P.operation D answers k) P (stepped ms B D P (Some a)) (if b then None else Some Misfit)
        ≡ run (caused_chase ms B) P.operation D answers k (stepped ms B D P c)
    by true e =
        let same : Some a ≡ c = cc in
        ap (λ d. run (caused_chase ms B) P.operation D answers k (stepped ms B D P d)) same
    by false e = cc

steps_in : (ms : List Rule) (B : ℕ) (D : List Fact) (answers : List Choice) (k : ℕ) (P : Attempt) (p : Phase) (c : Option Choice)
    → next_by (wish_at p) P.taken answers ≡ Steps c
    → turn_in ms B D answers k P p ≡ run (caused_chase ms B) P.operation D answers k (stepped ms B D P c)
steps_in ms B D answers k P Start c e = let same : None ≡ c = cc in ap (λ d. run (caused_chase ms B) P.operation D answers k (stepped ms B D P d)) same
steps_in ms B D answers k P Look c e = let same : None ≡ c = cc in ap (λ d. run (caused_chase ms B) P.operation D answers k (stepped ms B D P d)) same
steps_in ms B D answers k P (Generate r) c e = let same : None ≡ c = cc in ap (λ d. run (caused_chase ms B) P.operation D answers k (stepped ms B D P d)) same
steps_in ms B D answers k P (Asked q) c e = asks_on ms B D answers k P q (slice_get answers P.taken) c e
steps_in ms B D answers k P (Ended o) c e = cc

-- Where a step comes next, the rest is that of the attempt after it.
pub steps_on : (ms : List Rule) (B : ℕ) (D : List Fact) (answers : List Choice) (P : Attempt) (c : Option Choice)
    → P.steps < B → next_by (wish_at P.phase) P.taken answers ≡ Steps c
    → rest_from ms B D answers (B - P.steps) P ≡ rest_from ms B D answers (B - suc P.steps) (stepped ms B D P c)
steps_on ms B D answers P c h e =
    let more : B - P.steps ≡ suc (B - suc P.steps) = omega (arith, h) in
    ap (λ k. rest_from ms B D answers k P) more
    ∙ ap (at_rest caused ms B) (steps_in ms B D answers (B - suc P.steps) P P.phase c e)

stops_at : (ms : List Rule) (B : ℕ) (D : List Fact) (answers : List Choice) (k : ℕ) (P : Attempt) (q : Question) (o : Option Choice) (l : Option Lack) (next : Attempt)
    → at_question (inquiry_in q) o ≡ Rests l
    → at_rest caused ms B (go_on (caused_chase ms B) (run (caused_chase ms B) P.operation D answers k) P next (unless_fits (caused_chase ms B) q o)) ≡ (P, l)
stops_at ms B D answers k P q None l next e = let same : Some Missing ≡ l = cc in ap (λ m. (P, m)) same
stops_at ms B D answers k P q (Some a) l next e = by (fits q a) (ap (λ b. if b then Steps (Some a) else Rests (Some Misfit)) (sym (same_fits q a)) ∙ e)
  where
    by : (b : Bool) → (if b then Steps (Some a) else Rests (Some Misfit)) ≡ Rests l
        → at_rest caused ms B (go_on (caused_chase ms B) (run (caused_chase ms B) P.operation D answers k) P next (if b then None else Some Misfit)) ≡ (P, l)
    by true e = cc
    by false e = let same : Some Misfit ≡ l = cc in ap (λ m. (P, m)) same

rests_in : (ms : List Rule) (B : ℕ) (D : List Fact) (answers : List Choice) (k : ℕ) (P : Attempt) (p : Phase) (l : Option Lack)
    → next_by (wish_at p) P.taken answers ≡ Rests l
    → at_rest caused ms B (turn_in ms B D answers k P p) ≡ (P, l)
rests_in ms B D answers k P Start l e = cc
rests_in ms B D answers k P Look l e = cc
rests_in ms B D answers k P (Generate r) l e = cc
rests_in ms B D answers k P (Asked q) l e = stops_at ms B D answers k P q (slice_get answers P.taken) l _ e
rests_in ms B D answers k P (Ended o) l e = let same : None ≡ l = cc in ap (λ m. (P, m)) same

-- What rests at its end lacks nothing.
ended_lacks : (p : Phase) (taken : ℕ) (answers : List Choice) (l : Option Lack)
    → (is_some (outcome_in p) ≡ false → ⊥) → next_by (wish_at p) taken answers ≡ Rests l → None ≡ l
ended_lacks Start taken answers l f e = absurd (f refl)
ended_lacks Look taken answers l f e = absurd (f refl)
ended_lacks (Generate r) taken answers l f e = absurd (f refl)
ended_lacks (Asked q) taken answers l f e = absurd (f refl)
ended_lacks (Ended o) taken answers l f e = cc

-- Where nothing comes next, the attempt is at rest.
pub rests_at : (ms : List Rule) (B : ℕ) (D : List Fact) (answers : List Choice) (P : Attempt) (l : Option Lack)
    → (is_some (outcome_in P.phase) ≡ false → P.steps < B) → next_by (wish_at P.phase) P.taken answers ≡ Rests l
    → rest_from ms B D answers (B - P.steps) P ≡ (P, l)
rests_at ms B D answers P l f e = by (B - P.steps) refl
  where
    by : (k : ℕ) → B - P.steps ≡ k → rest_from ms B D answers k P ≡ (P, l)
    by zero h = ap (λ m. (P, m)) (ended_lacks P.phase P.taken answers l (λ g. let more = f g in omega (arith, h, more)) e)
    by (suc k) h = rests_in ms B D answers k P P.phase l e

-- A step that doesn't end the attempt leaves some of its budget.
pub some_left : (B n : ℕ) (p : Phase) → is_some (outcome_in (if is_some (outcome_in p) || nat_lt n B then p else Ended Spent)) ≡ false → n < B
some_left B n p h = by p (nat_lt n B) refl h
  where
    by : (p : Phase) (b : Bool) → nat_lt n B ≡ b → is_some (outcome_in (if is_some (outcome_in p) || b then p else Ended Spent)) ≡ false → n < B
    by p true e h = ltb-true n B e
    by Start false e h = cc
    by Look false e h = cc
    by (Generate r) false e h = cc
    by (Asked q) false e h = cc
    by (Ended o) false e h = cc

-- Within no step, what is wanted is what the phase wants.
pub wish_between : (s : State) → s.reading ≡ None → wish s ≡ wish_at s.attempt.phase
wish_between s e = ap (wish_by s.attempt.phase) e

-- What takes a step next has not ended.
pub steps_unended : (p : Phase) (taken : ℕ) (answers : List Choice) (c : Option Choice) → next_by (wish_at p) taken answers ≡ Steps c → is_some (outcome_in p) ≡ false
steps_unended Start taken answers c e = refl
steps_unended Look taken answers c e = refl
steps_unended (Generate r) taken answers c e = refl
steps_unended (Asked q) taken answers c e = refl
steps_unended (Ended o) taken answers c e = cc

-- A state of a turn: between two steps, with steps left unless it has ended, and on the way to that rest.
abbrev pub IsOnTheWay : (ms : List Rule) (B : ℕ) → List Fact → List Choice → Attempt × Option Lack → State → Type 0
IsOnTheWay ms B D answers w s =
    (s.reading ≡ None) × (is_some (outcome_in s.attempt.phase) ≡ false → s.attempt.steps < B) × (w ≡ rest_from ms B D answers (B - s.attempt.steps) s.attempt)

-- The step that comes next keeps it on the way.
pub stays_on : (ms : List Rule) (B : ℕ) (D : List Fact) (answers : List Choice) (w : Attempt × Option Lack) (s t : State) (c : Option Choice)
    → IsOnTheWay ms B D answers w s → Steps c ≡ next_by (wish s) s.attempt.taken answers → t ≡ between (stepped ms B D s.attempt c)
    → IsOnTheWay ms B D answers w t
stays_on ms B D answers w s t c h e f =
    let next : next_by (wish_at s.attempt.phase) s.attempt.taken answers ≡ Steps c =
    sym (subst (λ v. Steps c ≡ next_by v s.attempt.taken answers) (wish_between s h.0) e) in
    let more : s.attempt.steps < B = h.1 (steps_unended s.attempt.phase s.attempt.taken answers c next) in
    subst (IsOnTheWay ms B D answers w) (sym f) (refl, (λ g. some_left B (suc s.attempt.steps) _ g), h.2 ∙ steps_on ms B D answers s.attempt c more next)

-- Where nothing comes next it is there.
pub rests_there : (ms : List Rule) (B : ℕ) (D : List Fact) (answers : List Choice) (w : Attempt × Option Lack) (s : State) (l : Option Lack)
    → IsOnTheWay ms B D answers w s → Rests l ≡ next_by (wish s) s.attempt.taken answers
    → w ≡ (s.attempt, l)
rests_there ms B D answers w s l h e =
    let next : next_by (wish_at s.attempt.phase) s.attempt.taken answers ≡ Rests l =
    sym (subst (λ v. Rests l ≡ next_by v s.attempt.taken answers) (wish_between s h.0) e) in
    h.2 ∙ rests_at ms B D answers s.attempt l h.1 next
