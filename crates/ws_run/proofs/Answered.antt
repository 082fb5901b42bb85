-- Questions by names, and threads after a step.
use Rattle.std.proofs.Common.{◌≡◌, ◌∙◌, ap, refl, sym, ℕ, zero, suc, Bool, true, false, List, [], ◌∷◌, ◌++◌, map, drop, reverse, Option, Some, None}
use Rattle.std.specs.Option.{option_map}
use Rattle.std.specs.List.{slice_get}
use Rattle.std.proofs.lemmas.List.{map_push}
use Rattle.base_types.specs.Contents.{facts_of}
use Rattle.chase_question.specs.Inquiries.{inquiry_in}
use Rattle.chase_update.specs.Starting.{is_start}
use Rattle.def_chase.specs.Mappings.{Rule}
use Rattle.def_chase.specs.Repository.{apply}
use Rattle.def_chase.specs.Updates.{Choice, Expand, Unify, Drop}
use Rattle.def_chase.specs.Values.{Datum, Fact}
use Rattle.def_provenance.specs.Puts.{Way, way_in, way_of_start, way_of_question}
use Rattle.def_steps.specs.Attempts.{Question, Positive, Negative, Phase, Start, Look, Generate, Asked, Ended, Attempt, question_in}
use Rattle.def_workspace.specs.Lines.{Asked as AskedFor, Given}
use Rattle.def_workspace.specs.Names.{Names, fact_named}
use Rattle.def_workspace.specs.Runs.{Active, Thread, Reason, Asks, TooLong, same_asked, asked_by, choice_for, fitting, fitting_at, fitting_if, rest_of, answered, asks}
use Rattle.ws_lines.specs.Meanings.{asked_of}
use Rattle.ws_names.specs.Meanings.{places_of}
use Rattle.ws_run.specs.Asking.{asked_in, is_asked, choice_in, choice_if, fitting_in, tuples_in, IsTold}
use Rattle.ws_run.specs.Halting.{IsReason}
use Rattle.ws_run.specs.Meanings.{thread_of}
use Rattle.ws_run.specs.Moves.{moved_way, moved_over, step_way, ways_of}
use Rattle.ws_run.specs.Running.{thread_if, thread_at}
use Rattle.ws_run.specs.declared.halts.Question.{Question as QuestionTold}
use Rattle.ws_run.specs.declared.halts.Reason.TheVariants.{Asks as AsksQuestion}
use Rattle.ws_run.specs.declared.threads.Step.{Step}
use Rattle.ws_run.specs.declared.threads.Thread.{Thread as ThreadOfProgram}
use Rattle.ws_run.proofs.Steps.{over_more, by_answer, by_operation}

-- ---- questions as people see them

pub asked_is : (as' : List Active) (ns : Names) (q : Question) → asked_by as' ns q ≡ asked_in as' ns (inquiry_in q)
asked_is as' ns (Positive r t cs) = refl
asked_is as' ns (Negative n ts) = refl

choice_is : (ns : Names) (q : Question) (c : Choice) → choice_for ns q c ≡ choice_in ns (inquiry_in q) c
choice_is ns (Positive r t cs) Expand = refl
choice_is ns (Positive r t cs) (Unify o) = refl
choice_is ns (Positive r t cs) (Drop os) = refl
choice_is ns (Negative n ts) Expand = refl
choice_is ns (Negative n ts) (Unify o) = refl
choice_is ns (Negative n ts) (Drop os) = refl

one_fitting : (as' : List Active) (ns : Names) (q : Question) (g : Given) → fitting_at ns q g (asked_by as' ns q) ≡ choice_if (is_asked (asked_in as' ns (inquiry_in q)) g.asked) ns (inquiry_in q) g.choice
one_fitting as' ns q g = ap (fitting_at ns q g) (asked_is as' ns q) ∙ by (asked_in as' ns (inquiry_in q))
  where
    if_same : (b : Bool) → fitting_if b ns q g.choice ≡ choice_if b ns (inquiry_in q) g.choice
    if_same true = choice_is ns q g.choice
    if_same false = refl

    by : (o : Option AskedFor) → fitting_at ns q g o ≡ choice_if (is_asked o g.asked) ns (inquiry_in q) g.choice
    by None = refl
    by (Some a) = if_same (same_asked a g.asked)

-- The answer that comes next decides.
pub fitting_is : (as' : List Active) (ns : Names) (q : Question) (gs : List Given) (n : ℕ) → fitting as' ns q (drop n gs) ≡ fitting_in as' ns (inquiry_in q) (slice_get gs n)
fitting_is as' ns q [] zero = refl
fitting_is as' ns q [] (suc n) = refl
fitting_is as' ns q (g ∷ gs) zero = one_fitting as' ns q g
fitting_is as' ns q (g ∷ gs) (suc n) = fitting_is as' ns q gs n

pub rest_is : (gs : List Given) (n : ℕ) → rest_of (drop n gs) ≡ drop (suc n) gs
rest_is [] zero = refl
rest_is [] (suc n) = refl
rest_is (g ∷ gs) zero = refl
rest_is (g ∷ gs) (suc n) = rest_is gs n

-- A question that is told is the reason; one without its mapping is none.
pub told_reason : (as' : List Active) (ns : Names) (q : Question) (told : QuestionTold) → IsTold as' ns (inquiry_in q) (Some told) → IsReason (AsksQuestion told) (asks ns q (asked_by as' ns q))
told_reason as' ns q told h = (q, ap (asks ns q) (asked_is as' ns q ∙ h.0) ∙ by q h.1)
  where
    by : (p : Question) → facts_of told.candidates ≡ map (fact_named ns) (tuples_in (inquiry_in p)) → asks ns p (Some (asked_of told.asked)) ≡ Asks p (asked_of told.asked) (facts_of told.candidates)
    by (Positive r t cs) e = ap (Asks (Positive r t cs) (asked_of told.asked)) (sym e)
    by (Negative n ts) e = ap (Asks (Negative n ts) (asked_of told.asked)) (sym e)

pub not_told : (as' : List Active) (ns : Names) (q : Question) → IsTold as' ns (inquiry_in q) None → asks ns q (asked_by as' ns q) ≡ TooLong
not_told as' ns q h = ap (asks ns q) (asked_is as' ns q ∙ h)

-- ---- threads after a step

-- What values become by a step without an answer.
moved_at : (ms : List Rule) (D E : List Fact) (P : Attempt) (t : Thread) (d : Datum) (p : Phase) → question_in p ≡ None → (is_start p ≡ true → E ≡ D)
    → moved_way (way_in ms E P.operation None p) (t.moves d) ≡ (thread_if (is_start p) D P t).moves d
moved_at ms D E P t d Start q f = ap (λ (F : List Fact). moved_way (way_of_start F P.operation) (t.moves d)) (f refl) ∙ by_operation D P.operation (t.moves d)
moved_at ms D E P t d Look q f = refl
moved_at ms D E P t d (Generate r) q f = refl
moved_at ms D E P t d (Asked x) q f = let never : Some x ≡ None = q in cc
moved_at ms D E P t d (Ended o) q f = refl

-- A thread by other moves.
abbrev by_moves : Thread → (Datum → Datum) → Thread
by_moves t f = record { names = t.names; places = t.places; given = t.given; answers = t.answers; taken = t.taken; moves = f }

only_moves : (D : List Fact) (P : Attempt) (t : Thread) (p : Phase) → by_moves t (thread_if (is_start p) D P t).moves ≡ thread_if (is_start p) D P t
only_moves D P t Start = refl
only_moves D P t Look = refl
only_moves D P t (Generate r) = refl
only_moves D P t (Asked q) = refl
only_moves D P t (Ended o) = refl

-- The thread with one step more, which made no answer.
pub after_step : (ns : Names) (t u : ThreadOfProgram) (gs : List Given) (s : Step) (ms : List Rule) (D : List Fact) (P : Attempt)
    → u.steps.items ≡ t.steps.items ++ s ∷ [] → places_of u.places ≡ places_of t.places → u.given.items ≡ t.given.items → u.taken ≡ t.taken
    → step_way s ≡ way_in ms (apply D P.own) P.operation None P.phase → question_in P.phase ≡ None → (is_start P.phase ≡ true → apply D P.own ≡ D)
    → thread_of ns u gs ≡ thread_at D P (thread_of ns t gs)
after_step ns t u gs s ms D P steps places given taken way q fresh =
    (λ i. record { names = ns; places = places i; given = reverse (given i); answers = drop (taken i) gs; taken = taken i; moves = λ d. moves d i })
    ∙ only_moves D P (thread_of ns t gs) P.phase
  where
    moves : (d : Datum) → moved_over (ways_of u.steps.items) d ≡ (thread_at D P (thread_of ns t gs)).moves d
    moves d =
        ap (λ (ss : List Step). moved_over (ways_of ss) d) steps
        ∙ ap (λ (ws : List Way). moved_over ws d) (map_push step_way t.steps.items s)
        ∙ over_more (ways_of t.steps.items) (step_way s) d
        ∙ ap (λ (w : Way). moved_way w (moved_over (ways_of t.steps.items) d)) way
        ∙ moved_at ms D (apply D P.own) P (thread_of ns t gs) d P.phase q fresh

-- The thread with one step more, which took an answer.
pub after_answer : (ns : Names) (t u : ThreadOfProgram) (gs : List Given) (s : Step) (ms : List Rule) (E : List Fact) (P : Attempt) (q : Question) (c : Choice)
    → u.steps.items ≡ t.steps.items ++ s ∷ [] → places_of u.places ≡ places_of t.places → u.given.items ≡ t.given.items → u.taken ≡ suc t.taken
    → step_way s ≡ way_in ms E P.operation (Some c) P.phase → P.phase ≡ Asked q
    → thread_of ns u gs ≡ answered q c (thread_of ns t gs)
after_answer ns t u gs s ms E P q c steps places given taken way at =
    λ i. record {
      names = ns;
      places = places i;
      given = reverse (given i);
      answers = (ap (λ (n : ℕ). drop n gs) taken ∙ sym (rest_is gs t.taken)) i;
      taken = taken i;
      moves = λ d. moves d i;
    }
  where
    moves : (d : Datum) → moved_over (ways_of u.steps.items) d ≡ (answered q c (thread_of ns t gs)).moves d
    moves d =
        ap (λ (ss : List Step). moved_over (ways_of ss) d) steps
        ∙ ap (λ (ws : List Way). moved_over ws d) (map_push step_way t.steps.items s)
        ∙ over_more (ways_of t.steps.items) (step_way s) d
        ∙ ap (λ (w : Way). moved_way w (moved_over (ways_of t.steps.items) d)) (way ∙ ap (way_in ms E P.operation (Some c)) at)
        ∙ by_answer ms q c (moved_over (ways_of t.steps.items) d)
