-- An answer by a person follows, and what lets it.
use Rattle.std.proofs.Common.{◌≡◌, ◌∙◌, ap, refl, sym, subst, ℕ, suc, ◌<◌, Bool, true, false, Option, Some, None, List, [], ◌∷◌, ◌++◌, map, length, get_or}
use Rattle.std.proofs.Math.ListN.{set}
use Rattle.std.specs.Prelude.{if◌then◌else◌, option_map, option_and_then, slice_get}
use Rattle.std.proofs.lemmas.Option.{same_Some, none-some, slice_get-map}
use Rattle.base_types.specs.Meanings.{choice_of}
use Rattle.base_types.specs.declared.updates.Choice.{Choice as ChoiceOfProgram}
use Rattle.core_entries.specs.Meanings.{entry_of}
use Rattle.core_entries.specs.declared.entries.Entry.{Entry}
use Rattle.core_entries.specs.declared.entries.Entry.TheVariants as entries
use Rattle.core_entries.specs.declared.standings.Standing.{Standing as StandingOfProgram}
use Rattle.chase_question.specs.Inquiries.{Inquiry, inquiry_in}
use Rattle.def_history.specs.Cores.{Ground, machine, session_over}
use Rattle.def_history.specs.PlainEntries.{WasAnswered, entry_kept}
use Rattle.def_machine.specs.Machine.{Machine}
use Rattle.def_machine.specs.Effects.{Answers, Answered, effect, answer_effect, answered, fits_question, may_answer}
use Rattle.def_machine.specs.Standings.{Standing, standing, is_paused, question_of}
use Rattle.def_machine.specs.Updates.{Session, Settings, Update, committed}
use Rattle.def_chase.specs.Updates.{Choice}
use Rattle.core_queue.specs.Events.{KeepsPlace, HasAnswered}
use Rattle.core_queue.specs.Queues.{update_of, updates_of, AreFrom}
use Rattle.core_queue.specs.Updates.{HasStanding}
use Rattle.core_queue.specs.Order.{HasCommitted}
use Rattle.core_queue.specs.declared.updates.QueuedUpdate.{QueuedUpdate}
use Rattle.def_steps.specs.Attempts.{Question}
use Rattle.def_steps.specs.Chase.{caused_chase}
use Rattle.def_steps.specs.Questions.{fits}
use Rattle.set_versions.specs.Standing.{Kept}
use Rattle.def_language.specs.Sessions.{RelationSchema}
use Rattle.core_engine.specs.Answered.{TellsAnswer, AnswersTo}
use Rattle.core_engine.specs.Follows.{Follows, ground_with, AreSame}
use Rattle.core_engine.specs.Kept.{IsKept}
use Rattle.core_engine.specs.LiveCalls.{fits_at, is_paused_in}
use Rattle.core_engine.specs.States.{State, numbered_at, question_at, standing_at}
use Rattle.core_engine.proofs.Delivering.{from_same, put_follows, set_there}
use Rattle.core_engine.proofs.Entering.{standing_there}
use Rattle.core_engine.proofs.Following.{there}
use Rattle.core_engine.proofs.Small.{both_true}
use Rattle.core_engine.proofs.Making.{placed_within}
use Rattle.core_engine.proofs.Telling.{there_is, number_there}

-- ---- which choices fit

pub fits_asked : (s : State) (n : ℕ) (c : Choice) (i : Inquiry) (b : Bool) → Some i ≡ option_map inquiry_in (question_at s n) → ((q : Question) → inquiry_in q ≡ i → b ≡ fits q c) → b ≡ fits_at s n c
fits_asked s n c i b asked told = by (question_at s n) asked
  where
    by : (o : Option Question) → Some i ≡ option_map inquiry_in o → b ≡ fits_question (machine s.over) o c
    by None e = absurd (none-some i (sym e))
    by (Some q) e = told q (sym (same_Some i (inquiry_in q) e))

pub fits_none : (s : State) (n : ℕ) (c : Choice) → None ≡ option_map inquiry_in (question_at s n) → false ≡ fits_at s n c
fits_none s n c asked = by (question_at s n) asked
  where
    by : (o : Option Question) → None ≡ option_map inquiry_in o → false ≡ fits_question (machine s.over) o c
    by None e = refl
    by (Some q) e = absurd (none-some (inquiry_in q) e)

-- ---- an answer on the parts

allowed_answer : (M : Machine) (s : Settings) (S : Session M) (us : List (Update M)) (c : M.Choice) (k : ℕ) (u : Update M) → slice_get us k ≡ Some u → may_answer M s us c k u ≡ true
    → effect M s S us (Answers (suc k) c) ≡ Some (answer_effect M s us c k u)
allowed_answer M s S us c k u spot may =
    ap (λ o. option_and_then (λ w. if may_answer M s us c k w then Some (answer_effect M s us c k w) else None) o) spot
    ∙ ap (λ b. if b then Some (answer_effect M s us c k u) else None) may

answers_by : (s : Settings) (k : ℕ) (c : ChoiceOfProgram) (rs : List QueuedUpdate) (r r' : QueuedUpdate) (es es' : List Entry) (e : Entry) → k < length rs → get_or rs k r ≡ r → HasAnswered c r r' → KeepsPlace r r'
    → TellsAnswer s k (choice_of c) (set rs k r') e → es' ≡ es ++ e ∷ [] → AnswersTo s k (choice_of c) rs es (set rs k r') es'
answers_by s k c rs r r' es es' e l spot made place told grew ms v B D requests later kept may =
    let us : List (Update (caused_chase ms B)) = updates_of ms B rs in
    let u : Update (caused_chase ms B) = update_of ms B r in
    let at_us : slice_get us k ≡ Some u = slice_get-map (update_of ms B) rs k ∙ ap (option_map (update_of ms B)) (there rs k r l spot) in
    let yes : may_answer (caused_chase ms B) s us (choice_of c) k u ≡ true = same_Some _ _ (sym (ap (option_map (may_answer (caused_chase ms B) s us (choice_of c) k)) at_us) ∙ may) in
    put_follows ms B s k v D requests later rs r r' es es' e (Answers (suc k) (choice_of c)) (answer_effect (caused_chase ms B) s us (choice_of c) k u) (answered (caused_chase ms B) u (choice_of c)) kept l spot place (made ms B) refl
    (allowed_answer (caused_chase ms B) s (session_over (ground_with ms s B D requests later)) us (choice_of c) k u at_us yes) refl
    (λ us'. ap (entry_kept ms B) (told ms B r' (set_there rs k r' l)) ∙ (λ i. Answered (suc k) (choice_of c) (standing (caused_chase ms B) s (committed (caused_chase ms B) (us' i)) (suc k) (made ms B i)))) grew

pub answers_to : (s : Settings) (k : ℕ) (c : ChoiceOfProgram) (rs : List QueuedUpdate) (r r' : QueuedUpdate) (es es' : List Entry) (e : Entry) → k < length rs → r ≡ get_or rs k r → HasAnswered c (get_or rs k r) r' → KeepsPlace (get_or rs k r) r'
    → TellsAnswer s k (choice_of c) (set rs k r') e → es' ≡ es ++ e ∷ [] → AnswersTo s k (choice_of c) rs es (set rs k r') es'
answers_to s k c rs r r' es es' e l spot made place told grew =
    answers_by s k c rs r r' es es' e l (sym spot) (subst (λ (q : QueuedUpdate). HasAnswered c q r') (sym spot) made) (subst (λ (q : QueuedUpdate). KeepsPlace q r') (sym spot) place) told grew

pub answers_from : (s : Settings) (k : ℕ) (c : Choice) (rs mid rs' : List QueuedUpdate) (es between es' : List Entry) → AreSame rs mid → length mid ≡ length rs → between ≡ es → AnswersTo s k c mid between rs' es' → AnswersTo s k c rs es rs' es'
answers_from s k c rs mid rs' es between es' same long e answers ms v B D requests later kept may =
    let us : updates_of ms B mid ≡ updates_of ms B rs = same.updates ms B in
    from_same (ground_with ms s B D requests later) (Answers (suc k) c) v v rs mid rs' es between es' same long e kept
    (λ kept'. answers ms v B D requests later kept' ((λ i. option_map (may_answer (caused_chase ms B) s (us i) c k) (slice_get (us i) k)) ∙ may))

-- Its entry, with a copy of the choice.
pub answer_told : (s : Settings) (k n c : ℕ) (choice : ChoiceOfProgram) (rs : List QueuedUpdate) (r : QueuedUpdate) (st : StandingOfProgram) → AreFrom 1 rs → k < length rs → r ≡ get_or rs k r → n ≡ r.program.attempt.number
    → HasCommitted rs c → HasStanding s c n r st → TellsAnswer s k (choice_of choice) rs (entries.Answered n choice st)
answer_told s k n c choice rs r st from l e number counts stands ms B r' spot =
    let place : n ≡ suc k = number ∙ number_there rs k r from l e in
    let same : r ≡ r' = same_Some r r' (sym (there_is rs k r l e) ∙ spot) in
    λ i. WasAnswered (record { update = place i; choice = choice_of choice; standing = standing_there s rs k n c r r' st same place counts stands ms B i })

-- ---- an answer on a core

stood : (o : Option Standing) → is_paused_in o ≡ true → (st : Standing) × (o ≡ Some st)
stood None e = let never : false ≡ true = e in absurd cc
stood (Some st) e = (st, refl)

-- A paused update has a number.
pub paused_number : (s : State) (n : ℕ) → is_paused_in (standing_at s n) ≡ true → (st : Standing) × (standing_at s n ≡ Some st)
paused_number s n paused = stood (standing_at s n) paused

answered_if : (M : Machine) (s : Settings) (us : List (Update M)) (c : M.Choice) (k : ℕ) (o : Option (Update M)) → is_paused_in (option_map (standing M s (committed M us) (suc k)) o) ≡ true
    → fits_question M (option_and_then (question_of M s (committed M us) (suc k)) o) c ≡ true → option_map (may_answer M s us c k) o ≡ Some true
answered_if M s us c k None paused fits = let never : false ≡ true = paused in absurd cc
answered_if M s us c k (Some u) paused fits =
    let asked : question_of M s (committed M us) (suc k) u ≡ M.question u.state = ap (λ b. if b then M.question u.state else None) paused in
    ap (λ b. Some b) (both_true (is_paused (standing M s (committed M us) (suc k) u)) (fits_question M (M.question u.state) c) paused (ap (λ q. fits_question M q c) (sym asked) ∙ fits))

module _ {R : List RelationSchema} (g : Ground) (v : Kept) (rs : List QueuedUpdate) (es : List Entry) (s : State) (kept : IsKept g v rs (map entry_of es)) (same : record { over = g; history = map entry_of es; relations = R } ≡ s) (n : ℕ) (paused : is_paused_in (standing_at s n) ≡ true) (i : ℕ) (e : suc i ≡ n) (qs : List QueuedUpdate) (slice : qs ≡ rs) where
  pub paused_within : i < length qs
  paused_within =
      let x = stood (standing_at s n) paused in
      subst (λ (xs : List QueuedUpdate). i < length xs) (sym slice) (placed_within g v rs (map entry_of es) s kept same n x.0 x.1 i (sym e))

  pub paused_numbers : AreFrom 1 qs
  paused_numbers = subst (λ (xs : List QueuedUpdate). AreFrom 1 xs) (sym slice) kept.numbers

  pub core_answers : (qs' : List QueuedUpdate) (es' : List Entry) (c : Choice) → fits_at s n c ≡ true → AnswersTo g.settings i c qs es qs' es' → Follows g (Answers n c) (map entry_of es) v qs' (map entry_of es')
  core_answers qs' es' c fits answers =
      let us : List (Update (machine g)) = updates_of g.rules g.budget rs in
      let paused_here : is_paused_in (option_map (standing (machine g) g.settings (committed (machine g) us) (suc i)) (slice_get us i)) ≡ true =
      ap (λ m. is_paused_in (option_map (standing (machine g) g.settings (committed (machine g) us) m) (numbered_at us m))) e
      ∙ sym (ap (λ (ws : List (Update (machine g))). is_paused_in (option_map (standing (machine g) g.settings (committed (machine g) ws) n) (numbered_at ws n))) kept.left.leaves)
      ∙ ap (λ (t : State). is_paused_in (standing_at t n)) same ∙ paused in
      let fits_here : fits_question (machine g) (option_and_then (question_of (machine g) g.settings (committed (machine g) us) (suc i)) (slice_get us i)) c ≡ true =
      ap (λ m. fits_question (machine g) (option_and_then (question_of (machine g) g.settings (committed (machine g) us) m) (numbered_at us m)) c) e
      ∙ sym (ap (λ (ws : List (Update (machine g))). fits_question (machine g) (option_and_then (question_of (machine g) g.settings (committed (machine g) ws) n) (numbered_at ws n)) c) kept.left.leaves)
      ∙ ap (λ (t : State). fits_at t n c) same ∙ fits in
      let may : option_map (may_answer (machine g) g.settings us c i) (slice_get us i) ≡ Some true = answered_if (machine g) g.settings us c i (slice_get us i) paused_here fits_here in
      let made : Follows g (Answers (suc i) c) (map entry_of es) v qs' (map entry_of es') =
      subst (λ (xs : List QueuedUpdate). AnswersTo g.settings i c xs es qs' es') slice answers g.rules v g.budget g.base g.requests g.later kept may in
      subst (λ (m : ℕ). Follows g (Answers m c) (map entry_of es) v qs' (map entry_of es')) e made
