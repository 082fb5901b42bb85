-- What is told of a core is told of the updates that its history left.
use Rattle.std.proofs.Common.{◌≡◌, ◌∙◌, ap, refl, sym, subst, ℕ, zero, suc, ◌<◌, ◌+◌, Bool, false, not, Option, Some, None, List, [], ◌∷◌, map, length, get_or, arith}
use Rattle.std.proofs.Math.ListN.{set}
use Rattle.std.specs.Prelude.{option_map, option_and_then, unwrap_or, slice_get}
use Rattle.std.proofs.lemmas.Option.{none-some, same_Some, slice_get-map}
use Rattle.base_types.specs.Meanings.{choice_of}
use Rattle.core_entries.specs.Meanings.{standing_of}
use Rattle.core_entries.specs.declared.standings.Standing.{Standing as StandingOfProgram}
use Rattle.chase_question.specs.Inquiries.{Inquiry, inquiry_in}
use Rattle.def_history.specs.Cores.{Ground, IsLegalOver}
use Rattle.def_history.specs.CoreLaws.{Leave}
use Rattle.def_history.specs.PlainEntries.{PlainEntry}
use Rattle.def_machine.specs.Standings as standings
use Rattle.def_machine.specs.Standings.{Standing, standing, question_of, is_nil}
use Rattle.def_machine.specs.Updates.{Settings, Update, committed}
use Rattle.chase_update.specs.Courses.{State as ProgramState}
use Rattle.core_queue.specs.Programs.{IsBetween}
use Rattle.core_queue.specs.Queues.{update_of, updates_of, AreFrom}
use Rattle.core_queue.specs.Updates.{HasStanding, HasQuestion}
use Rattle.core_queue.specs.Order.{HasCommitted, IsLowestReady, IsLowestDeliverable, IsLowestBesides, IsNextDeliverable, IsQuiet, only}
use Rattle.core_queue.specs.declared.updates.QueuedUpdate.{QueuedUpdate}
use Rattle.def_steps.specs.Chase.{caused_chase}
use Rattle.def_language.specs.Sessions.{RelationSchema}
use Rattle.core_engine.specs.States.{State, updates_at, numbered_at, committed_at, standing_at, question_at, has_waiting, lowest_ready_at, lowest_ready_besides_of, lowest_ready_besides_at, lowest_deliverable_at, next_deliverable_at, is_quiet_at}
use Rattle.core_engine.specs.Told.{HasStandingAt, HasQuestionAt, HasWaitingAt}
use Rattle.core_engine.proofs.Following.{there, stands_at, mapped_long}

-- ---- queued updates at places

pub there_is : (rs : List QueuedUpdate) (k : ℕ) (r : QueuedUpdate) → k < length rs → r ≡ get_or rs k r → slice_get rs k ≡ Some r
there_is rs k r l e = there rs k r l (sym e)

set_back : (rs : List QueuedUpdate) (k : ℕ) (r r' : QueuedUpdate) → slice_get rs k ≡ Some r → r' ≡ r → set rs k r' ≡ rs
set_back [] k r r' spot e = refl
set_back (q ∷ rs) zero r r' spot e = ap (λ p. p ∷ rs) (e ∙ sym (same_Some q r spot))
set_back (q ∷ rs) (suc k) r r' spot e = ap (λ ps. q ∷ ps) (set_back rs k r r' spot e)

-- A queued update is put back with the same attempt.
pub put_back : (rs : List QueuedUpdate) (k : ℕ) (r : QueuedUpdate) (p : ProgramState) → slice_get rs k ≡ Some r → p ≡ r.program
    → set rs k (record { program = p; log = r.log; withdrawn = r.withdrawn; answers = r.answers; inbox = r.inbox; footprint = r.footprint }) ≡ rs
put_back rs k r p spot e =
    set_back rs k r (record { program = p; log = r.log; withdrawn = r.withdrawn; answers = r.answers; inbox = r.inbox; footprint = r.footprint }) spot
    (λ i. record { program = e i; log = r.log; withdrawn = r.withdrawn; answers = r.answers; inbox = r.inbox; footprint = r.footprint })

-- The queued updates are the same where the attempt of one was lent, and is as it was.
pub lent_back : (rs : List QueuedUpdate) (k : ℕ) (r : QueuedUpdate) (p : ProgramState) → k < length rs → r ≡ get_or rs k r → p ≡ (get_or rs k r).program
    → set rs k (record { program = p; log = (get_or rs k r).log; withdrawn = (get_or rs k r).withdrawn; answers = (get_or rs k r).answers; inbox = (get_or rs k r).inbox; footprint = (get_or rs k r).footprint }) ≡ rs
lent_back rs k r p l e stays = put_back rs k (get_or rs k r) p (there_is rs k r l e ∙ ap (λ q. Some q) e) stays

-- What then stands at the place stood there.
pub lent_there : (rs : List QueuedUpdate) (k : ℕ) (r : QueuedUpdate) (p : ProgramState) (q : QueuedUpdate) → k < length rs → r ≡ get_or rs k r → p ≡ (get_or rs k r).program
    → q ≡ get_or (set rs k (record { program = p; log = (get_or rs k r).log; withdrawn = (get_or rs k r).withdrawn; answers = (get_or rs k r).answers; inbox = (get_or rs k r).inbox; footprint = (get_or rs k r).footprint })) k q
    → slice_get rs k ≡ Some (get_or (set rs k (record { program = p; log = (get_or rs k r).log; withdrawn = (get_or rs k r).withdrawn; answers = (get_or rs k r).answers; inbox = (get_or rs k r).inbox; footprint = (get_or rs k r).footprint })) k q)
lent_there rs k r p q l e stays f = there_is rs k q l (f ∙ ap (λ ps. get_or ps k q) (lent_back rs k r p l e stays)) ∙ ap (λ o. Some o) f

pub between_there : (rs : List QueuedUpdate) (k : ℕ) (r : QueuedUpdate) → AreFrom 1 rs → k < length rs → r ≡ get_or rs k r → IsBetween r.program
between_there rs k r a l e = (stands_at rs 1 k r a (there_is rs k r l e)).between

pub number_there : (rs : List QueuedUpdate) (k : ℕ) (r : QueuedUpdate) → AreFrom 1 rs → k < length rs → r ≡ get_or rs k r → r.program.attempt.number ≡ suc k
number_there rs k r a l e = let same : 1 + k ≡ suc k = omega arith in (stands_at rs 1 k r a (there_is rs k r l e)).number ∙ same

pub between_at : (rs : List QueuedUpdate) (n : ℕ) (r : QueuedUpdate) → AreFrom 1 rs → numbered_at rs n ≡ Some r → IsBetween r.program
between_at rs zero r a e = absurd (none-some r e)
between_at rs (suc k) r a e = (stands_at rs 1 k r a e).between

numbered_map : {A B : Type 0} (f : A → B) (xs : List A) (n : ℕ) → numbered_at (map f xs) n ≡ option_map f (numbered_at xs n)
numbered_map f xs zero = refl
numbered_map f xs (suc k) = slice_get-map f xs k

-- ---- one update

pub standing_is : (s : Settings) (rs : List QueuedUpdate) (n c : ℕ) (r : QueuedUpdate) (st : StandingOfProgram) → numbered_at rs n ≡ Some r → HasCommitted rs c → HasStanding s c n r st → HasStandingAt s rs n (Some (standing_of st))
standing_is s rs n c r st e counts stands ms B =
    ap (λ (x : Standing). Some x) (stands ms B ∙ ap (λ d. standing (caused_chase ms B) s d n (update_of ms B r)) (counts ms B))
    ∙ sym (ap (option_map (standing (caused_chase ms B) s (committed (caused_chase ms B) (updates_of ms B rs)) n)) (numbered_map (update_of ms B) rs n ∙ ap (option_map (update_of ms B)) e))

pub no_standing : (s : Settings) (rs : List QueuedUpdate) (n : ℕ) → numbered_at rs n ≡ None → HasStandingAt s rs n None
no_standing s rs n e ms B =
    sym (ap (option_map (standing (caused_chase ms B) s (committed (caused_chase ms B) (updates_of ms B rs)) n)) (numbered_map (update_of ms B) rs n ∙ ap (option_map (update_of ms B)) e))

pub question_is : (s : Settings) (rs : List QueuedUpdate) (n c : ℕ) (r : QueuedUpdate) (q : Option Inquiry) → numbered_at rs n ≡ Some r → HasCommitted rs c → HasQuestion s c n r q → HasQuestionAt s rs n q
question_is s rs n c r q e counts asks ms B =
    asks ms B ∙ ap (λ d. option_map inquiry_in (question_of (caused_chase ms B) s d n (update_of ms B r))) (counts ms B)
    ∙ sym (ap (λ o. option_map inquiry_in (option_and_then (question_of (caused_chase ms B) s (committed (caused_chase ms B) (updates_of ms B rs)) n) o)) (numbered_map (update_of ms B) rs n ∙ ap (option_map (update_of ms B)) e))

pub no_question : (s : Settings) (rs : List QueuedUpdate) (n : ℕ) → numbered_at rs n ≡ None → HasQuestionAt s rs n None
no_question s rs n e ms B =
    sym (ap (λ o. option_map inquiry_in (option_and_then (question_of (caused_chase ms B) s (committed (caused_chase ms B) (updates_of ms B rs)) n) o)) (numbered_map (update_of ms B) rs n ∙ ap (option_map (update_of ms B)) e))

nil_map : {A B : Type 0} (f : A → B) (xs : List A) → is_nil (map f xs) ≡ is_nil xs
nil_map f [] = refl
nil_map f (x ∷ xs) = refl

pub waiting_is : (rs : List QueuedUpdate) (n : ℕ) (r : QueuedUpdate) (b : Bool) → numbered_at rs n ≡ Some r → b ≡ not (is_nil r.inbox.items) → HasWaitingAt rs n b
waiting_is rs n r b e is ms B =
    is ∙ sym (ap not (nil_map choice_of r.inbox.items))
    ∙ sym (ap (λ o. unwrap_or (option_map (λ (u : Update (caused_chase ms B)). not (is_nil u.inbox)) o) false) (numbered_map (update_of ms B) rs n ∙ ap (option_map (update_of ms B)) e))

pub none_waits : (rs : List QueuedUpdate) (n : ℕ) → numbered_at rs n ≡ None → HasWaitingAt rs n false
none_waits rs n e ms B =
    sym (ap (λ o. unwrap_or (option_map (λ (u : Update (caused_chase ms B)). not (is_nil u.inbox)) o) false) (numbered_map (update_of ms B) rs n ∙ ap (option_map (update_of ms B)) e))

-- ---- a core

module _ {R : List RelationSchema} (g : Ground) (H : List PlainEntry) (rs : List QueuedUpdate) (s : State) (left : Leave g H (updates_of g.rules g.budget rs)) (same : record { over = g; history = H; relations = R } ≡ s) where
  pub count_told : length rs ≡ length (updates_at s)
  count_told = sym (mapped_long (update_of g.rules g.budget) rs) ∙ sym (ap (λ us. length us) left.leaves) ∙ ap (λ t. length (updates_at t)) same

  pub committed_told : (c : ℕ) → HasCommitted rs c → c ≡ committed_at s
  committed_told c h = h g.rules g.budget ∙ sym (ap (committed (caused_chase g.rules g.budget)) left.leaves) ∙ ap committed_at same

  pub standing_told : (n : ℕ) (o : Option Standing) → HasStandingAt g.settings rs n o → o ≡ standing_at s n
  standing_told n o h =
      h g.rules g.budget
      ∙ sym (ap (λ (us : List (Update (caused_chase g.rules g.budget))). option_map (standing (caused_chase g.rules g.budget) g.settings (committed (caused_chase g.rules g.budget) us) n) (numbered_at us n)) left.leaves)
      ∙ ap (λ t. standing_at t n) same

  pub question_told : (n : ℕ) (q : Option Inquiry) → HasQuestionAt g.settings rs n q → q ≡ option_map inquiry_in (question_at s n)
  question_told n q h =
      h g.rules g.budget
      ∙ sym (ap (λ (us : List (Update (caused_chase g.rules g.budget))). option_map inquiry_in (option_and_then (question_of (caused_chase g.rules g.budget) g.settings (committed (caused_chase g.rules g.budget) us) n) (numbered_at us n))) left.leaves)
      ∙ ap (λ t. option_map inquiry_in (question_at t n)) same

  pub ready_told : (o : Option ℕ) → IsLowestReady g.settings rs o → o ≡ lowest_ready_at s
  ready_told o h = h g.rules g.budget ∙ sym (ap (standings.lowest_ready (caused_chase g.rules g.budget) g.settings) left.leaves) ∙ ap lowest_ready_at same

  pub deliverable_told : (o : Option ℕ) → IsLowestDeliverable g.settings rs o → o ≡ lowest_deliverable_at s
  deliverable_told o h = h g.rules g.budget ∙ sym (ap (standings.lowest_deliverable (caused_chase g.rules g.budget) g.settings) left.leaves) ∙ ap lowest_deliverable_at same

  pub next_told : (o : Option ℕ) → IsNextDeliverable g.settings rs o → o ≡ next_deliverable_at s
  next_told o h =
      h g.rules g.budget
      ∙ sym (ap (λ (us : List (Update (caused_chase g.rules g.budget))). only (suc (committed (caused_chase g.rules g.budget) us)) (standings.lowest_deliverable (caused_chase g.rules g.budget) g.settings us)) left.leaves)
      ∙ ap next_deliverable_at same

  pub besides_told : (ns : List ℕ) (o : Option ℕ) → IsLowestBesides ns g.settings rs o → o ≡ lowest_ready_besides_at s ns
  besides_told ns o h =
      h g.rules g.budget
      ∙ sym (ap (λ (us : List (Update (caused_chase g.rules g.budget))). lowest_ready_besides_of g us ns) left.leaves)
      ∙ ap (λ t. lowest_ready_besides_at t ns) same

  pub quiet_told : (b : Bool) → IsQuiet g.settings rs b → b ≡ is_quiet_at s
  quiet_told b h = h g.rules g.budget ∙ sym (ap (standings.is_quiet (caused_chase g.rules g.budget) g.settings) left.leaves) ∙ ap is_quiet_at same

  pub waiting_told : (n : ℕ) (b : Bool) → HasWaitingAt rs n b → b ≡ has_waiting s n
  waiting_told n b h =
      h g.rules g.budget
      ∙ sym (ap (λ (us : List (Update (caused_chase g.rules g.budget))). unwrap_or (option_map (λ u. not (is_nil u.inbox)) (numbered_at us n)) false) left.leaves)
      ∙ ap (λ t. has_waiting t n) same

  pub legal_told : IsLegalOver s.over s.history
  legal_told = subst (λ (t : State). IsLegalOver t.over t.history) same left.legal
