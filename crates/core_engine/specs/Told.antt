-- What a core says of one update of a queue, for the machine of any mappings and any budget.
use Rattle.std.specs.Prelude.{◌≡◌, ℕ, Bool, false, not, List, Option, option_map, option_and_then, unwrap_or}
use Rattle.chase_question.specs.Inquiries.{Inquiry, inquiry_in}
use Rattle.def_machine.specs.Standings.{Standing, standing, question_of, is_nil}
use Rattle.def_machine.specs.Updates.{Settings, committed}
use Rattle.def_chase.specs.Mappings.{Rule}
use Rattle.def_steps.specs.Chase.{caused_chase}
use Rattle.core_queue.specs.Queues.{updates_of}
use Rattle.core_queue.specs.declared.updates.QueuedUpdate.{QueuedUpdate}
use Rattle.core_engine.specs.States.{numbered_at}

-- This is what the update of number n may do next, if there is one.
abbrev pub HasStandingAt : Settings → List QueuedUpdate → ℕ → Option Standing → Type 0
HasStandingAt s rs n o =
    (ms : List Rule) (B : ℕ) → o ≡ option_map (standing (caused_chase ms B) s (committed (caused_chase ms B) (updates_of ms B rs)) n) (numbered_at (updates_of ms B rs) n)

-- This is the question that is put to people for the update of number n, if there is one.
abbrev pub HasQuestionAt : Settings → List QueuedUpdate → ℕ → Option Inquiry → Type 0
HasQuestionAt s rs n o =
    (ms : List Rule) (B : ℕ) → o ≡ option_map inquiry_in (option_and_then (question_of (caused_chase ms B) s (committed (caused_chase ms B) (updates_of ms B rs)) n) (numbered_at (updates_of ms B rs) n))

-- Whether an answer waits for the update of number n.
abbrev pub HasWaitingAt : List QueuedUpdate → ℕ → Bool → Type 0
HasWaitingAt rs n b =
    (ms : List Rule) (B : ℕ) → b ≡ unwrap_or (option_map (λ u. not (is_nil u.inbox)) (numbered_at (updates_of ms B rs) n)) false
