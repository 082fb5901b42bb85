-- What an attempt shows, and how it ended, for the machine of any mappings and any budget.
use Rattle.std.specs.Prelude.{◌≡◌, ℕ, Bool, true, false, List, map, Option, Some, None}
use Rattle.std.specs.Option.{option_map}
use Rattle.base_types.specs.declared.updates.Write.{Write}
use Rattle.base_types.specs.Meanings.{change_of, choice_of}
use Rattle.def_machine.specs.Effects.{is_spent}
use Rattle.def_machine.specs.Steps.{step_writes}
use Rattle.def_machine.specs.Standings.{next_answer}
use Rattle.def_machine.specs.Updates.{shown}
use Rattle.def_chase.specs.Values.{Fact}
use Rattle.def_chase.specs.Mappings.{Rule}
use Rattle.def_chase.specs.Updates.{Choice}
use Rattle.chase_plan.specs.Planned.{at_rest, next_attempt, next_reads}
use Rattle.chase_plan.specs.declared.plans.Plan.{Plan}
use Rattle.chase_update.specs.Courses.{State}
use Rattle.chase_update.specs.Wishes.{End, IsDone, IsSpent, IsRefused, end_in, Wish, WishesReply, WishesChoice, WishesNothing, WishesStep}
use Rattle.chase_question.specs.Inquiries.{Inquiry, inquiry_in}
use Rattle.chase_query.specs.Meanings.{reads_in}
use Rattle.def_steps.specs.Attempts.{outcome_in, question_in}
use Rattle.def_steps.specs.Chase.{caused_chase, ending}
use Rattle.audit_updates.specs.Updates.{update_of}
use Rattle.audit_updates.specs.declared.updates.AuditedUpdate.{AuditedUpdate}

-- The attempt is between two steps.
abbrev pub IsBetween : State → Type 0
IsBetween s = s.reading ≡ None

-- How the attempt ended, if it did, as people see it.
abbrev pub HasEnded : State → Option End → Type 0
HasEnded s o = o ≡ option_map end_in (outcome_in s.attempt.phase)

-- What the attempt asks people, if it is at a question.
abbrev pub HasAsked : State → Option Inquiry → Type 0
HasAsked s i = i ≡ option_map inquiry_in (question_in s.attempt.phase)

-- How an attempt with this wish ended, if it did.
abbrev pub end_wished : Wish → Option End
end_wished (WishesReply q) = None
end_wished (WishesChoice i) = None
end_wished (WishesNothing e) = Some e
end_wished WishesStep = None

-- What an attempt with this wish asks, if it is at a question.
abbrev pub inquiry_wished : Wish → Option Inquiry
inquiry_wished (WishesReply q) = None
inquiry_wished (WishesChoice i) = Some i
inquiry_wished (WishesNothing e) = None
inquiry_wished WishesStep = None

-- The attempt ended because its budget was used up.
abbrev pub is_spent_end : Option End → Bool
is_spent_end None = false
is_spent_end (Some IsDone) = false
is_spent_end (Some IsSpent) = true
is_spent_end (Some (IsRefused u k)) = false

-- The attempt ended spent or refused.
abbrev pub hides_end : Option End → Bool
hides_end None = false
hides_end (Some IsDone) = false
hides_end (Some IsSpent) = true
hides_end (Some (IsRefused u k)) = true

-- Whether the attempt ended because its budget was used up.
abbrev pub HasSpent : State → Bool → Type 0
HasSpent s b = b ≡ is_spent (option_map ending (outcome_in s.attempt.phase))

-- The writes that the attempt shows.
abbrev pub HasShown : State → List Write → Type 0
HasShown s ws = (ms : List Rule) (B : ℕ) → map change_of ws ≡ shown (caused_chase ms B) s.attempt

-- The next answer for the audited update's attempt, which has one only at a question.
abbrev pub HasNext : AuditedUpdate → Option Choice → Type 0
HasNext r c = (ms : List Rule) (B : ℕ) → c ≡ next_answer (caused_chase ms B) (map choice_of r.answers.items) r.program.attempt

-- The plan is the one of the audited update's next step over D.
pub record IsPlanOf (ms : List Rule) (B : ℕ) (D : List Fact) (r : AuditedUpdate) (plan : Plan) : Type 0 where
  pub program : plan.program ≡ at_rest (next_attempt ms B D r.program.attempt (next_answer (caused_chase ms B) (map choice_of r.answers.items) r.program.attempt))
  pub reads : reads_in plan.reads.items ≡ next_reads ms D r.program.attempt (next_answer (caused_chase ms B) (map choice_of r.answers.items) r.program.attempt)

-- The writes that the step of the plan shows.
abbrev pub HasWritten : AuditedUpdate → Plan → List Write → Type 0
HasWritten r plan ws = (ms : List Rule) (B : ℕ) (D : List Fact) → IsPlanOf ms B D r plan → map change_of ws ≡ step_writes (caused_chase ms B) D (update_of ms B r)
