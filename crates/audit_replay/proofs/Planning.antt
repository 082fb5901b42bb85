-- The plan of the next step of an audited update.
use Rattle.std.proofs.Common.{◌≡◌, ◌∙◌, ap, refl, ℕ, zero, suc, slice_index_or, replicate, Bool, false, Option, List}
use Rattle.std.specs.Prelude.{IfOk, Result, Ok, Err}
use Rattle.std.proofs.lemmas.Bool.{both_ways}
use Rattle.def_chase.specs.Mappings.{Rule}
use Rattle.def_chase.specs.Updates.{Choice}
use Rattle.def_chase.specs.Values.{Fact}
use Rattle.chase_plan.specs.Planned.{HasSettled, WantsStep, at_rest, next_attempt, next_reads}
use Rattle.chase_plan.specs.declared.plans.Plan.{Plan}
use Rattle.chase_update.specs.Wishes.{wish}
use Rattle.chase_query.specs.Meanings.{reads_in}
use Rattle.def_steps.specs.Attempts.{Attempt}
use Rattle.audit_updates.specs.Programs.{HasNext, IsPlanOf}
use Rattle.audit_updates.specs.Wants.{WantsNext}
use Rattle.audit_updates.specs.declared.updates.AuditedUpdate.{AuditedUpdate}
use Rattle.audit_replay.specs.Steps.{IsReadySomewhere}

-- A ready update wants its next step with its next answer.
pub wants_step : (r : AuditedUpdate) (a : Option Choice) → IsReadySomewhere r → WantsNext r a → WantsStep (wish r.program) a
wants_step r a f wants = wants f.rules f.budget f.settings f.committed f.number f.ready

none_marked : (n m : ℕ) → slice_index_or (replicate n false) m false ≡ false
none_marked zero m = refl
none_marked (suc n) zero = refl
none_marked (suc n) (suc m) = none_marked n m

-- Without a mark nothing is said.
pub nothing_settled : (k : ℕ) (ms : List Rule) (D : List Fact) (P : Attempt) (marks : List Bool) → marks ≡ replicate k false → HasSettled ms D P marks
nothing_settled k ms D P marks e m h = absurd (both_ways (slice_index_or marks m false) (ap (λ (bs : List Bool). slice_index_or bs m false) e ∙ none_marked k m) h)

-- What was planned over such a set is the plan over that of the uppermost level.
pub planned_is : (ms : List Rule) (B : ℕ) (D E : List Fact) (r : AuditedUpdate) (plan : Plan) (a : Option Choice) → D ≡ E → HasNext r a → plan.program ≡ at_rest (next_attempt ms B D r.program.attempt a)
    → reads_in plan.reads.items ≡ next_reads ms D r.program.attempt a → IsPlanOf ms B E r plan
planned_is ms B D E r plan a e next p q = record {
  program = p ∙ (λ i. at_rest (next_attempt ms B (e i) r.program.attempt (next ms B i)));
  reads = q ∙ (λ i. next_reads ms (e i) r.program.attempt (next ms B i));
}

-- Where there is one.
pub planned_ok : {M : Type 0} (ms : List Rule) (B : ℕ) (D E : List Fact) (r : AuditedUpdate) (o : Result Plan M) (a : Option Choice) → D ≡ E → HasNext r a → IfOk o (λ plan. plan.program ≡ at_rest (next_attempt ms B D r.program.attempt a))
    → IfOk o (λ plan. reads_in plan.reads.items ≡ next_reads ms D r.program.attempt a) → IfOk o (IsPlanOf ms B E r)
planned_ok ms B D E r (Ok plan) a e next p q = planned_is ms B D E r plan a e next p q
planned_ok ms B D E r (Err m) a e next p q = tt
