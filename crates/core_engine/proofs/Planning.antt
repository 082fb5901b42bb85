-- What a snapshot of an update plans, and what is known of it.
use Rattle.std.proofs.Common.{◌≡◌, ◌∙◌, sym, subst, ℕ, suc, ◌<◌, ◌+◌, ◌^◌, Bool, Option, List}
use Rattle.def_chase.specs.Mappings.{Rule}
use Rattle.def_chase.specs.Repository.{apply}
use Rattle.def_chase.specs.Values.{Fact}
use Rattle.def_chase.specs.Updates.{Choice}
use Rattle.chase_plan.specs.Planned.{at_rest, HasSettled, WantsStep, next_attempt, next_reads}
use Rattle.chase_plan.specs.Settled.{AreValidOver}
use Rattle.chase_update.specs.Wishes.{wish}
use Rattle.core_queue.specs.Programs.{HasNext}
use Rattle.core_queue.specs.Wants.{WantsNext}
use Rattle.chase_query.specs.Meanings.{Read, reads_in}
use Rattle.def_steps.specs.Attempts.{Attempt}
use Rattle.chase_update.specs.Courses.{State as ProgramState}
use Rattle.core_queue.specs.declared.updates.QueuedUpdate.{QueuedUpdate}
use Rattle.set_versions.specs.Standing.{Kept, seen}
use Rattle.core_engine.specs.Planned.{PlanMeant}
use Rattle.core_engine.specs.Taken.{IsHeldBy, IsReadySomewhere, IsSnapshotOf}

pub planned_same : (ms : List Rule) (B : ℕ) (D D' : List Fact) (P : Attempt) (a a' : Option Choice) (n : ℕ) (program : ProgramState) (reads : List Read) → D ≡ D' → a ≡ a' → program ≡ at_rest (next_attempt ms B D P a) → reads ≡ next_reads ms D P a
    → ◌≡◌ {A = PlanMeant} (record { update = n; program = program; reads = reads }) (record { update = n; program = at_rest (next_attempt ms B D' P a'); reads = next_reads ms D' P a' })
planned_same ms B D D' P a a' n program reads d e p q =
    (λ i. record { update = n; program = p i; reads = q i }) ∙ (λ i. record { update = n; program = at_rest (next_attempt ms B (d i) P (e i)); reads = next_reads ms (d i) P (e i) })

pub can_step : (r : QueuedUpdate) (program : ProgramState) (a : Option Choice) → IsReadySomewhere r → WantsNext r a → program ≡ r.program → WantsStep (wish program) a
can_step r program a f wants e = subst (λ (p : ProgramState). WantsStep (wish p) a) (sym e) (wants f.rules f.budget f.settings f.committed f.number f.ready)

pub steps_left : (r : QueuedUpdate) (program : ProgramState) (B : ℕ) → program ≡ r.program → r.program.attempt.steps < B → program.attempt.steps < B
steps_left r program B e l = subst (λ (p : ProgramState). p.attempt.steps < B) (sym e) l

-- The versions that were shared have the writes of the attempt too.
pub stands_applied : (ms : List Rule) (v w : Kept) (r : QueuedUpdate) (n : ℕ) (program : ProgramState) → w ≡ v → n ≡ r.program.attempt.number → program ≡ r.program → IsHeldBy ms v r → seen (suc n) w ≡ apply (seen n w) program.attempt.own
stands_applied ms v w r n program versions number same held =
    (λ i. seen (suc (number i)) (versions i)) ∙ held.applied ∙ sym (λ i. apply (seen (number i) (versions i)) (same i).attempt.own)

-- Over what the update sees its writes have caused no violation of the settled mappings.
pub has_settled : (ms ks : List Rule) (v w : Kept) (r : QueuedUpdate) (n : ℕ) (program : ProgramState) (marks : List Bool) → ks ≡ ms → w ≡ v → n ≡ r.program.attempt.number → program ≡ r.program → IsHeldBy ms v r
    → ((D : List Fact) → AreValidOver ms D r.program.attempt (reads_in r.log.items) → HasSettled ms D r.program.attempt marks) → HasSettled ks (seen n w) program.attempt marks
has_settled ms ks v w r n program marks rules versions number same held tells =
    let here : HasSettled ms (seen r.program.attempt.number v) r.program.attempt marks = tells (seen r.program.attempt.number v) held.valid in
    subst (λ (l : List Rule). HasSettled l (seen n w) program.attempt marks) (sym rules)
    (subst (λ (u : Kept). HasSettled ms (seen n u) program.attempt marks) (sym versions)
    (subst (λ (m : ℕ). HasSettled ms (seen m v) program.attempt marks) (sym number)
    (subst (λ (p : ProgramState). HasSettled ms (seen r.program.attempt.number v) p.attempt marks) (sym same) here)))

pub number_few : (ms : List Rule) (v : Kept) (r : QueuedUpdate) (n : ℕ) → n ≡ r.program.attempt.number → IsHeldBy ms v r → n + 1 < 2 ^ 32
number_few ms v r n e held = subst (λ (m : ℕ). m + 1 < 2 ^ 32) (sym e) held.few

pub snapshot_taken : (ms ks : List Rule) (B : ℕ) (v w : Kept) (r : QueuedUpdate) (n : ℕ) (program : ProgramState) (a : Option Choice) → ks ≡ ms → w ≡ v → n ≡ r.program.attempt.number → program ≡ r.program → HasNext r a
    → IsSnapshotOf ms B v r (record { update = n; program = at_rest (next_attempt ks B (seen n w) program.attempt a); reads = next_reads ks (seen n w) program.attempt a })
snapshot_taken ms ks B v w r n program a rules versions number same next = record {
  update = number;
  program = λ i. at_rest (next_attempt (rules i) B (seen (number i) (versions i)) (same i).attempt (next ms B i));
  reads = λ i. next_reads (rules i) (seen (number i) (versions i)) (same i).attempt (next ms B i);
}
