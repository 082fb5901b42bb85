-- What is prepared of a step or a withdrawal at a place.
use Rattle.std.proofs.Common.{◌≡◌, ◌∙◌, ap, sym, subst, ℕ, suc, ◌<◌, List, [], map, drop, length, get_or}
use Rattle.std.proofs.lemmas.Option.{same_Some}
use Rattle.base_types.specs.Listed.{Listed}
use Rattle.base_types.specs.Meanings.{change_of}
use Rattle.base_types.specs.declared.updates.Write.{Write}
use Rattle.core_entries.specs.declared.causes.Cause.{Cause as CauseOfProgram}
use Rattle.def_machine.specs.Updates.{Deps}
use Rattle.def_chase.specs.Mappings.{Rule}
use Rattle.def_chase.specs.Repository.{Change}
use Rattle.def_chase.specs.Values.{Fact}
use Rattle.chase_plan.specs.declared.plans.Plan.{Plan}
use Rattle.chase_update.specs.Courses.{State}
use Rattle.audit_updates.specs.Programs.{HasWritten, IsBetween, IsPlanOf}
use Rattle.audit_updates.specs.Updates.{AreFrom}
use Rattle.audit_updates.specs.Standings.{HasTrail}
use Rattle.audit_updates.specs.declared.updates.AuditedUpdate.{AuditedUpdate}
use Rattle.audit_replay.specs.Causes.{AreOfLoss}
use Rattle.audit_replay.specs.Places.{AreBetween, trail_of}
use Rattle.audit_replay.specs.Prepared.{IsPreparedFor}
use Rattle.audit_replay.specs.Steps.{AreOfStep, AtPlace}
use Rattle.audit_replay.proofs.Restarting.{above_numbers, all_between, stands_placed, there_is}

-- A plan stands between two steps.
pub plan_between : (ms : List Rule) (B : ℕ) (D : List Fact) (r : AuditedUpdate) (plan : Plan) → IsPlanOf ms B D r plan → IsBetween plan.program
plan_between ms B D r plan p = ap (λ (s : State). s.reading) p.program

pub above_between : (rs up : List AuditedUpdate) (k : ℕ) (r : AuditedUpdate) → AreFrom 1 rs → k < length rs → r ≡ get_or rs k r → up ≡ drop (suc k) rs → AreBetween up
above_between rs up k r a l e u = all_between (suc r.program.attempt.number) up (above_numbers rs up k r a l e u)

-- Copies of what the step shows say the same.
pub written_copies : (r : AuditedUpdate) (plan : Plan) (ws vs : List Write) → map change_of vs ≡ map change_of ws → HasWritten r plan ws → HasWritten r plan vs
written_copies r plan ws vs same written ms B D p = same ∙ written ms B D p

-- What was prepared for the audited update at the place.
pub prepared_there : (ms : List Rule) (B : ℕ) (deps : Deps) (c : ℕ) (rs up : List AuditedUpdate) (k : ℕ) (r : AuditedUpdate) (D : List Fact) (plan : Plan) (causes : Listed CauseOfProgram) (writes : Listed Write) (attempt : ℕ) → k < length rs → r ≡ get_or rs k r → up ≡ drop (suc k) rs
    → IsPlanOf ms B D r plan → AreOfStep ms deps c r plan D up causes.items → HasWritten r plan writes.items → attempt ≡ r.program.attempt.attempt
    → AtPlace k rs (λ q. IsPreparedFor ms B deps c q D (drop (suc k) rs) (record { plan = plan; attempt = attempt; writes = writes; causes = causes }))
prepared_there ms B deps c rs up k r D plan causes writes attempt l e u planned are written is q spot =
    subst (λ (x : AuditedUpdate). IsPreparedFor ms B deps c x D (drop (suc k) rs) (record { plan = plan; attempt = attempt; writes = writes; causes = causes })) (same_Some r q (sym (there_is rs k r l e) ∙ spot))
    (record { planned = planned; causes = subst (λ (qs : List AuditedUpdate). AreOfStep ms deps c r plan D qs causes.items) u are; written = written; attempt = is })

-- The causes of the loss of its trail.
pub loss_there : (ms : List Rule) (deps : Deps) (c n : ℕ) (rs up : List AuditedUpdate) (k : ℕ) (r : AuditedUpdate) (D : List Fact) (ws : List Write) (causes : List CauseOfProgram) → AreFrom 1 rs → k < length rs → r ≡ get_or rs k r → up ≡ drop (suc k) rs → n ≡ r.program.attempt.number → HasTrail r ws
    → AreOfLoss ms deps c n (map change_of ws) D up causes → AtPlace k rs (λ q. AreOfLoss ms deps c (suc k) (trail_of q) D (drop (suc k) rs) causes)
loss_there ms deps c n rs up k r D ws causes a l e u number trail_is are q spot =
    let at : n ≡ suc k = number ∙ (stands_placed rs k r a l e).number in
    subst (λ (x : AuditedUpdate). AreOfLoss ms deps c (suc k) (trail_of x) D (drop (suc k) rs) causes) (same_Some r q (sym (there_is rs k r l e) ∙ spot))
    (subst (λ (vs : List Change). AreOfLoss ms deps c (suc k) vs D (drop (suc k) rs) causes) (trail_is [] 0)
    (subst (λ (m : ℕ). AreOfLoss ms deps c m (map change_of ws) D (drop (suc k) rs) causes) at (subst (λ (qs : List AuditedUpdate). AreOfLoss ms deps c n (map change_of ws) D qs causes) u are)))
