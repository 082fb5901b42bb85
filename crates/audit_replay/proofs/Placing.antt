-- What is put at the place of an event's update, and what is told of it.
use Rattle.std.proofs.Common.{◌≡◌, ◌∙◌, ap, sym, subst, ℕ, suc, ◌<◌, ◌+◌, List, ◌∷◌, ◌++◌, map, take, drop, length, get_or, arith}
use Rattle.std.specs.Prelude.{Some, slice_get, option_map}
use Rattle.std.proofs.Math.ListN.{set}
use Rattle.std.proofs.lemmas.List.{map-set}
use Rattle.std.proofs.lemmas.Option.{same_Some, slice_get-map}
use Rattle.base_types.specs.Listed.{Listed}
use Rattle.base_types.specs.Meanings.{change_of, choice_of}
use Rattle.base_types.specs.declared.updates.Choice.{Choice}
use Rattle.base_types.specs.declared.updates.Write.{Write}
use Rattle.core_entries.specs.Meanings.{cause_of}
use Rattle.core_entries.specs.declared.causes.Cause.{Cause as CauseOfProgram}
use Rattle.core_entries.specs.declared.entries.Entry.TheVariants.{Answered, Delivered, Stepped, Withdrawn}
use Rattle.core_entries.specs.declared.standings.Standing.{Standing}
use Rattle.def_history.specs.PlainEntries.{WasAnswered, WasDelivered, WasStepped, WasWithdrawn}
use Rattle.def_machine.specs.Effects.{answered, delivered, withdrawn_now}
use Rattle.def_machine.specs.Standings.{standing}
use Rattle.def_machine.specs.Steps.{stepped}
use Rattle.def_machine.specs.Updates.{Settings, Update, committed}
use Rattle.def_chase.specs.Mappings.{Rule}
use Rattle.chase_plan.specs.declared.plans.Plan.{Plan}
use Rattle.def_steps.specs.Chase.{caused_chase}
use Rattle.audit_updates.specs.Events.{HasAnswered, HasDelivered, HasStepped, HasWithdrawn, KeepsPlaceBy}
use Rattle.audit_updates.specs.Programs.{IsPlanOf}
use Rattle.audit_updates.specs.Updates.{AreFrom, update_of, updates_of}
use Rattle.audit_updates.specs.Standings.{HasStanding}
use Rattle.audit_updates.specs.Order.{HasCommitted}
use Rattle.audit_updates.specs.declared.updates.AuditedUpdate.{AuditedUpdate}
use Rattle.audit_replay.specs.Replays.{HasStandingAt}
use Rattle.audit_replay.specs.Restarts.{HaveRestarted}
use Rattle.audit_replay.specs.Steps.{AtPlace, IsAnswered, IsDelivered, IsPlanSomewhere, IsStepMade, IsRemoved, TellsStep, TellsWithdrawal}
use Rattle.audit_replay.proofs.Restarting.{there_is, put_with, restarted_after, set_is, set_long, set_there, stands_placed, within}

-- After the step of a plan the audited updates stand where they stood.
pub numbers_stepped : (rs : List AuditedUpdate) (k : ℕ) (r v : AuditedUpdate) (plan : Plan) → AreFrom 1 rs → k < length rs → r ≡ get_or rs k r → AtPlace k rs (IsPlanSomewhere plan) → KeepsPlaceBy plan (get_or rs k r) v → AreFrom 1 (set rs k v)
numbers_stepped rs k r v plan a l e planned keeps =
    let is : IsPlanSomewhere plan (get_or rs k r) = subst (IsPlanSomewhere plan) e (planned r (there_is rs k r l e)) in
    put_with rs k r v a l e (λ n s. keeps is.rules is.budget is.below n is.planned s)

pub step_made : (rs rs' : List AuditedUpdate) (k : ℕ) (r v : AuditedUpdate) (plan : Plan) (causes : List CauseOfProgram) → k < length rs → r ≡ get_or rs k r → HasStepped plan (get_or rs k r) v → HaveRestarted (k + 1) causes (set rs k v) rs' → IsStepMade k plan causes rs rs'
step_made rs rs' k r v plan causes l e steps restarts ms B D q spot is =
    let there : get_or rs k r ≡ q = sym e ∙ same_Some r q (sym (there_is rs k r l e) ∙ spot) in
    restarted_after rs rs' k causes q v ms B (stepped (caused_chase ms B) D (update_of ms B q)) spot
    (steps ms B D (subst (λ (p : AuditedUpdate). IsPlanOf ms B D p plan) (sym there) is) ∙ ap (λ (p : AuditedUpdate). stepped (caused_chase ms B) D (update_of ms B p)) there) restarts

pub removal_made : (rs rs' : List AuditedUpdate) (k : ℕ) (r v : AuditedUpdate) (causes : List CauseOfProgram) → k < length rs → r ≡ get_or rs k r → HasWithdrawn (get_or rs k r) v → HaveRestarted (k + 1) causes (set rs k v) rs' → IsRemoved k causes rs rs'
removal_made rs rs' k r v causes l e removes restarts ms B q spot =
    let there : get_or rs k r ≡ q = sym e ∙ same_Some r q (sym (there_is rs k r l e) ∙ spot) in
    restarted_after rs rs' k causes q v ms B (withdrawn_now (caused_chase ms B) (update_of ms B q)) spot (removes ms B ∙ ap (λ (p : AuditedUpdate). withdrawn_now (caused_chase ms B) (update_of ms B p)) there) restarts

-- ---- what is told

-- The standing of the update at the place.
pub standing_placed : (s : Settings) (rs : List AuditedUpdate) (k n c : ℕ) (r : AuditedUpdate) (st : Standing) → AreFrom 1 rs → k < length rs → r ≡ get_or rs k r → n ≡ r.program.attempt.number → HasCommitted rs c → HasStanding s c n r st → HasStandingAt s rs k st
standing_placed s rs k n c r st a l e number counts stands ms B q spot =
    let same : r ≡ q = same_Some r q (sym (there_is rs k r l e) ∙ spot) in
    let is : n ≡ suc k = number ∙ (stands_placed rs k r a l e).number in
    stands ms B ∙ (λ i. standing (caused_chase ms B) s (counts ms B i) (is i) (update_of ms B (same i)))

pub step_told : (s : Settings) (k n a c : ℕ) (writes : Listed Write) (causes : Listed CauseOfProgram) (rs : List AuditedUpdate) (r : AuditedUpdate) (st : Standing) → AreFrom 1 rs → k < length rs → r ≡ get_or rs k r → n ≡ r.program.attempt.number → HasCommitted rs c → HasStandingAt s rs k st
    → TellsStep s k a writes causes rs (Stepped n a st writes causes c)
step_told s k n a c writes causes rs r st from l e number counts stands ms B q spot =
    let is : n ≡ suc k = number ∙ (stands_placed rs k r from l e).number in
    λ i. WasStepped (record { update = is i; attempt = a; standing = stands ms B q spot i; writes = map change_of writes.items; causes = map cause_of causes.items; committed = counts ms B i })

pub withdrawal_told : (k n c : ℕ) (causes : Listed CauseOfProgram) (rs : List AuditedUpdate) (r : AuditedUpdate) → AreFrom 1 rs → k < length rs → r ≡ get_or rs k r → n ≡ r.program.attempt.number → HasCommitted rs c → TellsWithdrawal k causes rs (Withdrawn n causes c)
withdrawal_told k n c causes rs r from l e number counts ms B =
    let is : n ≡ suc k = number ∙ (stands_placed rs k r from l e).number in
    λ i. WasWithdrawn (record { update = is i; causes = map cause_of causes.items; committed = counts ms B i })

-- ---- deliveries and answers

put_is : (ms : List Rule) (B : ℕ) (rs : List AuditedUpdate) (k : ℕ) (q v : AuditedUpdate) (w : Update (caused_chase ms B)) → slice_get rs k ≡ Some q → update_of ms B v ≡ w → updates_of ms B (set rs k v) ≡ take k (updates_of ms B rs) ++ w ∷ drop (suc k) (updates_of ms B rs)
put_is ms B rs k q v w spot made =
    let at_us : slice_get (updates_of ms B rs) k ≡ Some (update_of ms B q) = slice_get-map (update_of ms B) rs k ∙ ap (option_map (update_of ms B)) spot in
    map-set (update_of ms B) rs k v ∙ ap (λ u. set (updates_of ms B rs) k u) made ∙ set_is (updates_of ms B rs) k w (within (updates_of ms B rs) k (update_of ms B q) at_us)

pub delivered_there : (s : Settings) (rs : List AuditedUpdate) (k : ℕ) (r v : AuditedUpdate) (n : ℕ) (x : AuditedUpdate) (st : Standing) → k < length rs → r ≡ get_or rs k r → AreFrom 1 (set rs k v) → x ≡ get_or (set rs k v) k x → n ≡ x.program.attempt.number → HasDelivered (get_or rs k r) v → HasStandingAt s (set rs k v) k st
    → IsDelivered s k rs (set rs k v) (Delivered n st)
delivered_there s rs k r v n x st l e numbers f number made stands ms B q spot =
    let there : get_or rs k r ≡ q = sym e ∙ same_Some r q (sym (there_is rs k r l e) ∙ spot) in
    let is : update_of ms B v ≡ delivered (caused_chase ms B) (update_of ms B q) = made ms B ∙ ap (λ (p : AuditedUpdate). delivered (caused_chase ms B) (update_of ms B p)) there in
    let at : n ≡ suc k = number ∙ (stands_placed (set rs k v) k x numbers (omega (arith, set_long rs k v, l)) f).number in (
      put_is ms B rs k q v (delivered (caused_chase ms B) (update_of ms B q)) spot is,
      (λ i. WasDelivered (record { update = at i; standing = stands ms B v (set_there rs k v l) i }))
          ∙ (λ i. WasDelivered (record { update = suc k; standing = standing (caused_chase ms B) s (committed (caused_chase ms B) (updates_of ms B (set rs k v))) (suc k) (is i) })),
    )

pub answered_there : (s : Settings) (rs : List AuditedUpdate) (k : ℕ) (a copy : Choice) (r v : AuditedUpdate) (n : ℕ) (x : AuditedUpdate) (st : Standing) → k < length rs → r ≡ get_or rs k r → AreFrom 1 (set rs k v) → x ≡ get_or (set rs k v) k x → n ≡ x.program.attempt.number
    → choice_of copy ≡ choice_of a → HasAnswered copy (get_or rs k r) v → HasStandingAt s (set rs k v) k st → IsAnswered s k (choice_of a) rs (set rs k v) (Answered n a st)
answered_there s rs k a copy r v n x st l e numbers f number same made stands ms B q spot =
    let there : get_or rs k r ≡ q = sym e ∙ same_Some r q (sym (there_is rs k r l e) ∙ spot) in
    let is : update_of ms B v ≡ answered (caused_chase ms B) (update_of ms B q) (choice_of a) = made ms B ∙ (λ i. answered (caused_chase ms B) (update_of ms B (there i)) (same i)) in
    let at : n ≡ suc k = number ∙ (stands_placed (set rs k v) k x numbers (omega (arith, set_long rs k v, l)) f).number in (
      put_is ms B rs k q v (answered (caused_chase ms B) (update_of ms B q) (choice_of a)) spot is,
      (λ i. WasAnswered (record { update = at i; choice = choice_of a; standing = stands ms B v (set_there rs k v l) i }))
          ∙ (λ i. WasAnswered (record { update = suc k; choice = choice_of a; standing = standing (caused_chase ms B) s (committed (caused_chase ms B) (updates_of ms B (set rs k v))) (suc k) (is i) })),
    )
