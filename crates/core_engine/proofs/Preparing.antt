-- What a step leaves, once it is prepared.
use Rattle.std.proofs.Common.{◌≡◌, ◌∙◌, ap, refl, sym, subst, ℕ, suc, ◌≤◌, Bool, true, false, Option, List, [], ◌∷◌, ◌++◌, map, length, drop}
use Rattle.std.specs.Prelude.{if◌then◌else◌, is_some, option_map}
use Rattle.std.specs.List.{flat_map}
use Rattle.base_types.specs.Meanings.{change_of}
use Rattle.base_types.specs.declared.updates.Write.{Write}
use Rattle.core_conflict.specs.Concerns.{AgreeBut}
use Rattle.core_conflict.specs.declared.concerns.Sense.TheVariants.{Came, Went}
use Rattle.core_conflict.proofs.Staying.{agree_alone, agree_back, agree_more}
use Rattle.core_entries.specs.Meanings.{cause_of}
use Rattle.core_entries.specs.declared.causes.Cause.{Cause as CauseOfProgram}
use Rattle.def_history.specs.PlainEntries.{cause_kept}
use Rattle.def_machine.specs.Machine.{Machine}
use Rattle.def_machine.specs.Cascade.{Cause, readers, restarted}
use Rattle.def_machine.specs.Effects.{is_spent, causes_of_loss, causes_of_writes, causes_of_step}
use Rattle.def_machine.specs.Runs.{AreRuns}
use Rattle.def_machine.specs.Settle.{settle, restart, conflicts_in, dependences_in}
use Rattle.def_machine.specs.Steps.{stepped, step_writes, next_move}
use Rattle.def_machine.specs.Updates.{Settings, Update, Deps, hides, trail}
use Rattle.def_machine.proofs.Standing.{ready_parts}
use Rattle.def_machine.proofs.Walks.{walk_law}
use Rattle.def_chase.specs.Mappings.{Rule}
use Rattle.def_chase.proofs.Sets.{apply_in_order}
use Rattle.def_chase.specs.Repository.{Change, IsRepository, apply}
use Rattle.def_chase.specs.Values.{Fact}
use Rattle.chase_plan.specs.declared.plans.Plan.{Plan}
use Rattle.chase_update.specs.Courses.{State}
use Rattle.core_queue.specs.Programs.{IsPlanOf, HasSpent, HasWritten}
use Rattle.core_queue.specs.Updates.{HasTrail}
use Rattle.core_queue.specs.Queues.{update_of, updates_of, AreFrom}
use Rattle.core_queue.specs.Renewals.{AreThere}
use Rattle.core_queue.specs.Order.{ReadsAtMost}
use Rattle.core_queue.specs.declared.updates.QueuedUpdate.{QueuedUpdate}
use Rattle.core_queue.proofs.Restarting.{restart_by, restart_is}
use Rattle.def_steps.proofs.Steady.{apply_join}
use Rattle.def_steps.specs.Attempts.{outcome_in}
use Rattle.def_steps.specs.Chase.{caused_chase, ending}
use Rattle.core_cascade.proofs.Turns.{none_read}
use Rattle.core_cascade.specs.Causes.{AreCausesOfWrites, AreCausesOfLoss}
use Rattle.core_cascade.specs.Held.{AreVersions, laid, above}
use Rattle.core_cascade.specs.Meanings.{Above, all_found, found_for}
use Rattle.set_versions.specs.Standing.{Kept, Published, Retracted}
use Rattle.core_engine.specs.Aftermaths.{Cleared, in_order}
use Rattle.core_engine.specs.Steps.{HasHidden, HasTurned, IsFound, RanAbove, after_step, causes_above, IsStepLeft, ShowsStep, WereFound, IsPrepared, IsPreparedAlone}
use Rattle.core_engine.specs.Withdrawals.{IsLeft, WereLost}
use Rattle.core_engine.specs.declared.aftermaths.Aftermath.{Aftermath}
use Rattle.core_engine.specs.declared.stepping.Prepared.{Prepared}
use Rattle.core_engine.proofs.Causing.{in_order_for, no_restarts_after, all_marked, no_conflicts}
use Rattle.core_engine.proofs.Trailing.{versions_with, versions_cleared, one_by_one}

if_is_true : {A : Type 0} (b : Bool) (x y : A) → b ≡ true → (if b then x else y) ≡ x
if_is_true b x y e = ap (λ c. if c then x else y) e

if_is_false : {A : Type 0} (b : Bool) (x y : A) → b ≡ false → (if b then x else y) ≡ y
if_is_false b x y e = ap (λ c. if c then x else y) e

-- ---- the writes that a step shows

module _ (ms : List Rule) (B : ℕ) (D : List Fact) (u : Update (caused_chase ms B)) where
  -- Where the attempt then hides its writes there are none.
  pub hidden_trail : hides ((caused_chase ms B).outcome (stepped (caused_chase ms B) D u).state) ≡ true → trail (caused_chase ms B) (stepped (caused_chase ms B) D u) ≡ []
  hidden_trail h = by u.withdrawn
    where
      by : (b : Bool) → (if b then [] else if hides ((caused_chase ms B).outcome (stepped (caused_chase ms B) D u).state) then [] else (caused_chase ms B).own (stepped (caused_chase ms B) D u).state) ≡ []
      by true = refl
      by false = if_is_true (hides ((caused_chase ms B).outcome (stepped (caused_chase ms B) D u).state)) [] ((caused_chase ms B).own (stepped (caused_chase ms B) D u).state) h

  -- Else they come after those that it showed.
  pub longer_trail : (s : Settings) (c n : ℕ) → Rattle.def_machine.specs.Standings.is_ready (Rattle.def_machine.specs.Standings.standing (caused_chase ms B) s c n u) ≡ true
      → hides ((caused_chase ms B).outcome (stepped (caused_chase ms B) D u).state) ≡ false
      → trail (caused_chase ms B) (stepped (caused_chase ms B) D u) ≡ trail (caused_chase ms B) u ++ step_writes (caused_chase ms B) D u
  longer_trail s c n r h =
      let o = (ready_parts (caused_chase ms B) s c n u r).0 in
      let after : List Change = (caused_chase ms B).own (stepped (caused_chase ms B) D u).state in
      let left : trail (caused_chase ms B) (stepped (caused_chase ms B) D u) ≡ after =
      if_is_false u.withdrawn [] (if hides ((caused_chase ms B).outcome (stepped (caused_chase ms B) D u).state) then [] else after) o.present
      ∙ if_is_false (hides ((caused_chase ms B).outcome (stepped (caused_chase ms B) D u).state)) [] after h in
      let before : trail (caused_chase ms B) u ≡ u.state.own =
      if_is_false u.withdrawn [] (if hides ((caused_chase ms B).outcome u.state) then [] else u.state.own) o.present
      ∙ if_is_false (hides ((caused_chase ms B).outcome u.state)) [] u.state.own (ap hides o.going) in
      let shown : step_writes (caused_chase ms B) D u ≡ (next_move (caused_chase ms B) u.operation D u.answers u.state).writes =
      if_is_false (hides ((caused_chase ms B).outcome (stepped (caused_chase ms B) D u).state)) [] ((next_move (caused_chase ms B) u.operation D u.answers u.state).writes) h in
      left ∙ sym (λ i. before i ++ shown i)

-- The attempt after the step is that of the plan.
plan_state : (ms : List Rule) (B : ℕ) (D : List Fact) (r : QueuedUpdate) (plan : Plan) → IsPlanOf ms B D r plan → plan.program.attempt ≡ (stepped (caused_chase ms B) D (update_of ms B r)).state
plan_state ms B D r plan p = ap (λ (s : State). s.attempt) p.program

-- Its versions: with the writes of the step after the others, or without any.
pub shows_hidden : (r : QueuedUpdate) (plan : Plan) (ws : List Write) (b : Bool) (old new : Kept) → HasHidden plan.program b → b ≡ true → HasTrail r ws → Retracted r.program.attempt.number (map change_of ws) old new → ShowsStep r plan old new
shows_hidden r plan ws b old new hidden t trail_is taken ms B D s c n may p E before after stand was is same =
    taken E before after stand (was ∙ sym (trail_is ms B))
    (is ∙ hidden_trail ms B D (update_of ms B r) (ap (λ (P : Rattle.def_steps.specs.Attempts.Attempt). hides (option_map ending (outcome_in P.phase))) (sym (plan_state ms B D r plan p)) ∙ sym hidden ∙ t))
    same

pub shows_more : (r : QueuedUpdate) (plan : Plan) (ws : List Write) (b : Bool) (old new : Kept) → HasHidden plan.program b → b ≡ false → HasWritten r plan ws → Published r.program.attempt.number (map change_of ws) old new → ShowsStep r plan old new
shows_more r plan ws b old new hidden t written put ms B D s c n may p E before after stand was is same =
    put E before after stand
    (is ∙ longer_trail ms B D (update_of ms B r) s c n may (ap (λ (P : Rattle.def_steps.specs.Attempts.Attempt). hides (option_map ending (outcome_in P.phase))) (sym (plan_state ms B D r plan p)) ∙ sym hidden ∙ t)
    ∙ sym (λ i. was i ++ written ms B D p i))
    same

-- What came or went by it: all that the attempt showed, where it hides its writes then.
pub turned_hidden : (r : QueuedUpdate) (plan : Plan) (ws : List Write) (b : Bool) → HasHidden plan.program b → b ≡ true → HasTrail r ws → HasTurned r plan Went ws
turned_hidden r plan ws b hidden t trail_is ms B D E s c n may p sorted =
    let after : trail (caused_chase ms B) (stepped (caused_chase ms B) D (update_of ms B r)) ≡ [] =
    hidden_trail ms B D (update_of ms B r) (ap (λ (P : Rattle.def_steps.specs.Attempts.Attempt). hides (option_map ending (outcome_in P.phase))) (sym (plan_state ms B D r plan p)) ∙ sym hidden ∙ t) in
    subst (λ vs. AgreeBut Went (map change_of ws ∷ []) (apply E vs) (apply E (trail (caused_chase ms B) (stepped (caused_chase ms B) D (update_of ms B r))))) (trail_is ms B)
    (subst (λ vs. AgreeBut Went (map change_of ws ∷ []) (apply E (map change_of ws)) (apply E vs)) (sym after) (agree_more [] E E (map change_of ws) (agree_alone Went [] E sorted)))

-- Else the writes of the step.
pub turned_more : (r : QueuedUpdate) (plan : Plan) (ws : List Write) (b : Bool) → HasHidden plan.program b → b ≡ false → HasWritten r plan ws → HasTurned r plan Came ws
turned_more r plan ws b hidden t written ms B D E s c n may p sorted =
    let before : List Fact = apply E (trail (caused_chase ms B) (update_of ms B r)) in
    let after : trail (caused_chase ms B) (stepped (caused_chase ms B) D (update_of ms B r)) ≡ trail (caused_chase ms B) (update_of ms B r) ++ map change_of ws =
    longer_trail ms B D (update_of ms B r) s c n may (ap (λ (P : Rattle.def_steps.specs.Attempts.Attempt). hides (option_map ending (outcome_in P.phase))) (sym (plan_state ms B D r plan p)) ∙ sym hidden ∙ t)
    ∙ ap (λ vs. trail (caused_chase ms B) (update_of ms B r) ++ vs) (sym (written ms B D p)) in
    let sorted_then : IsRepository before = apply_in_order E (trail (caused_chase ms B) (update_of ms B r)) sorted in
    subst (λ X. AgreeBut Came (map change_of ws ∷ []) before X) (sym (ap (apply E) after ∙ apply_join E (trail (caused_chase ms B) (update_of ms B r)) (map change_of ws)))
    (agree_back (map change_of ws ∷ []) (apply before (map change_of ws)) before (agree_more [] before before (map change_of ws) (agree_alone Went [] before sorted_then)))

-- ---- the causes

module _ (ms : List Rule) (B : ℕ) where
  found_by : (causes : List (Cause (caused_chase ms B))) (n : ℕ) (rs : List QueuedUpdate) (found : List (Option CauseOfProgram)) (S : List (Option (Cause (caused_chase ms B))))
      → found_for ms B rs found ≡ S → causes ≡ conflicts_in S ++ dependences_in S → restarted (caused_chase ms B) (readers causes) n (updates_of ms B rs) ≡ restart (caused_chase ms B) n S (updates_of ms B rs) → IsFound ms B causes n (updates_of ms B rs) found
  found_by causes n rs found S e c r =
      let us : List (Update (caused_chase ms B)) = updates_of ms B rs in
      record {
        told = in_order_for ms B rs found ∙ (λ i. conflicts_in (e i) ++ dependences_in (e i)) ∙ sym c;
        restarts =
            λ xs m. restart_is (caused_chase ms B) n xs us
            ∙ ap (λ bs. restart_by (caused_chase ms B) n bs us) (m ∙ sym (all_marked ms B found))
            ∙ sym (restart_is (caused_chase ms B) n (all_found ms B found) us)
            ∙ sym (no_restarts_after ms B n (all_found ms B found) (drop (length found) rs) us)
            ∙ ap (λ (S' : List (Option (Cause (caused_chase ms B)))). restart (caused_chase ms B) n S' us) e ∙ sym r;
      }

pub found_in_writes : (a : Above) (s : Settings) (old : Kept) (r : QueuedUpdate) (upper : List QueuedUpdate) (plan : Plan) (ws : List Write) (found : List (Option CauseOfProgram)) (b : Bool)
    → a.deps ≡ s.deps → a.update ≡ r.program.attempt.number → HasSpent plan.program b → b ≡ false → HasTurned r plan a.sense ws → AreCausesOfWrites a (map change_of ws) upper found
    → WereFound a.rules s a.committed old a.whole r upper plan found
found_in_writes a s old r upper plan ws found b d n spent f turned are B E lower c m few e ran may before after p =
    let ms = a.rules in
    let M : Machine = caused_chase a.rules B in
    let us : List (Update (caused_chase a.rules B)) = updates_of a.rules B upper in
    let u : Update (caused_chase a.rules B) = update_of a.rules B r in
    let v : Update (caused_chase a.rules B) = after_step a.rules B E lower u in
    let D : List Fact = apply (laid a.rules B E lower) (trail (caused_chase a.rules B) v) in
    let j : a.update ≡ suc (length lower) = n ∙ e in
    let law = (walk_law (caused_chase a.rules B) a.deps a.committed (suc (length lower)) D u us).0 in
    let mine : causes_above a.rules B s a.committed (suc (length lower)) E lower u us ≡ causes_of_writes (caused_chase a.rules B) a.deps a.committed (suc (length lower)) D us =
    ap (λ (x : Deps). causes_of_step (caused_chase a.rules B) x a.committed (suc (length lower)) (laid a.rules B E lower) u v us) (sym d)
    ∙ if_is_false (is_spent ((caused_chase a.rules B).outcome v.state)) (causes_of_loss (caused_chase a.rules B) a.deps a.committed (suc (length lower)) (laid a.rules B E lower) u us) (causes_of_writes (caused_chase a.rules B) a.deps a.committed (suc (length lower)) D us)
    (ap (λ (P : Rattle.def_steps.specs.Attempts.Attempt). is_spent (option_map ending (outcome_in P.phase))) (sym (plan_state a.rules B (laid a.rules B E lower) r plan p)) ∙ sym spent ∙ f) in
    found_by a.rules B (causes_above a.rules B s a.committed (suc (length lower)) E lower u us) (suc (suc (length lower))) upper found
    (settle (caused_chase a.rules B) a.deps true a.committed (suc (length lower)) D D [] (suc (suc (length lower))) us)
    (are B E lower u v few j after (subst (λ (i : ℕ). AreRuns (caused_chase a.rules B) (above a.rules B E lower u) (suc i) us) (sym j) ran)
    (turned a.rules B (laid a.rules B E lower) (laid a.rules B E lower) s c m may p (apply_in_order E (flat_map (trail (caused_chase a.rules B)) lower) after.sorted))
    ∙ (λ i. settle (caused_chase a.rules B) a.deps true a.committed (j i) D D [] (suc (j i)) us))
    (mine ∙ law.causes)
    (ap (λ cs. restarted (caused_chase a.rules B) (readers cs) (suc (suc (length lower))) us) mine ∙ law.restarts)

-- The causes of a withdrawal.
pub loss_found : (a : Above) (s : Settings) (r : QueuedUpdate) (upper : List QueuedUpdate) (ws : List Write) (found : List (Option CauseOfProgram)) → a.deps ≡ s.deps → a.update ≡ r.program.attempt.number → HasTrail r ws
    → AreCausesOfLoss a (map change_of ws) upper found → WereLost a.rules s a.committed a.whole r upper found
loss_found a s r upper ws found d n trail_is are B E lower few e ran before =
    let us : List (Update (caused_chase a.rules B)) = updates_of a.rules B upper in
    let u : Update (caused_chase a.rules B) = update_of a.rules B r in
    let D : List Fact = laid a.rules B E lower in
    let D' : List Fact = apply D (trail (caused_chase a.rules B) u) in
    let j : a.update ≡ suc (length lower) = n ∙ e in
    let law = (walk_law (caused_chase a.rules B) a.deps a.committed (suc (length lower)) D u us).1 in
    let S : List (Option (Cause (caused_chase a.rules B))) = settle (caused_chase a.rules B) a.deps false a.committed (suc (length lower)) D' D (record { number = suc (length lower); trail = trail (caused_chase a.rules B) u } ∷ []) (suc (suc (length lower))) us in
    subst (λ (x : Deps). IsFound a.rules B (causes_of_loss (caused_chase a.rules B) x a.committed (suc (length lower)) D u us) (suc (suc (length lower))) us found) d
    (found_by a.rules B (causes_of_loss (caused_chase a.rules B) a.deps a.committed (suc (length lower)) D u us) (suc (suc (length lower))) upper found S
    (are B E lower u few j (sym (trail_is a.rules B)) before (subst (λ (i : ℕ). AreRuns (caused_chase a.rules B) (above a.rules B E lower u) (suc i) us) (sym j) ran)
    ∙ (λ i. settle (caused_chase a.rules B) a.deps false a.committed (j i) D' D (record { number = j i; trail = trail (caused_chase a.rules B) u } ∷ []) (suc (j i)) us))
    (law.causes ∙ ap (λ (cs : List (Cause (caused_chase a.rules B))). cs ++ dependences_in S) (sym (no_conflicts (caused_chase a.rules B) a.deps a.committed (suc (length lower)) D' D (record { number = suc (length lower); trail = trail (caused_chase a.rules B) u } ∷ []) (suc (suc (length lower))) us)))
    law.restarts)

-- A step by which the attempt ends spent has those.
pub found_in_loss : (a : Above) (s : Settings) (new : Kept) (r : QueuedUpdate) (upper : List QueuedUpdate) (plan : Plan) (ws : List Write) (found : List (Option CauseOfProgram)) (b : Bool)
    → a.deps ≡ s.deps → a.update ≡ r.program.attempt.number → HasSpent plan.program b → b ≡ true → HasTrail r ws → AreCausesOfLoss a (map change_of ws) upper found
    → WereFound a.rules s a.committed a.whole new r upper plan found
found_in_loss a s new r upper plan ws found b d n spent f trail_is are B E lower c m few e ran may before after p =
    let us : List (Update (caused_chase a.rules B)) = updates_of a.rules B upper in
    let u : Update (caused_chase a.rules B) = update_of a.rules B r in
    let v : Update (caused_chase a.rules B) = after_step a.rules B E lower u in
    let D : List Fact = laid a.rules B E lower in
    let mine : causes_above a.rules B s a.committed (suc (length lower)) E lower u us ≡ causes_of_loss (caused_chase a.rules B) s.deps a.committed (suc (length lower)) D u us =
    if_is_true (is_spent ((caused_chase a.rules B).outcome v.state)) (causes_of_loss (caused_chase a.rules B) s.deps a.committed (suc (length lower)) D u us) (causes_of_writes (caused_chase a.rules B) s.deps a.committed (suc (length lower)) (apply D (trail (caused_chase a.rules B) v)) us)
    (ap (λ (P : Rattle.def_steps.specs.Attempts.Attempt). is_spent (option_map ending (outcome_in P.phase))) (sym (plan_state a.rules B D r plan p)) ∙ sym spent ∙ f) in
    subst (λ (cs : List (Cause (caused_chase a.rules B))). IsFound a.rules B cs (suc (suc (length lower))) us found) (sym mine) (loss_found a s r upper ws found d n trail_is are B E lower few e ran before)

-- ---- together

-- What is left of the causes that were found, where update w stands above the lower ones now.
pub left_by : (ms : List Rule) (B : ℕ) (causes : List (Cause (caused_chase ms B))) (E : List Fact) (lower : List (Update (caused_chase ms B))) (w : Update (caused_chase ms B)) (upper : List QueuedUpdate) (found : List (Option CauseOfProgram)) (mid new : Kept) (left : Aftermath)
    → AreFrom (suc (suc (length lower))) upper → IsFound ms B causes (suc (suc (length lower))) (updates_of ms B upper) found → AreVersions ms B E (lower ++ w ∷ updates_of ms B upper) mid
    → Cleared upper found mid new → AreThere found left.fresh.items → left.causes.items ≡ in_order found → IsLeft ms B causes E lower w (suc (length lower)) (updates_of ms B upper) new left
left_by ms B causes E lower w upper found mid new left from is versions cleared there told =
    let us : List (Update (caused_chase ms B)) = updates_of ms B upper in
    let mid' : AreVersions ms B E ((lower ++ w ∷ []) ++ us) mid = subst (λ (xs : List (Update (caused_chase ms B))). AreVersions ms B E xs mid) (sym (one_by_one ms B lower w us)) versions in
    let cut : AreVersions ms B E ((lower ++ w ∷ []) ++ restart (caused_chase ms B) (suc (suc (length lower))) (all_found ms B found) us) new =
    versions_cleared ms B (suc (suc (length lower))) E (lower ++ w ∷ []) upper found (all_found ms B found) mid new (ap suc (more lower w)) from (all_marked ms B found) cleared mid' in
    record {
      told = ap (λ cs. map (cause_kept ms B) (map cause_of cs)) told ∙ is.told;
      restarts = λ xs m. is.restarts xs (m ∙ there);
      versions =
          subst (λ (xs : List (Update (caused_chase ms B))). AreVersions ms B E xs new)
          (one_by_one ms B lower w (restart (caused_chase ms B) (suc (suc (length lower))) (all_found ms B found) us)
          ∙ ap (λ (xs : List (Update (caused_chase ms B))). lower ++ w ∷ xs) (is.restarts (all_found ms B found) (all_marked ms B found))) cut;
    }
  where
    more : {X : Type 0} (xs : List X) (x : X) → suc (length xs) ≡ length (xs ++ x ∷ [])
    more [] x = refl
    more (y ∷ xs) x = ap suc (more xs x)

pub step_prepared : (ms : List Rule) (s : Settings) (c : ℕ) (old after new : Kept) (r : QueuedUpdate) (upper : List QueuedUpdate) (plan : Plan) (found : List (Option CauseOfProgram)) (ws : List Write) (p : Prepared)
    → AreFrom (suc r.program.attempt.number) upper → ShowsStep r plan old after → WereFound ms s c old after r upper plan found
    → Cleared upper found after new → AreThere found p.left.fresh.items → p.left.causes.items ≡ in_order found → HasWritten r plan ws → map change_of p.writes.items ≡ map change_of ws
    → IsPrepared ms s c old r upper plan new p
step_prepared ms s c old after new r upper plan found ws p from shows were cleared there causes written same B E lower k n few e ran versions may isplan =
    let us : List (Update (caused_chase ms B)) = updates_of ms B upper in
    let u : Update (caused_chase ms B) = update_of ms B r in
    let v : Update (caused_chase ms B) = after_step ms B E lower u in
    let mid : AreVersions ms B E (lower ++ v ∷ us) after = versions_with ms B r.program.attempt.number E lower u v us old after e (shows ms B (laid ms B E lower) s k n may isplan) versions in
    let left : IsLeft ms B (causes_above ms B s c (suc (length lower)) E lower u us) E lower v (suc (length lower)) us new p.left =
    left_by ms B (causes_above ms B s c (suc (length lower)) E lower u us) E lower v upper found after new p.left (subst (λ (m : ℕ). AreFrom (suc m) upper) e from) (were B E lower k n few e ran may versions mid isplan) mid cleared there causes in
    subst (λ (j : ℕ). IsStepLeft ms B s c j E lower u us new p) (sym e)
    (record { causes = left.told; restarts = left.restarts; versions = left.versions; writes = same ∙ written ms B (laid ms B E lower) isplan })

-- The same where the update's number and the versions were handed over.
pub shows_hidden_by : (r : QueuedUpdate) (plan : Plan) (ws : List Write) (b : Bool) (n : ℕ) (old copy new : Kept) → HasHidden plan.program b → b ≡ true → HasTrail r ws → n ≡ r.program.attempt.number → copy ≡ old
    → Retracted n (map change_of ws) copy new → ShowsStep r plan old new
shows_hidden_by r plan ws b n old copy new hidden t trail_is e same taken =
    shows_hidden r plan ws b old new hidden t trail_is (subst (λ (v : Kept). Retracted r.program.attempt.number (map change_of ws) v new) same (subst (λ (m : ℕ). Retracted m (map change_of ws) copy new) e taken))

pub shows_more_by : (r : QueuedUpdate) (plan : Plan) (ws : List Write) (b : Bool) (n : ℕ) (old copy new : Kept) → HasHidden plan.program b → b ≡ false → HasWritten r plan ws → n ≡ r.program.attempt.number → copy ≡ old
    → Published n (map change_of ws) copy new → ShowsStep r plan old new
shows_more_by r plan ws b n old copy new hidden t written e same put =
    shows_more r plan ws b old new hidden t written (subst (λ (v : Kept). Published r.program.attempt.number (map change_of ws) v new) same (subst (λ (m : ℕ). Published m (map change_of ws) copy new) e put))

-- ---- where none of the updates above has read anything

cleared_none : (upper : List QueuedUpdate) (v : Kept) → Cleared upper [] v v
cleared_none [] v = refl
cleared_none (r ∷ rs) v = refl

pub step_alone : (old after : Kept) (r : QueuedUpdate) (plan : Plan) (ws : List Write) (hidden spent : Bool) (p : Prepared) → HasHidden plan.program hidden → hidden ≡ false → HasSpent plan.program spent → spent ≡ false
    → HasWritten r plan ws → ShowsStep r plan old after → p.left.fresh.items ≡ [] → p.left.causes.items ≡ [] → map change_of p.writes.items ≡ map change_of ws → IsPreparedAlone old r plan after p
step_alone old after r plan ws hidden spent p hides shown spends unspent written shows fresh causes same ms s c upper from unread =
    let a : Above = record { rules = ms; deps = s.deps; committed = c; update = r.program.attempt.number; sense = Came; whole = after } in
    step_prepared ms s c old after after r upper plan [] ws p from shows
    (found_in_writes a s old r upper plan ws [] spent refl refl spends unspent (turned_more r plan ws hidden hides shown written) (none_read a (map change_of ws) upper unread))
    (cleared_none upper after) (ap (map is_some) fresh) causes written same
