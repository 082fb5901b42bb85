-- The causes of an event, where all reads were valid before it.
use Rattle.std.proofs.Common.{◌≡◌, ◌∙◌, ap, refl, sym, subst, ℕ, suc, ◌==◌, Bool, true, false, not, ◌||◌, List, [], ◌∷◌, ◌++◌, append-nil, map}
use Rattle.std.specs.Prelude.{if◌then◌else◌}
use Rattle.std.specs.List.{list_any}
use Rattle.std.specs.Option.{option_map}
use Rattle.std.proofs.lemmas.List.{map-append}
use Rattle.base_types.specs.Meanings.{change_of}
use Rattle.base_types.specs.declared.updates.Write.{Write}
use Rattle.core_entries.specs.declared.causes.Cause.{Cause as CauseOfProgram}
use Rattle.core_entries.specs.declared.causes.Cause.TheVariants.{Conflict as ConflictFound, Depends as DependsFound}
use Rattle.def_machine.specs.Cascade.{Member, cascade, conflicts, has_number, readers}
use Rattle.def_machine.specs.Effects.{causes_of_loss, causes_of_writes, is_spent}
use Rattle.def_machine.specs.Machine.{Machine}
use Rattle.def_machine.specs.Standings.{is_ready, standing}
use Rattle.def_machine.specs.Steps.{next_move, step_writes, stepped}
use Rattle.def_machine.specs.Updates.{Deps, Settings, Update, hides, shown, trail}
use Rattle.def_machine.proofs.Standing.{ready_parts}
use Rattle.def_chase.proofs.Sets.{apply_in_order}
use Rattle.def_chase.specs.Mappings.{Rule}
use Rattle.def_chase.specs.Repository.{Change, IsRepository, apply}
use Rattle.def_chase.specs.Values.{Fact}
use Rattle.chase_plan.specs.declared.plans.Plan.{Plan}
use Rattle.chase_update.specs.Courses.{State}
use Rattle.def_steps.proofs.Steady.{apply_join}
use Rattle.def_steps.specs.Attempts.{Attempt, outcome_in}
use Rattle.def_steps.specs.Chase.{AgreeOn, caused_chase, ending, relation_of}
use Rattle.audit_updates.specs.Programs.{HasShown, HasSpent, HasWritten, IsPlanOf}
use Rattle.audit_updates.specs.Updates.{AreFrom, update_of, updates_of}
use Rattle.audit_updates.specs.Standings.{HasTrail}
use Rattle.audit_updates.specs.declared.updates.AuditedUpdate.{AuditedUpdate}
use Rattle.audit_replay.specs.Causes.{AreDependencesOn, AreMetConflicts, AreMetDependences, AreOfLoss, AreOfWrites, AreTold, Loses, cause_meant, causes_meant, members_of, readers_in}
use Rattle.audit_replay.specs.Levels.{raised, top}
use Rattle.audit_replay.specs.Met.{AreValid, AreValidThat, is_none_of, is_open, met_cascade, met_conflicts, relations_in}
use Rattle.audit_replay.specs.Relations.{AreRelationsOf}
use Rattle.audit_replay.specs.Steps.{AreOfStep}
use Rattle.audit_replay.specs.declared.losses.Losses.{Losses}
use Rattle.audit_replay.specs.declared.losses.Member.{Member as MemberOfProgram}
use Rattle.audit_replay.proofs.Unmet.{agree_alone, agree_less, agree_with, met_cascade_is, met_conflicts_are, none_depends, none_met, others_are_valid}

-- ---- tests of updates

-- What is valid where more pass is valid where fewer do.
valid_that : (M : Machine) (p q : ℕ → Update M → Bool) → ((n : ℕ) (u : Update M) → p n u ≡ true → q n u ≡ true) → (n : ℕ) (W : M.Repository) (us : List (Update M)) → AreValidThat M q n W us → AreValidThat M p n W us
valid_that M p q h n W [] v = tt
valid_that M p q h n W (u ∷ us) v = (λ e. v.0 (h n u e), valid_that M p q h (suc n) (M.apply W (trail M u)) us v.1)

valid_open : (M : Machine) (c : ℕ) (firsts : List ℕ) (n : ℕ) (W : M.Repository) (us : List (Update M)) → AreValid M n W us → AreValidThat M (is_open M c firsts) n W us
valid_open M c firsts n W us v = valid_that M (is_open M c firsts) (λ i u. true) (λ i u e. refl) n W us v

-- ---- a loss

readers_none : (cs : List CauseOfProgram) → cs ≡ [] → readers_in cs ≡ []
readers_none cs e = ap readers_in e

-- The cascade on one member is that of its loss.
pub of_loss : (ms : List Rule) (deps : Deps) (c j : ℕ) (lost : List Change) (D : List Fact) (rs : List AuditedUpdate) (none causes : List CauseOfProgram) (l l' : Losses) → none ≡ [] → l.members.items ≡ [] → AreTold l → Loses j lost l l'
    → AreMetDependences ms deps c (readers_in none) D l' rs causes → AreOfLoss ms deps c j lost D rs causes
of_loss ms deps c j lost D rs none causes l l' e empty told loses is B u was from sorted valid =
    let M = caused_chase ms B in
    let us = updates_of ms B rs in
    let m : Member M = record { number = j; trail = lost } in
    let one : members_of ms B l'.members.items ≡ m ∷ [] = loses.joined ms B ∙ ap (λ (ks : List MemberOfProgram). members_of ms B ks ++ m ∷ []) empty in
    let agree : AgreeOn (is_none_of (relations_in ms B (m ∷ []))) (apply D lost) D = subst (λ (xs : List ℕ). AgreeOn (is_none_of xs) (apply D lost) D) (sym (append-nil (map relation_of lost))) (agree_with ms B [] D D lost (agree_alone (is_none_of []) D sorted)) in
    is B (suc j) (loses.told told) from
    ∙ (λ i. met_cascade ms B deps c (readers_none none e i) D (one i) (suc j) us)
    ∙ met_cascade_is ms B deps c [] (apply D lost) D (m ∷ []) (suc j) us agree (valid_open M c [] (suc j) (apply D lost) us valid)
    ∙ (λ i. cascade M deps c [] D (record { number = j; trail = sym was i } ∷ []) (suc j) us)

-- ---- dependences on those in conflict

-- Where there are none nothing depends.
pub on_none : (ms : List Rule) (deps : Deps) (c : ℕ) (D : List Fact) (rs : List AuditedUpdate) (firsts causes : List CauseOfProgram) → firsts ≡ [] → causes ≡ [] → AreDependencesOn ms deps c (readers_in firsts) D rs causes
on_none ms deps c D rs firsts causes e f B n from sorted valid =
    ap (causes_meant ms B) f ∙ sym (none_depends ms B deps c D n (updates_of ms B rs)) ∙ ap (λ xs. cascade (caused_chase ms B) deps c (readers_in xs) D [] n (updates_of ms B rs)) (sym e)

pub on_some : (ms : List Rule) (deps : Deps) (c : ℕ) (firsts : List ℕ) (D : List Fact) (rs : List AuditedUpdate) (causes : List CauseOfProgram) (l : Losses) → l.members.items ≡ [] → AreTold l → AreMetDependences ms deps c firsts D l rs causes → AreDependencesOn ms deps c firsts D rs causes
on_some ms deps c firsts D rs causes l empty told is B n from sorted valid =
    is B n told from ∙ ap (λ (ks : List MemberOfProgram). met_cascade ms B deps c firsts D (members_of ms B ks) n (updates_of ms B rs)) empty
    ∙ met_cascade_is ms B deps c firsts D D [] n (updates_of ms B rs) (agree_alone (is_none_of []) D sorted) valid

-- ---- writes

-- The readers of causes are those of the machine's.
pub readers_are : (ms : List Rule) (B : ℕ) (cs : List CauseOfProgram) → readers_in cs ≡ readers (causes_meant ms B cs)
readers_are ms B [] = refl
readers_are ms B (ConflictFound i r j old new ∷ cs) = ap (λ xs. i ∷ xs) (readers_are ms B cs)
readers_are ms B (DependsFound i r on ∷ cs) = ap (λ xs. i ∷ xs) (readers_are ms B cs)

-- Repositories agree but for the relations of the writes that one of them has more.
agree_written : (D : List Fact) (old writes : List Change) (relations : List ℕ) → AreRelationsOf writes relations → IsRepository D → AgreeOn (is_none_of relations) (apply D old) (apply D (old ++ writes))
agree_written D old writes relations are sorted =
    let E : List Fact = apply D old in
    let before : IsRepository E = apply_in_order D old sorted in
    let a : AgreeOn (is_none_of (map relation_of writes)) (apply E writes) E = agree_with [] 0 [] E E writes (agree_alone (is_none_of []) E before) in
    let b : AgreeOn (is_none_of relations) (apply E writes) E = agree_less (is_none_of (map relation_of writes)) (is_none_of relations) (apply E writes) E (λ k h. ap not (any_of (λ n. n == k) writes ∙ sym (are (λ n. n == k))) ∙ h) a in
    subst (λ X. AgreeOn (is_none_of relations) E X) (sym (apply_join D old writes)) (record { sorted = b.also; also = b.sorted; same = λ t h. sym (b.same t h) })
  where
    any_of : (p : ℕ → Bool) (ws : List Change) → list_any p (map relation_of ws) ≡ list_any (λ w. p (relation_of w)) ws
    any_of p [] = refl
    any_of p (w ∷ ws) = ap (λ b. p (relation_of w) || b) (any_of p ws)

-- Without writes nothing restarts.
pub of_no_writes : (ms : List Rule) (deps : Deps) (c j : ℕ) (made writes : List Change) (D : List Fact) (rs : List AuditedUpdate) (causes : List CauseOfProgram) → writes ≡ [] → causes ≡ [] → AreOfWrites ms deps c j made writes D rs causes
of_no_writes ms deps c j made writes D rs causes e f B old is from sorted valid =
    let M = caused_chase ms B in
    let us = updates_of ms B rs in
    let none : conflicts M c j (apply D made) (suc j) us ≡ [] =
    sym (met_conflicts_are ms B c j [] (apply D old) (apply D made) (suc j) us
    (subst (λ ws. AgreeOn (is_none_of []) (apply D old) (apply D ws)) (sym is) (agree_written D old writes [] (λ p. ap (list_any (λ w. p (relation_of w))) (sym e)) sorted)) valid)
    ∙ none_met ms B c j (apply D made) (suc j) us in
    ap (causes_meant ms B) f ∙ sym (none_depends ms B deps c (apply D made) (suc j) us) ∙ (λ i. sym none i ++ cascade M deps c (readers (sym none i)) (apply D made) [] (suc j) us)

-- Conflicts first, and then the dependences on them.
pub of_writes : (ms : List Rule) (deps : Deps) (c j : ℕ) (made writes : List Change) (levels up up' : List (List Fact)) (rs : List AuditedUpdate) (relations : List ℕ) (found more causes : List CauseOfProgram) → AreRelationsOf writes relations → up ≡ raised levels made
    → up' ≡ up → AreMetConflicts ms c j relations (top up) rs found → AreDependencesOn ms deps c (readers_in found) (top up') rs more → causes ≡ found ++ more → AreOfWrites ms deps c j made writes (top levels) rs causes
of_writes ms deps c j made writes levels up up' rs relations found more causes are e f conflicting depend g B old is from sorted valid =
    let M = caused_chase ms B in
    let us = updates_of ms B rs in
    let D : List Fact = top levels in
    let E : List Fact = apply D made in
    let here : top up ≡ E = ap top e in
    let there : top up' ≡ E = ap top f ∙ here in
    let inorder : IsRepository E = apply_in_order D made sorted in
    let agree : AgreeOn (is_none_of relations) (apply D old) E = subst (λ ws. AgreeOn (is_none_of relations) (apply D old) (apply D ws)) (sym is) (agree_written D old writes relations are sorted) in
    let first : causes_meant ms B found ≡ conflicts M c j E (suc j) us = conflicting B (suc j) from ∙ ap (λ X. met_conflicts ms B c j relations X (suc j) us) here ∙ met_conflicts_are ms B c j relations (apply D old) E (suc j) us agree valid in
    let names : readers_in found ≡ readers (conflicts M c j E (suc j) us) = readers_are ms B found ∙ ap readers first in
    let others : AreValidThat M (is_open M c (readers_in found)) (suc j) E us = others_are_valid ms B c j (readers_in found) E (suc j) us (λ k h. ap (λ ns. has_number ns k) (sym names) ∙ h) in
    let rest : causes_meant ms B more ≡ cascade M deps c (readers_in found) E [] (suc j) us =
    subst (λ X. IsRepository X → AreValidThat M (is_open M c (readers_in found)) (suc j) X us → causes_meant ms B more ≡ cascade M deps c (readers_in found) X [] (suc j) us) there (depend B (suc j) from) inorder others in
    ap (causes_meant ms B) g ∙ map-append (cause_meant ms B) found more ∙ (λ i. first i ++ (rest ∙ ap (λ ns. cascade M deps c ns E [] (suc j) us) names) i)

-- ---- a step

if_is_true : {A : Type 0} (b : Bool) (x y : A) → b ≡ true → (if b then x else y) ≡ x
if_is_true b x y e = ap (λ c. if c then x else y) e

if_is_false : {A : Type 0} (b : Bool) (x y : A) → b ≡ false → (if b then x else y) ≡ y
if_is_false b x y e = ap (λ c. if c then x else y) e

-- The attempt after the step is that of the plan.
plan_state : (ms : List Rule) (B : ℕ) (D : List Fact) (r : AuditedUpdate) (plan : Plan) → IsPlanOf ms B D r plan → plan.program.attempt ≡ (stepped (caused_chase ms B) D (update_of ms B r)).state
plan_state ms B D r plan p = ap (λ (s : State). s.attempt) p.program

module _ (ms : List Rule) (B : ℕ) (D : List Fact) (r : AuditedUpdate) where
  abbrev M : Machine
  M = caused_chase ms B

  -- The trail after the step is what the attempt shows then, where the update is ready.
  shows : (s : Settings) (c n : ℕ) → is_ready (standing M s c n (update_of ms B r)) ≡ true → trail M (stepped M D (update_of ms B r)) ≡ shown M (stepped M D (update_of ms B r)).state
  shows s c n h = if_is_false r.withdrawn [] (shown M (stepped M D (update_of ms B r)).state) (ready_parts M s c n (update_of ms B r) h).0.present

  -- It is the trail before and the writes that the step shows, where an attempt that is refused had none.
  longer : (s : Settings) (c n : ℕ) → is_ready (standing M s c n (update_of ms B r)) ≡ true → (b : Bool) → hides (M.outcome (stepped M D (update_of ms B r)).state) ≡ b → (b ≡ true → trail M (update_of ms B r) ≡ [])
      → shown M (stepped M D (update_of ms B r)).state ≡ trail M (update_of ms B r) ++ step_writes M D (update_of ms B r)
  longer s c n h true e none =
      let v = stepped M D (update_of ms B r) in
      if_is_true (hides (M.outcome v.state)) [] (M.own v.state) e ∙ sym (λ i. none refl i ++ if_is_true (hides (M.outcome v.state)) [] (M.writes (next_move M r.program.attempt.operation D (update_of ms B r).answers r.program.attempt)) e i)
  longer s c n h false e none =
      let u = update_of ms B r in
      let v = stepped M D u in
      let o = (ready_parts M s c n u h).0 in
      let before : trail M u ≡ u.state.own =
      if_is_false u.withdrawn [] (if hides (M.outcome u.state) then [] else u.state.own) o.present ∙ if_is_false (hides (M.outcome u.state)) [] u.state.own (ap hides o.going) in
      if_is_false (hides (M.outcome v.state)) [] (M.own v.state) e ∙ sym (λ i. before i ++ if_is_false (hides (M.outcome v.state)) [] (M.writes (next_move M u.operation D u.answers u.state)) e i)

-- A step by which the attempt ends spent loses its trail.
pub step_of_loss : (ms : List Rule) (deps : Deps) (c j : ℕ) (r : AuditedUpdate) (plan : Plan) (ws : List Write) (D : List Fact) (rs : List AuditedUpdate) (causes : List CauseOfProgram) (b : Bool) → j ≡ r.program.attempt.number → HasSpent plan.program b → b ≡ true → HasTrail r ws
    → AreOfLoss ms deps c j (map change_of ws) D rs causes → AreOfStep ms deps c r plan D rs causes
step_of_loss ms deps c j r plan ws D rs causes b e spent t trail_is is B k n s p ready none from sorted valid =
    let M = caused_chase ms B in
    let u = update_of ms B r in
    let v = stepped M D u in
    let over : is_spent (M.outcome v.state) ≡ true = ap (λ (P : Attempt). is_spent (option_map ending (outcome_in P.phase))) (sym (plan_state ms B D r plan p)) ∙ sym spent ∙ t in
    subst (λ (i : ℕ). causes_meant ms B causes ≡ causes_of_loss M deps c i D u (updates_of ms B rs)) e
    (is B u (sym (trail_is ms B)) (subst (λ (i : ℕ). AreFrom (suc i) rs) (sym e) from) sorted
    (subst (λ (i : ℕ). AreValid M (suc i) (apply D (map change_of ws)) (updates_of ms B rs)) (sym e) (subst (λ vs. AreValid M (suc r.program.attempt.number) (apply D vs) (updates_of ms B rs)) (sym (trail_is ms B)) valid)))
    ∙ sym (if_is_true (is_spent (M.outcome v.state)) (causes_of_loss M deps c r.program.attempt.number D u (updates_of ms B rs)) (causes_of_writes M deps c r.program.attempt.number (apply D (trail M v)) (updates_of ms B rs)) over)

-- Another one has more writes.
pub step_of_writes : (ms : List Rule) (deps : Deps) (c j : ℕ) (r : AuditedUpdate) (plan : Plan) (made ws : List Write) (D : List Fact) (rs : List AuditedUpdate) (causes : List CauseOfProgram) (b : Bool) → j ≡ r.program.attempt.number → HasSpent plan.program b → b ≡ false
    → HasShown plan.program made → HasWritten r plan ws → AreOfWrites ms deps c j (map change_of made) (map change_of ws) D rs causes → AreOfStep ms deps c r plan D rs causes
step_of_writes ms deps c j r plan made ws D rs causes b e spent f showing written is B k n s p ready none from sorted valid =
    let M = caused_chase ms B in
    let u = update_of ms B r in
    let v = stepped M D u in
    let us = updates_of ms B rs in
    let over : is_spent (M.outcome v.state) ≡ false = ap (λ (P : Attempt). is_spent (option_map ending (outcome_in P.phase))) (sym (plan_state ms B D r plan p)) ∙ sym spent ∙ f in
    let shown_now : map change_of made ≡ shown M v.state = showing ms B ∙ ap (λ (P : Attempt). shown M P) (plan_state ms B D r plan p) in
    let made_is : map change_of made ≡ trail M u ++ map change_of ws =
    shown_now ∙ longer ms B D r s k n ready (hides (M.outcome v.state)) refl (λ h. none h over) ∙ ap (λ vs. trail M u ++ vs) (sym (written ms B D p)) in
    subst (λ (i : ℕ). causes_meant ms B causes ≡ causes_of_writes M deps c i (apply D (map change_of made)) us) e
    (is B (trail M u) made_is (subst (λ (i : ℕ). AreFrom (suc i) rs) (sym e) from) sorted (subst (λ (i : ℕ). AreValid M (suc i) (apply D (trail M u)) us) (sym e) valid))
    ∙ ap (λ vs. causes_of_writes M deps c r.program.attempt.number (apply D vs) us) (shown_now ∙ sym (shows ms B D r s k n ready))
    ∙ sym (if_is_false (is_spent (M.outcome v.state)) (causes_of_loss M deps c r.program.attempt.number D u us) (causes_of_writes M deps c r.program.attempt.number (apply D (trail M v)) us) over)
