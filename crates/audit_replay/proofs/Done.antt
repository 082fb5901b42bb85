-- Events at a place of a replay, as its methods make them.
use Rattle.std.proofs.Common.{◌≡◌, ◌∙◌, ap, refl, sym, subst, ℕ, suc, ◌<◌, ◌≤◌, List, [], ◌∷◌, map, drop, length, None, arith}
use Rattle.base_types.specs.Listed.{Listed}
use Rattle.base_types.specs.Meanings.{choice_of}
use Rattle.base_types.specs.declared.updates.Choice.{Choice}
use Rattle.core_entries.specs.declared.causes.Cause.{Cause as CauseOfProgram}
use Rattle.core_entries.specs.declared.entries.Entry.{Entry}
use Rattle.def_language.specs.Checks.{rules_of}
use Rattle.def_language.specs.Sessions.{SessionData, SessionUpdate}
use Rattle.def_history.proofs.Keeping.{histories_are_kept}
use Rattle.def_history.specs.CoreLaws.{Leave}
use Rattle.def_history.specs.Cores.{Ground, machine, session_over, effect_after}
use Rattle.def_history.specs.PlainEntries.{PlainEntry}
use Rattle.def_machine.specs.Effects.{Event, Answers, Delivers, Steps, Withdraws, answer_effect, deliver_effect, effect, may_answer, may_deliver, may_step, may_withdraw, step_effect, withdraw_effect}
use Rattle.def_machine.specs.Updates.{Settings, Update}
use Rattle.def_machine.proofs.Basics.{there}
use Rattle.def_chase.specs.Repository.{IsRepository}
use Rattle.def_chase.specs.Values.{Fact}
use Rattle.lang_session.specs.Meanings.{request_of, update_of as session_update_of}
use Rattle.lang_session.specs.declared.sessions.SessionUpdate.{SessionUpdate as SessionUpdateOfProgram}
use Rattle.audit_updates.specs.Updates.{AreFrom, updates_of}
use Rattle.audit_updates.specs.Settings.{settings_of}
use Rattle.audit_updates.specs.Order.{HasCommitted}
use Rattle.audit_updates.specs.declared.updates.AuditedUpdate.{AuditedUpdate}
use Rattle.audit_replay.specs.Causes.{AreOfLoss}
use Rattle.audit_replay.specs.Levels.{top}
use Rattle.audit_replay.specs.Places.{HaveCome, trail_of}
use Rattle.audit_replay.specs.Prepared.{IsInstalled, IsPreparedFor, IsWithdrawal}
use Rattle.audit_replay.specs.Replays.{HasMade, HasMadeAt, IsBegun, IsReplayOf, ground_of, place_in}
use Rattle.audit_replay.specs.Steps.{AtPlace, IsAnswered, IsDeliverableOf, IsDelivered, IsLiveOf, IsReadyOf, TakesOf}
use Rattle.audit_replay.specs.declared.events.Event.TheVariants as events
use Rattle.audit_replay.specs.declared.replays.Replay.{Replay}
use Rattle.audit_replay.specs.declared.stepping.Prepared.{Prepared}
use Rattle.audit_replay.proofs.Following.{answer_follows, delivery_follows, not_there, step_follows, withdrawal_follows}

-- The two replays have all but audited updates and levels in common.
pub record AreLike (r r' : Replay) : Type 0 where
  pub mappings : r'.mappings ≡ r.mappings
  pub budget : r'.budget ≡ r.budget
  pub settings : r'.settings ≡ r.settings
  pub handed : r'.handed ≡ r.handed

pub step_done : (r r' : Replay) (i before : ℕ) (rs qs qs' : List AuditedUpdate) (levels : List (List Fact)) (p : Prepared) (entry : Entry) → i < length r.updates.items → rs ≡ r.updates.items → qs ≡ r.updates.items → HasCommitted r.updates.items before
    → AtPlace i r.updates.items (IsReadyOf (settings_of r.settings) before (suc i)) → HaveCome i rs r.levels levels
    → AtPlace i rs (λ x. IsPreparedFor r.mappings r.budget (settings_of r.settings).deps before x (top levels) (drop (suc i) rs) p) → IsInstalled (settings_of r.settings) i p qs qs' entry → AreFrom 1 qs'
    → r'.updates.items ≡ qs' → r'.levels ≡ levels → AreLike r r' → HasMadeAt events.Steps i r r' entry
step_done r r' i before rs qs qs' levels p entry l e f counts ready come prepared installed numbers g h like ground H k =
    let x = there r.updates.items i l in
    let come' : HaveCome i r.updates.items r.levels levels = subst (λ (ys : List AuditedUpdate). HaveCome i ys r.levels levels) e come in
    let is : IsPreparedFor r.mappings r.budget (settings_of r.settings).deps before x.0 (top levels) (drop (suc i) r.updates.items) p =
    subst (λ (ys : List AuditedUpdate). AtPlace i ys (λ y. IsPreparedFor r.mappings r.budget (settings_of r.settings).deps before y (top levels) (drop (suc i) ys) p)) e prepared x.0 x.1 in
    let done : IsInstalled (settings_of r.settings) i p r.updates.items r'.updates.items entry =
    subst (λ (ys : List AuditedUpdate). IsInstalled (settings_of r.settings) i p r.updates.items ys entry) (sym g) (subst (λ (ys : List AuditedUpdate). IsInstalled (settings_of r.settings) i p ys qs' entry) f installed) in
    step_follows ground H r r' i x.0 k x.1 levels come' like.mappings like.budget like.settings like.handed h (subst (λ (ys : List AuditedUpdate). AreFrom 1 ys) (sym g) numbers) p.plan before p.attempt p.writes p.causes entry counts (ready x.0 x.1)
    is.planned is.causes is.written is.attempt done.made done.told

pub withdrawal_done : (r r' : Replay) (i before : ℕ) (rs qs qs' : List AuditedUpdate) (levels : List (List Fact)) (causes : Listed CauseOfProgram) (entry : Entry) → i < length r.updates.items → rs ≡ r.updates.items → qs ≡ r.updates.items → HasCommitted r.updates.items before
    → AtPlace i r.updates.items (IsLiveOf before (suc i)) → HaveCome i rs r.levels levels
    → AtPlace i rs (λ x. AreOfLoss r.mappings (settings_of r.settings).deps before (suc i) (trail_of x) (top levels) (drop (suc i) rs) causes.items) → IsWithdrawal i causes qs qs' entry → AreFrom 1 qs'
    → r'.updates.items ≡ qs' → r'.levels ≡ levels → AreLike r r' → HasMadeAt events.Withdraws i r r' entry
withdrawal_done r r' i before rs qs qs' levels causes entry l e f counts live come prepared removed numbers g h like ground H k =
    let x = there r.updates.items i l in
    let come' : HaveCome i r.updates.items r.levels levels = subst (λ (ys : List AuditedUpdate). HaveCome i ys r.levels levels) e come in
    let is : AreOfLoss r.mappings (settings_of r.settings).deps before (suc i) (trail_of x.0) (top levels) (drop (suc i) r.updates.items) causes.items =
    subst (λ (ys : List AuditedUpdate). AtPlace i ys (λ y. AreOfLoss r.mappings (settings_of r.settings).deps before (suc i) (trail_of y) (top levels) (drop (suc i) ys) causes.items)) e prepared x.0 x.1 in
    let done : IsWithdrawal i causes r.updates.items r'.updates.items entry = subst (λ (ys : List AuditedUpdate). IsWithdrawal i causes r.updates.items ys entry) (sym g) (subst (λ (ys : List AuditedUpdate). IsWithdrawal i causes ys qs' entry) f removed) in
    withdrawal_follows ground H r r' i x.0 k x.1 levels come' like.mappings like.budget like.settings like.handed h (subst (λ (ys : List AuditedUpdate). AreFrom 1 ys) (sym g) numbers) before causes entry counts (live x.0 x.1) is done.made done.told

pub delivery_done : (r r' : Replay) (i : ℕ) (qs qs' : List AuditedUpdate) (entry : Entry) → i < length r.updates.items → qs ≡ r.updates.items → IsDeliverableOf (settings_of r.settings) i r.updates.items → IsDelivered (settings_of r.settings) i qs qs' entry → AreFrom 1 qs'
    → r'.updates.items ≡ qs' → r'.levels ≡ r.levels → AreLike r r' → HasMadeAt events.Delivers i r r' entry
delivery_done r r' i qs qs' entry l f may delivered numbers g h like ground H k =
    let x = there r.updates.items i l in
    delivery_follows ground H r r' i x.0 k x.1 like.mappings like.budget like.settings like.handed h (subst (λ (ys : List AuditedUpdate). AreFrom 1 ys) (sym g) numbers) entry may
    (subst (λ (ys : List AuditedUpdate). IsDelivered (settings_of r.settings) i r.updates.items ys entry) (sym g) (subst (λ (ys : List AuditedUpdate). IsDelivered (settings_of r.settings) i ys qs' entry) f delivered))

pub answer_done : (r r' : Replay) (i : ℕ) (a : Choice) (qs qs' : List AuditedUpdate) (entry : Entry) → i < length r.updates.items → qs ≡ r.updates.items → TakesOf (settings_of r.settings) (choice_of a) i r.updates.items
    → IsAnswered (settings_of r.settings) i (choice_of a) qs qs' entry → AreFrom 1 qs' → r'.updates.items ≡ qs' → r'.levels ≡ r.levels → AreLike r r' → HasMadeAt (λ u. events.Answers u a) i r r' entry
answer_done r r' i a qs qs' entry l f may answered numbers g h like ground H k =
    let x = there r.updates.items i l in
    answer_follows ground H r r' i x.0 k x.1 like.mappings like.budget like.settings like.handed h (subst (λ (ys : List AuditedUpdate). AreFrom 1 ys) (sym g) numbers) entry (choice_of a) may
    (subst (λ (ys : List AuditedUpdate). IsAnswered (settings_of r.settings) i (choice_of a) r.updates.items ys entry) (sym g) (subst (λ (ys : List AuditedUpdate). IsAnswered (settings_of r.settings) i (choice_of a) ys qs' entry) f answered))

-- ---- events that are not allowed

-- There is no such update.
pub nothing_made : (r : Replay) (n : ℕ) → None ≡ place_in r.updates.items n → HasMade (events.Steps n) r r None × HasMade (events.Withdraws n) r r None × HasMade (events.Delivers n) r r None
nothing_made r n e = (
  λ g H k. (at g H k (Steps n) (not_there g.rules g.budget r.updates.items n (may_step (machine g) g.settings (updates_of g.rules g.budget r.updates.items)) (step_effect (machine g) g.settings (session_over g) (updates_of g.rules g.budget r.updates.items)) e), k),
  λ g H k. (at g H k (Withdraws n) (not_there g.rules g.budget r.updates.items n (may_withdraw (machine g) (updates_of g.rules g.budget r.updates.items)) (withdraw_effect (machine g) g.settings (session_over g) (updates_of g.rules g.budget r.updates.items)) e), k),
  λ g H k. (at g H k (Delivers n) (not_there g.rules g.budget r.updates.items n (may_deliver (machine g) g.settings (updates_of g.rules g.budget r.updates.items)) (deliver_effect (machine g) g.settings (updates_of g.rules g.budget r.updates.items)) e), k),
)
  where
    at : (g : Ground) (H : List PlainEntry) → IsReplayOf g H r → (ev : Event (machine g)) → effect (machine g) g.settings (session_over g) (updates_of g.rules g.budget r.updates.items) ev ≡ None → effect_after g H ev ≡ None
    at g H k ev f = ap (λ (ws : List (Update (machine g))). effect (machine g) g.settings (session_over g) ws ev) k.left.leaves ∙ f

pub nothing_answered : (r : Replay) (n : ℕ) (a : Choice) → None ≡ place_in r.updates.items n → HasMade (events.Answers n a) r r None
nothing_answered r n a e g H k = (
  ap (λ (ws : List (Update (machine g))). effect (machine g) g.settings (session_over g) ws (Answers n (choice_of a))) k.left.leaves
      ∙ not_there g.rules g.budget r.updates.items n (may_answer (machine g) g.settings (updates_of g.rules g.budget r.updates.items) (choice_of a)) (answer_effect (machine g) g.settings (updates_of g.rules g.budget r.updates.items) (choice_of a)) e,
  k,
)

-- ---- the beginning

pub begun_is : (s : SessionData) (budget : ℕ) (c : Settings) (r : Replay) → 1 ≤ budget → c.retries ≤ 4 → length s.updates ≤ 1000 → IsRepository s.base → r.mappings ≡ rules_of s.mappings → r.budget ≡ budget → settings_of r.settings ≡ c → map session_update_of r.handed.now ≡ s.updates
    → r.updates.items ≡ [] → r.levels ≡ s.base ∷ [] → IsBegun s budget c r
begun_is s budget c r some retries few sorted rules steps settings handed none levels = record {
  rules = rules;
  budget = steps;
  some = some;
  settings = settings;
  requests = ap (map request_of) handed;
  later = refl;
  sorted = sorted;
  retries = retries;
  left = subst (λ (rs : List AuditedUpdate). Leave (ground_of s budget c) [] (updates_of (rules_of s.mappings) budget rs)) (sym none) (histories_are_kept (ground_of s budget c) some).empty;
  numbers = subst (λ (rs : List AuditedUpdate). AreFrom 1 rs) (sym none) tt;
  height = 0;
  within = omega arith;
  levels = levels;
  few = subst (λ (n : ℕ). n ≤ 1000) (sym (ap (λ (us : List SessionUpdate). length us) handed) ∙ long (r.handed.now)) few;
}
  where
    long : (hs : List SessionUpdateOfProgram) → length (map session_update_of hs) ≡ length hs
    long [] = refl
    long (h ∷ hs) = ap suc (long hs)
