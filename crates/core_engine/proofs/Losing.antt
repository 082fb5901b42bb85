-- A withdrawal follows, and what lets it.
use Rattle.std.proofs.Common.{◌≡◌, ◌∙◌, ap, refl, sym, subst, ℕ, suc, ◌<◌, ◌+◌, Bool, true, false, not, ◌&&◌, Option, Some, None, List, [], ◌∷◌, ◌++◌, map, take, drop, length, get_or, arith}
use Rattle.std.proofs.Math.ListN.{set}
use Rattle.std.specs.Prelude.{if◌then◌else◌, nat_lt, option_map, option_and_then, slice_get}
use Rattle.std.proofs.lemmas.Option.{same_Some, slice_get-map}
use Rattle.base_types.specs.Listed.{Listed}
use Rattle.base_types.specs.Meanings.{change_of}
use Rattle.base_types.specs.declared.updates.Write.{Write}
use Rattle.core_cascade.specs.Held.{AreVersions}
use Rattle.core_entries.specs.Meanings.{cause_of, entry_of}
use Rattle.core_entries.specs.declared.causes.Cause.{Cause as CauseOfProgram}
use Rattle.core_entries.specs.declared.entries.Entry.{Entry}
use Rattle.core_entries.specs.declared.entries.Entry.TheVariants as entries
use Rattle.def_history.specs.Cores.{Ground, machine, session_over}
use Rattle.def_history.specs.PlainEntries.{WasWithdrawn, plain_entry, entry_kept}
use Rattle.def_history.proofs.Keeping.{entry_back}
use Rattle.def_machine.specs.Machine.{Machine}
use Rattle.def_machine.specs.Effects.{Withdraws, Withdrew, Effect, effect, may_withdraw, withdraw_effect, withdrawn_now}
use Rattle.def_machine.specs.Standings.{Standing, Withdrawn, standing, unless_ended, unless_paused, is_held, lack, Held}
use Rattle.def_machine.specs.Updates.{Session, Settings, Update, committed}
use Rattle.def_chase.specs.Mappings.{Rule}
use Rattle.chase_update.specs.Courses.{State as ProgramState}
use Rattle.core_queue.specs.Events.{HasWithdrawn}
use Rattle.core_queue.specs.Queues.{update_of, updates_of, AreFrom}
use Rattle.core_queue.specs.Updates.{HasTrail}
use Rattle.core_queue.specs.Renewals.{AreThere, HaveRestarted}
use Rattle.core_queue.specs.Order.{HasCommitted}
use Rattle.core_queue.specs.declared.updates.QueuedUpdate.{QueuedUpdate}
use Rattle.def_steps.specs.Chase.{caused_chase}
use Rattle.set_versions.specs.Standing.{Kept, Retracted}
use Rattle.def_language.specs.Sessions.{RelationSchema}
use Rattle.core_engine.specs.Aftermaths.{Cleared, ClearedIf, in_order}
use Rattle.core_engine.specs.Follows.{Follows, ground_with, AreSame}
use Rattle.core_engine.specs.Kept.{IsKept}
use Rattle.core_engine.specs.LiveCalls.{is_live_in, is_withdrawn}
use Rattle.core_engine.specs.States.{State, numbered_at, committed_at, standing_at}
use Rattle.core_engine.proofs.Running.{ran_above}
use Rattle.core_engine.specs.Steps.{RanAbove}
use Rattle.core_engine.specs.Withdrawals.{IsLossLeft, WereLost, IsLossPrepared, IsLossPreparedAt, IsRemoved, TellsWithdrawal, WithdrawsTo}
use Rattle.core_engine.specs.declared.aftermaths.Aftermath.{Aftermath}
use Rattle.core_engine.proofs.Delivering.{mapped_more}
use Rattle.core_engine.proofs.Following.{follows, cut_at, dropped_map, marks_for, marked_so, taken_long, within}
use Rattle.core_engine.proofs.Making.{placed_within, queued_placed}
use Rattle.core_engine.proofs.Placing.{restarted_after}
use Rattle.core_engine.proofs.Preparing.{left_by}
use Rattle.core_engine.proofs.Telling.{there_is, number_there}
use Rattle.core_engine.proofs.Trailing.{versions_with}

-- ---- what is prepared

-- The trail of the update is taken back.
pub trail_lost : (n : ℕ) (r : QueuedUpdate) (ws : List Write) (old copy new : Kept) → n ≡ r.program.attempt.number → copy ≡ old → HasTrail r ws → Retracted n (map change_of ws) copy new → ClearedIf true r old new
trail_lost n r ws old copy new number same trail_is taken =
    subst (λ (v : Kept). ClearedIf true r v new) same
    (λ D before after stand was none others. subst (λ (m : ℕ). Retracted m (map change_of ws) copy new) number taken D before after stand (was ∙ sym (trail_is [] 0)) none others)

pub loss_prepared : (ms : List Rule) (s : Settings) (c : ℕ) (old after new : Kept) (r : QueuedUpdate) (upper : List QueuedUpdate) (found : List (Option CauseOfProgram)) (left : Aftermath)
    → AreFrom (suc r.program.attempt.number) upper → ClearedIf true r old after → WereLost ms s c old r upper found
    → Cleared upper found after new → AreThere found left.fresh.items → left.causes.items ≡ in_order found → IsLossPrepared ms s c old r upper new left
loss_prepared ms s c old after new r upper found left from lost were cleared there causes B E lower few e ran versions =
    let us : List (Update (caused_chase ms B)) = updates_of ms B upper in
    let u : Update (caused_chase ms B) = update_of ms B r in
    let mid : AreVersions ms B E (lower ++ withdrawn_now (caused_chase ms B) u ∷ us) after = versions_with ms B r.program.attempt.number E lower u (withdrawn_now (caused_chase ms B) u) us old after e lost versions in
    left_by ms B _ E lower (withdrawn_now (caused_chase ms B) u) upper found after new left (subst (λ (m : ℕ). AreFrom (suc m) upper) e from) (were B E lower few e ran versions) mid cleared there causes

pub loss_prepared_at : (ms : List Rule) (s : Settings) (c k : ℕ) (v v' : Kept) (rs up : List QueuedUpdate) (r : QueuedUpdate) (left : Aftermath) → AreFrom 1 rs → k < length rs → r ≡ get_or rs k r → up ≡ drop (suc k) rs
    → HasCommitted rs c → IsLossPrepared ms s c v r up v' left → IsLossPreparedAt ms s k v rs v' left
loss_prepared_at ms s c k v v' rs up r left numbers l spot above counts is B requests later D H r' kept spot' =
    let us : List (Update (caused_chase ms B)) = updates_of ms B rs in
    let there : slice_get rs k ≡ Some r = there_is rs k r l spot in
    let same : r ≡ r' = same_Some r r' (sym there ∙ spot') in
    let at_us : slice_get us k ≡ Some (update_of ms B r) = slice_get-map (update_of ms B) rs k ∙ ap (option_map (update_of ms B)) there in
    let long : length (take k us) ≡ k = taken_long us k (omega (arith, within us k (update_of ms B r) at_us)) in
    let upper : updates_of ms B up ≡ drop (suc k) us = ap (updates_of ms B) above ∙ dropped_map (update_of ms B) rs (suc k) in
    let all : us ≡ take k us ++ update_of ms B r ∷ updates_of ms B up = sym (cut_at us k (update_of ms B r) at_us) ∙ sym (ap (λ (ws : List (Update (caused_chase ms B))). take k us ++ update_of ms B r ∷ ws) upper) in
    let versions : AreVersions ms B D (take k us ++ update_of ms B r ∷ updates_of ms B up) v = subst (λ (ws : List (Update (caused_chase ms B))). AreVersions ms B D ws v) all (record { sorted = kept.sorted; stand = kept.versions }) in
    let here : IsLossLeft ms B s c (suc (length (take k us))) D (take k us) (update_of ms B r) (updates_of ms B up) v' left =
    is B D (take k us) kept.budget (number_there rs k r numbers l spot ∙ sym (ap suc long))
    (subst (λ (ws : List (Update (caused_chase ms B))). RanAbove ms B D (take k us) (update_of ms B r) ws) (sym upper) (ran_above (ground_with ms s B D requests later) v rs H kept k (update_of ms B r) at_us long)) versions in
    subst (λ (q : QueuedUpdate). IsLossLeft ms B s (committed (caused_chase ms B) us) (suc k) D (take k us) (update_of ms B q) (drop (suc k) us) v' left) same
    (subst (λ (ws : List (Update (caused_chase ms B))). IsLossLeft ms B s (committed (caused_chase ms B) us) (suc k) D (take k us) (update_of ms B r) ws v' left) upper
    (subst (λ (d : ℕ). IsLossLeft ms B s d (suc k) D (take k us) (update_of ms B r) (updates_of ms B up) v' left) (counts ms B)
    (subst (λ (j : ℕ). IsLossLeft ms B s c (suc j) D (take k us) (update_of ms B r) (updates_of ms B up) v' left) long here)))

-- ---- it is put in place

pub removed_is : (rs rs' : List QueuedUpdate) (k : ℕ) (fs : List (Option ProgramState)) (r r' : QueuedUpdate) → k < length rs → r ≡ get_or rs k r → HasWithdrawn (get_or rs k r) r' → HaveRestarted (k + 1) fs (set rs k r') rs' → IsRemoved k fs rs rs'
removed_is rs rs' k fs r r' l e gone restarts ms B q xs spot marks =
    let there : get_or rs k r ≡ q = sym e ∙ same_Some r q (sym (there_is rs k r l e) ∙ spot) in
    restarted_after rs rs' k fs q r' ms B (withdrawn_now (caused_chase ms B) (update_of ms B q)) xs spot
    (gone ms B ∙ ap (λ (p : QueuedUpdate). withdrawn_now (caused_chase ms B) (update_of ms B p)) there) restarts marks

pub withdrawal_told : (k n c : ℕ) (causes : Listed CauseOfProgram) (rs : List QueuedUpdate) (r : QueuedUpdate) → AreFrom 1 rs → k < length rs → r ≡ get_or rs k r → n ≡ r.program.attempt.number → HasCommitted rs c
    → TellsWithdrawal k causes rs (entries.Withdrawn n causes c)
withdrawal_told k n c causes rs r from l e number counts ms B =
    λ i. WasWithdrawn (record { update = (number ∙ number_there rs k r from l e) i; causes = map cause_of causes.items; committed = counts ms B i })

-- ---- it follows

allowed_withdrawal : (M : Machine) (s : Settings) (S : Session M) (us : List (Update M)) (k : ℕ) (u : Update M) → slice_get us k ≡ Some u → may_withdraw M us k u ≡ true
    → effect M s S us (Withdraws (suc k)) ≡ Some (withdraw_effect M s S us k u)
allowed_withdrawal M s S us k u spot may =
    ap (λ o. option_and_then (λ w. if may_withdraw M us k w then Some (withdraw_effect M s S us k w) else None) o) spot
    ∙ ap (λ b. if b then Some (withdraw_effect M s S us k u) else None) may

pub withdraws_to : (ms : List Rule) (s : Settings) (k : ℕ) (es es' : List Entry) (rs rs' : List QueuedUpdate) (v v' : Kept) (left : Aftermath) (e : Entry) → k < length rs
    → IsLossPreparedAt ms s k v rs v' left → IsRemoved k left.fresh.items rs rs' → AreFrom 1 rs' → length rs' ≡ length rs
    → TellsWithdrawal k left.causes rs' e → es' ≡ es ++ e ∷ [] → WithdrawsTo ms s k v rs es v' rs' es'
withdraws_to ms s k es es' rs rs' v v' left e l prepared removed numbers long told grew B D requests later kept allowed =
    let g : Ground = ground_with ms s B D requests later in
    let us : List (Update (caused_chase ms B)) = updates_of ms B rs in
    let at_rs : (r : QueuedUpdate) × (slice_get rs k ≡ Some r) = queued_placed rs k l in
    let r : QueuedUpdate = at_rs.0 in
    let u : Update (caused_chase ms B) = update_of ms B r in
    let at_us : slice_get us k ≡ Some u = slice_get-map (update_of ms B) rs k ∙ ap (option_map (update_of ms B)) at_rs.1 in
    let may : may_withdraw (caused_chase ms B) us k u ≡ true = same_Some _ _ (sym (ap (option_map (may_withdraw (caused_chase ms B) us k)) at_us) ∙ allowed) in
    let x : Effect (caused_chase ms B) = withdraw_effect (caused_chase ms B) s (session_over g) us k u in
    let is : IsLossLeft ms B s (committed (caused_chase ms B) us) (suc k) D (take k us) u (drop (suc k) us) v' left = prepared B requests later D (map entry_of es) r kept at_rs.1 in
    let us' : updates_of ms B rs' ≡ x.updates =
    removed ms B r (marks_for ms B left.fresh.items) at_rs.1 (marked_so ms B left.fresh.items)
    ∙ ap (λ (ws : List (Update (caused_chase ms B))). take k us ++ withdrawn_now (caused_chase ms B) u ∷ ws) (is.restarts (marks_for ms B left.fresh.items) (marked_so ms B left.fresh.items)) in
    let entry : entry_kept ms B (entry_of e) ≡ x.entry = ap (entry_kept ms B) (told ms B) ∙ (λ i. Withdrew (suc k) (is.told i) (committed (caused_chase ms B) (us' i))) in
    follows g (map entry_of es) (map entry_of es') rs rs' v v' (Withdraws (suc k)) x (entry_of e) kept (allowed_withdrawal (caused_chase ms B) s (session_over g) us k u at_us may) us' numbers
    long is.versions.stand
    (ap (plain_entry ms B) (sym entry) ∙ entry_back ms B (entry_of e)) (ap (map entry_of) grew ∙ mapped_more es e)

-- With the room that was made in the history.
pub withdraws_from : (ms : List Rule) (s : Settings) (k : ℕ) (v v' : Kept) (rs rs' : List QueuedUpdate) (es between es' : List Entry) → between ≡ es → WithdrawsTo ms s k v rs between v' rs' es' → WithdrawsTo ms s k v rs es v' rs' es'
withdraws_from ms s k v v' rs rs' es between es' e withdraws = subst (λ (xs : List Entry). WithdrawsTo ms s k v rs xs v' rs' es') e withdraws

-- ---- a withdrawal on a core

not_gone : (a w : Bool) (st : Standing) → (a && not (is_withdrawn (if w then Withdrawn else st))) ≡ true → (a && not w) ≡ true
not_gone false w st e = e
not_gone true true st e = e
not_gone true false st e = refl

withdrawn_if : (M : Machine) (s : Settings) (us : List (Update M)) (k : ℕ) (o : Option (Update M)) → is_live_in (option_map (standing M s (committed M us) (suc k)) o) (committed M us) (suc k) ≡ true
    → option_map (may_withdraw M us k) o ≡ Some true
withdrawn_if M s us k None live = let never : false ≡ true = live in absurd cc
withdrawn_if M s us k (Some u) live =
    ap (λ b. Some b)
    (not_gone (nat_lt (committed M us) (suc k)) u.withdrawn (unless_ended (M.outcome u.state) (if is_held M s (committed M us) (suc k) u then Held (suc (committed M us)) else unless_paused (lack M u.answers u.state))) live)

live_stands : (o : Option Standing) (c n : ℕ) → is_live_in o c n ≡ true → (st : Standing) × (o ≡ Some st)
live_stands None c n e = let never : false ≡ true = e in absurd cc
live_stands (Some st) c n e = (st, refl)

-- A live update has a number.
pub live_number : (s : State) (n : ℕ) → is_live_in (standing_at s n) (committed_at s) n ≡ true → (st : Standing) × (standing_at s n ≡ Some st)
live_number s n live = live_stands (standing_at s n) (committed_at s) n live

module _ {R : List RelationSchema} (g : Ground) (v : Kept) (rs : List QueuedUpdate) (es : List Entry) (s : State) (kept : IsKept g v rs (map entry_of es)) (same : record { over = g; history = map entry_of es; relations = R } ≡ s) (n : ℕ) (live : is_live_in (standing_at s n) (committed_at s) n ≡ true) (i : ℕ) (e : suc i ≡ n)
    (qs : List QueuedUpdate) (slice : qs ≡ rs) where
  pub live_within : i < length qs
  live_within =
      let x = live_stands (standing_at s n) (committed_at s) n live in
      subst (λ (xs : List QueuedUpdate). i < length xs) (sym slice) (placed_within g v rs (map entry_of es) s kept same n x.0 x.1 i (sym e))

  pub core_withdraws : (v' : Kept) (qs' : List QueuedUpdate) (es' : List Entry) → WithdrawsTo g.rules g.settings i v qs es v' qs' es' → Follows g (Withdraws n) (map entry_of es) v' qs' (map entry_of es')
  core_withdraws v' qs' es' withdraws =
      let us : List (Update (machine g)) = updates_of g.rules g.budget rs in
      let live_here : is_live_in (option_map (standing (machine g) g.settings (committed (machine g) us) (suc i)) (slice_get us i)) (committed (machine g) us) (suc i) ≡ true =
      ap (λ m. is_live_in (option_map (standing (machine g) g.settings (committed (machine g) us) m) (numbered_at us m)) (committed (machine g) us) m) e
      ∙ sym (ap (λ (ws : List (Update (machine g))). is_live_in (option_map (standing (machine g) g.settings (committed (machine g) ws) n) (numbered_at ws n)) (committed (machine g) ws) n) kept.left.leaves)
      ∙ ap (λ (t : State). is_live_in (standing_at t n) (committed_at t) n) same ∙ live in
      let made : Follows g (Withdraws (suc i)) (map entry_of es) v' qs' (map entry_of es') =
      subst (λ (xs : List QueuedUpdate). WithdrawsTo g.rules g.settings i v xs es v' qs' es') slice withdraws g.budget g.base g.requests g.later kept (withdrawn_if (machine g) g.settings us i (slice_get us i) live_here) in
      subst (λ (m : ℕ). Follows g (Withdraws m) (map entry_of es) v' qs' (map entry_of es')) e made

-- The same queued updates.
pub same_all : (rs rs' : List QueuedUpdate) → rs' ≡ rs → AreSame rs rs'
same_all rs rs' e = record { updates = λ ms B. ap (updates_of ms B) e; numbers = λ a. subst (λ (xs : List QueuedUpdate). AreFrom 1 xs) (sym e) a }
