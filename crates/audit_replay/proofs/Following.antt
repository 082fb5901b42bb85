-- Events at a place of a replay follow, or are not allowed.
use Rattle.std.proofs.Common.{◌≡◌, ◌∙◌, ap, refl, sym, subst, ℕ, zero, suc, ◌<◌, ◌≤◌, ◌+◌, Bool, true, false, ◌&&◌, nat_lt, take, drop, Some, None, List, [], ◌∷◌, ◌++◌, map, length, arith}
use Rattle.std.specs.Prelude.{if◌then◌else◌, option_map, option_and_then, slice_get}
use Rattle.std.proofs.lemmas.List.{map-append}
use Rattle.std.proofs.lemmas.Bool.{ltb-true, ltb-false}
use Rattle.std.proofs.lemmas.Option.{same_Some, none-some, slice_get-map}
use Rattle.base_types.specs.Listed.{Listed}
use Rattle.base_types.specs.Meanings.{choice_of, operation_of}
use Rattle.base_types.specs.declared.updates.Write.{Write}
use Rattle.core_entries.specs.Meanings.{cause_of, entry_of}
use Rattle.core_entries.specs.declared.causes.Cause.{Cause as CauseOfProgram}
use Rattle.core_entries.specs.declared.entries.Entry.{Entry}
use Rattle.def_history.specs.Cores.{Ground, machine, session_over, effect_after}
use Rattle.core_entries.specs.declared.entries.Entry.TheVariants.{Admitted as AdmittedEntry}
use Rattle.def_history.specs.Histories.{submissions}
use Rattle.def_history.specs.PlainEntries.{PlainEntry, WasAdmitted, WasAnswered, WasDelivered, cause_kept, entry_kept, plain_entry}
use Rattle.def_history.proofs.Keeping.{entry_back}
use Rattle.def_machine.specs.Cascade.{is_live, readers, restarted}
use Rattle.def_machine.specs.Effects.{Event, Admits, Answers, Delivers, Steps, Withdraws, Stepped, Withdrew, Effect, admit_effect, admitted, answer_effect, answered, causes_of_loss, causes_of_step, deliver_effect, delivered, effect, fits_question, may_answer, may_deliver, may_step, may_withdraw, step_effect, where_allowed, withdraw_effect, withdrawn_now}
use Rattle.def_machine.specs.Machine.{Machine}
use Rattle.def_machine.specs.Standings.{is_deliverable, is_paused, is_ready, standing}
use Rattle.def_machine.specs.Steps.{stepped}
use Rattle.def_machine.specs.Updates.{Settings, Submission, Update, below, committed, trail}
use Rattle.def_machine.proofs.Places.{put_here, take_put}
use Rattle.def_chase.specs.Mappings.{Rule}
use Rattle.def_chase.specs.Repository.{Change, apply}
use Rattle.def_chase.specs.Updates.{Choice}
use Rattle.def_chase.specs.Values.{Fact}
use Rattle.chase_plan.specs.declared.plans.Plan.{Plan}
use Rattle.lang_session.specs.Meanings.{request_of, update_of as session_update_of}
use Rattle.lang_session.specs.declared.sessions.SessionUpdate.{SessionUpdate}
use Rattle.def_steps.specs.Chase.{caused_chase}
use Rattle.audit_updates.specs.Events.{IsAdmitted}
use Rattle.audit_updates.specs.Programs.{HasWritten, IsPlanOf}
use Rattle.audit_updates.specs.Updates.{AreFrom, StandsAt, update_of, updates_of}
use Rattle.audit_updates.specs.Settings.{settings_of}
use Rattle.audit_updates.specs.Order.{HasCommitted}
use Rattle.audit_updates.specs.declared.updates.AuditedUpdate.{AuditedUpdate}
use Rattle.audit_replay.specs.Causes.{AreOfLoss, causes_meant}
use Rattle.audit_replay.specs.Levels.{top}
use Rattle.audit_replay.specs.Met.{AreValid}
use Rattle.audit_replay.specs.Places.{HaveCome, StandOn, trail_of}
use Rattle.audit_replay.specs.Replays.{HasGrown, IsReplayOf, place_in}
use Rattle.audit_replay.specs.Steps.{AreOfStep, IsAnswered, IsDeliverableOf, IsDelivered, IsLiveOf, IsReadyOf, IsRemoved, IsStepMade, TakesOf, TellsStep, TellsWithdrawal}
use Rattle.audit_replay.specs.declared.replays.Replay.{Replay}
use Rattle.audit_replay.proofs.Causing.{readers_are}
use Rattle.audit_replay.proofs.Making.{below_sorted, follows, refused_unwritten, stand_same, top_is, valid_above}
use Rattle.audit_replay.proofs.Restarting.{from_on, stands_at, within}
use Rattle.audit_replay.proofs.Risen.{mapped_long}

-- ---- lists

map_twice : {A B C : Type 0} (f : B → C) (g : A → B) (xs : List A) → map f (map g xs) ≡ map (λ x. f (g x)) xs
map_twice f g [] = refl
map_twice f g (x ∷ xs) = ap (λ ys. f (g x) ∷ ys) (map_twice f g xs)

dropped_map : {A B : Type 0} (f : A → B) (xs : List A) (k : ℕ) → map f (drop k xs) ≡ drop k (map f xs)
dropped_map f xs zero = refl
dropped_map f [] (suc k) = refl
dropped_map f (x ∷ xs) (suc k) = dropped_map f xs k

trails_taken : (ms : List Rule) (B : ℕ) (rs : List AuditedUpdate) (k : ℕ) → map trail_of (take k rs) ≡ map (trail (caused_chase ms B)) (take k (updates_of ms B rs))
trails_taken ms B rs zero = refl
trails_taken ms B [] (suc k) = refl
trails_taken ms B (r ∷ rs) (suc k) = ap (λ wss. trail_of r ∷ wss) (trails_taken ms B rs k)

from_mapped : {A B : Type 0} (f : A → B) (xs : List A) (k : ℕ) (y : B) → slice_get (map f xs) k ≡ Some y → (x : A) × (slice_get xs k ≡ Some x) × (f x ≡ y)
from_mapped f [] k y e = absurd (none-some y e)
from_mapped f (x ∷ xs) zero y e = (x, refl, same_Some (f x) y e)
from_mapped f (x ∷ xs) (suc k) y e = from_mapped f xs k y e

-- ---- whether an event is allowed

-- The place of an update that there is.
pub placed : (rs : List AuditedUpdate) (n k : ℕ) → Some k ≡ place_in rs n → (n ≡ suc k) × (k < length rs)
placed rs zero k e = absurd (none-some k (sym e))
placed rs (suc m) k e = by (nat_lt m (length rs)) refl e
  where
    by : (b : Bool) → nat_lt m (length rs) ≡ b → Some k ≡ (if b then Some m else None) → (suc m ≡ suc k) × (k < length rs)
    by true f h = let same : m ≡ k = sym (same_Some k m h) in (ap suc same, subst (λ (i : ℕ). i < length rs) same (ltb-true m (length rs) f))
    by false f h = absurd (none-some k (sym h))

nothing_there : {A : Type 0} (xs : List A) (k : ℕ) → length xs ≤ k → slice_get xs k ≡ None
nothing_there [] k l = refl
nothing_there (x ∷ xs) zero l = absurd (omega (arith, l))
nothing_there (x ∷ xs) (suc k) l = nothing_there xs k (omega (arith, l))

-- Nothing is done at an update that is not there.
pub not_there : {C : Type 0} (ms : List Rule) (B : ℕ) (rs : List AuditedUpdate) (n : ℕ) (allowed : ℕ → Update (caused_chase ms B) → Bool) (f : ℕ → Update (caused_chase ms B) → C) → None ≡ place_in rs n → where_allowed (updates_of ms B rs) n allowed f ≡ None
not_there ms B rs zero allowed f e = refl
not_there {C} ms B rs (suc m) allowed f e = by (nat_lt m (length rs)) refl e
  where
    by : (b : Bool) → nat_lt m (length rs) ≡ b → None ≡ (if b then Some m else None) → where_allowed {B = C} (updates_of ms B rs) (suc m) allowed f ≡ None
    by true g h = absurd (none-some m h)
    by false g h =
        let long = mapped_long (update_of ms B) rs in
        let l : length rs ≤ m = ltb-false m (length rs) g in
        let few : length (updates_of ms B rs) ≤ m = omega (arith, long, l) in
        ap (λ o. option_and_then (λ u. if allowed m u then Some (f m u) else None) o) (nothing_there (updates_of ms B rs) m few)

there : (ms : List Rule) (B : ℕ) (rs : List AuditedUpdate) (k : ℕ) (x : AuditedUpdate) → slice_get rs k ≡ Some x → slice_get (updates_of ms B rs) k ≡ Some (update_of ms B x)
there ms B rs k x spot = slice_get-map (update_of ms B) rs k ∙ ap (option_map (update_of ms B)) spot

-- What is done, or not, where an update is.
pub done_at : {C : Type 0} (ms : List Rule) (B : ℕ) (rs : List AuditedUpdate) (k : ℕ) (x : AuditedUpdate) (allowed : ℕ → Update (caused_chase ms B) → Bool) (f : ℕ → Update (caused_chase ms B) → C) (b : Bool) → slice_get rs k ≡ Some x → allowed k (update_of ms B x) ≡ b
    → where_allowed (updates_of ms B rs) (suc k) allowed f ≡ (if b then Some (f k (update_of ms B x)) else None)
done_at ms B rs k x allowed f b spot e =
    ap (λ o. option_and_then (λ u. if allowed k u then Some (f k u) else None) o) (there ms B rs k x spot) ∙ ap (λ c. if c then Some (f k (update_of ms B x)) else None) e

-- ---- what is told

causes_kept : (ms : List Rule) (B : ℕ) (cs : List CauseOfProgram) → map (cause_kept ms B) (map cause_of cs) ≡ causes_meant ms B cs
causes_kept ms B cs = map_twice (cause_kept ms B) cause_of cs

module _ (g : Ground) (H : List PlainEntry) (r r' : Replay) (i : ℕ) (x : AuditedUpdate) (k : IsReplayOf g H r) (spot : slice_get r.updates.items i ≡ Some x) (levels : List (List Fact)) (come : HaveCome i r.updates.items r.levels levels)
    (mappings : r'.mappings ≡ r.mappings) (budget : r'.budget ≡ r.budget) (settings : r'.settings ≡ r.settings) (handed : r'.handed ≡ r.handed) (kept : r'.levels ≡ levels) (numbers : AreFrom 1 r'.updates.items) where
  abbrev M : Machine
  M = machine g

  abbrev us : List (Update M)
  us = updates_of g.rules g.budget r.updates.items

  abbrev u : Update M
  u = update_of g.rules g.budget x

  abbrev D : List Fact
  D = below M g.base us i

  stands : StandOn g.base r.updates.items i levels
  stands = come g.base k.height k.within k.levels

  lies : top levels ≡ D
  lies = top_is g H r k i levels stands

  at_us : slice_get us i ≡ Some u
  at_us = there g.rules g.budget r.updates.items i x spot

  number : x.program.attempt.number ≡ suc i
  number = let one : 1 + i ≡ suc i = omega arith in (stands_at r.updates.items 1 i x k.numbers spot).number ∙ one

  few : i ≤ length us
  few = let l = within us i u at_us in omega (arith, l)

  upper : updates_of g.rules g.budget (drop (suc i) r.updates.items) ≡ drop (suc i) us
  upper = dropped_map (update_of g.rules g.budget) r.updates.items (suc i)

  above : AreFrom (suc x.program.attempt.number) (drop (suc i) r.updates.items)
  above =
      let next : suc (suc i) ≡ 1 + suc i = omega arith in from_on r.updates.items 1 (suc i) (suc x.program.attempt.number) (ap suc number ∙ next) k.numbers

  -- Where update w is put at the place, the event follows.
  put_follows : (e : Event M) (y : Effect M) (entry : Entry) (w : Update M) (rest : List (Update M)) → effect M g.settings (session_over g) us e ≡ Some y → y.updates ≡ take i us ++ w ∷ rest → updates_of g.rules g.budget r'.updates.items ≡ take i us ++ w ∷ rest
      → ((z : AuditedUpdate) → slice_get r'.updates.items i ≡ Some z → update_of g.rules g.budget z ≡ w → updates_of g.rules g.budget r'.updates.items ≡ y.updates → entry_kept g.rules g.budget (entry_of entry) ≡ y.entry) → HasGrown g H e entry r'
  put_follows e y entry w rest made puts is told =
      let us' : updates_of g.rules g.budget r'.updates.items ≡ y.updates = is ∙ sym puts in
      let found = from_mapped (update_of g.rules g.budget) r'.updates.items i w (ap (λ (vs : List (Update M)). slice_get vs i) is ∙ put_here us w rest i few) in
      let l : i < length r'.updates.items = within r'.updates.items i found.0 found.1 in
      let le : i ≤ length r'.updates.items = omega (arith, l) in
      let same : take i (updates_of g.rules g.budget r'.updates.items) ≡ take i us =
      ap (λ (vs : List (Update M)). take i vs) is ∙ (let refl_le : i ≤ i = omega arith in take_put us (w ∷ rest) i i refl_le few) in
      follows g H r r' e y entry i k made mappings budget settings handed us' numbers le
      (stand_same g.base r.updates.items r'.updates.items i r'.levels
      (trails_taken g.rules g.budget r'.updates.items i ∙ ap (map (trail M)) same ∙ sym (trails_taken g.rules g.budget r.updates.items i)) (subst (λ (Ls : List (List Fact)). StandOn g.base r.updates.items i Ls) (sym kept) stands))
      (ap (plain_entry g.rules g.budget) (sym (told found.0 found.1 found.2 us')) ∙ entry_back g.rules g.budget (entry_of entry))

  -- ---- a step

  pub step_follows : (plan : Plan) (c attempt : ℕ) (writes : Listed Write) (causes : Listed CauseOfProgram) (entry : Entry) → HasCommitted r.updates.items c → IsReadyOf (settings_of r.settings) c (suc i) x
      → IsPlanOf r.mappings r.budget (top levels) x plan → AreOfStep r.mappings (settings_of r.settings).deps c x plan (top levels) (drop (suc i) r.updates.items) causes.items
      → HasWritten x plan writes.items → attempt ≡ x.program.attempt.attempt
      → IsStepMade i plan causes.items r.updates.items r'.updates.items → TellsStep (settings_of r.settings) i attempt writes causes r'.updates.items entry → HasGrown g H (Steps (suc i)) entry r'
  step_follows plan c attempt writes causes entry counts ready planned are written same_attempt made told =
      let v : Update M = stepped M D u in
      let isplan : IsPlanOf g.rules g.budget D x plan = subst (λ (E : List Fact). IsPlanOf g.rules g.budget E x plan) lies (subst (λ (b : ℕ). IsPlanOf g.rules b (top levels) x plan) k.budget (subst (λ (ms : List Rule). IsPlanOf ms r.budget (top levels) x plan) k.rules planned)) in
      let may : is_ready (standing M g.settings (committed M us) (suc i) u) ≡ true = sym (λ t. is_ready (standing M (k.settings t) (counts g.rules g.budget t) (suc i) u)) ∙ ready g.rules g.budget in
      let causing : AreOfStep g.rules g.settings.deps c x plan D (drop (suc i) r.updates.items) causes.items =
      subst (λ (E : List Fact). AreOfStep g.rules g.settings.deps c x plan E (drop (suc i) r.updates.items) causes.items) lies
      (subst (λ (s : Settings). AreOfStep g.rules s.deps c x plan (top levels) (drop (suc i) r.updates.items) causes.items) k.settings (subst (λ (ms : List Rule). AreOfStep ms (settings_of r.settings).deps c x plan (top levels) (drop (suc i) r.updates.items) causes.items) k.rules are)) in
      let names : causes_meant g.rules g.budget causes.items ≡ causes_of_step M g.settings.deps (committed M us) (suc i) D u v (drop (suc i) us) =
      causing g.budget (committed M us) (suc i) g.settings isplan may (refused_unwritten g H r k i (committed M us) (suc i) x spot may) above (below_sorted g H r k i)
      (subst (λ (n : ℕ). AreValid M (suc n) (apply D (trail M u)) (updates_of g.rules g.budget (drop (suc i) r.updates.items))) (sym number)
      (subst (λ (vs : List (Update M)). AreValid M (suc (suc i)) (apply D (trail M u)) vs) (sym upper) (valid_above g H r k i u at_us)))
      ∙ (λ t. causes_of_step M g.settings.deps (counts g.rules g.budget t) (number t) D u v (upper t)) in
      let y : Effect M = step_effect M g.settings (session_over g) us i u in
      let rest : List (Update M) = restarted M (readers (causes_of_step M g.settings.deps (committed M us) (suc i) D u v (drop (suc i) us))) (suc (suc i)) (drop (suc i) us) in
      put_follows (Steps (suc i)) y entry v rest (done_at g.rules g.budget r.updates.items i x (may_step M g.settings us) (step_effect M g.settings (session_over g) us) true spot may) refl
      (made g.rules g.budget D x spot isplan ∙ ap (λ ns. take i us ++ v ∷ restarted M ns (suc (suc i)) (drop (suc i) us)) (readers_are g.rules g.budget causes.items ∙ ap readers names))
      (λ z at_z is us'. ap (entry_kept g.rules g.budget) (told g.rules g.budget z at_z)
      ∙ (λ t. Stepped (record {
        update = suc i;
        attempt = same_attempt t;
        standing = standing M (k.settings t) (committed M (us' t)) (suc i) (is t);
        writes = written g.rules g.budget D isplan t;
        causes = (causes_kept g.rules g.budget causes.items ∙ names) t;
        committed = committed M (us' t);
      })))

  -- ---- a withdrawal

  pub withdrawal_follows : (c : ℕ) (causes : Listed CauseOfProgram) (entry : Entry) → HasCommitted r.updates.items c → IsLiveOf c (suc i) x
      → AreOfLoss r.mappings (settings_of r.settings).deps c (suc i) (trail_of x) (top levels) (drop (suc i) r.updates.items) causes.items
      → IsRemoved i causes.items r.updates.items r'.updates.items → TellsWithdrawal i causes r'.updates.items entry → HasGrown g H (Withdraws (suc i)) entry r'
  withdrawal_follows c causes entry counts live are made told =
      let v : Update M = withdrawn_now M u in
      let may : may_withdraw M us i u ≡ true = sym (λ t. is_live M (counts g.rules g.budget t) (suc i) u) ∙ live g.rules g.budget in
      let causing : AreOfLoss g.rules g.settings.deps c (suc i) (trail_of x) D (drop (suc i) r.updates.items) causes.items =
      subst (λ (E : List Fact). AreOfLoss g.rules g.settings.deps c (suc i) (trail_of x) E (drop (suc i) r.updates.items) causes.items) lies
      (subst (λ (s : Settings). AreOfLoss g.rules s.deps c (suc i) (trail_of x) (top levels) (drop (suc i) r.updates.items) causes.items) k.settings (subst (λ (ms : List Rule). AreOfLoss ms (settings_of r.settings).deps c (suc i) (trail_of x) (top levels) (drop (suc i) r.updates.items) causes.items) k.rules are)) in
      let names : causes_meant g.rules g.budget causes.items ≡ causes_of_loss M g.settings.deps (committed M us) (suc i) D u (drop (suc i) us) =
      causing g.budget u refl (subst (λ (m : ℕ). AreFrom (suc m) (drop (suc i) r.updates.items)) number above) (below_sorted g H r k i)
      (subst (λ (ws : List (Update M)). AreValid M (suc (suc i)) (apply D (trail M u)) ws) (sym upper) (valid_above g H r k i u at_us))
      ∙ (λ t. causes_of_loss M g.settings.deps (counts g.rules g.budget t) (suc i) D u (upper t)) in
      let y : Effect M = withdraw_effect M g.settings (session_over g) us i u in
      let rest : List (Update M) = restarted M (readers (causes_of_loss M g.settings.deps (committed M us) (suc i) D u (drop (suc i) us))) (suc (suc i)) (drop (suc i) us) in
      put_follows (Withdraws (suc i)) y entry v rest (done_at g.rules g.budget r.updates.items i x (may_withdraw M us) (withdraw_effect M g.settings (session_over g) us) true spot may) refl
      (made g.rules g.budget x spot ∙ ap (λ ns. take i us ++ v ∷ restarted M ns (suc (suc i)) (drop (suc i) us)) (readers_are g.rules g.budget causes.items ∙ ap readers names))
      (λ z at_z is us'. ap (entry_kept g.rules g.budget) (told g.rules g.budget) ∙ (λ t. Withdrew (suc i) ((causes_kept g.rules g.budget causes.items ∙ names) t) (committed M (us' t))))

-- ---- events that change no trail

-- Another update with the same trail at a place.
same_trails : {A : Type 0} (f : A → List Change) (xs : List A) (i h : ℕ) (x y : A) → slice_get xs i ≡ Some x → f y ≡ f x → map f (take h (take i xs ++ y ∷ drop (suc i) xs)) ≡ map f (take h xs)
same_trails f [] i h x y e t = absurd (none-some x e)
same_trails f (z ∷ xs) zero zero x y e t = refl
same_trails f (z ∷ xs) zero (suc h) x y e t = λ j. (t ∙ ap f (sym (same_Some z x e))) j ∷ map f (take h xs)
same_trails f (z ∷ xs) (suc i) zero x y e t = refl
same_trails f (z ∷ xs) (suc i) (suc h) x y e t = ap (λ l. f z ∷ l) (same_trails f xs i h x y e t)

same_length : {A : Type 0} (xs : List A) (i : ℕ) (x y : A) → slice_get xs i ≡ Some x → length (take i xs ++ y ∷ drop (suc i) xs) ≡ length xs
same_length [] i x y e = absurd (none-some x e)
same_length (z ∷ xs) zero x y e = refl
same_length (z ∷ xs) (suc i) x y e = ap suc (same_length xs i x y e)

module _ (g : Ground) (H : List PlainEntry) (r r' : Replay) (i : ℕ) (x : AuditedUpdate) (k : IsReplayOf g H r) (spot : slice_get r.updates.items i ≡ Some x)
    (mappings : r'.mappings ≡ r.mappings) (budget : r'.budget ≡ r.budget) (settings : r'.settings ≡ r.settings) (handed : r'.handed ≡ r.handed) (kept : r'.levels ≡ r.levels) (numbers : AreFrom 1 r'.updates.items) where
  abbrev N : Machine
  N = machine g

  abbrev vs : List (Update N)
  vs = updates_of g.rules g.budget r.updates.items

  abbrev before : Update N
  before = update_of g.rules g.budget x

  changed_follows : (e : Event N) (y : Effect N) (entry : Entry) (w : Update N) → effect N g.settings (session_over g) vs e ≡ Some y → y.updates ≡ take i vs ++ w ∷ drop (suc i) vs → trail N w ≡ trail N before
      → updates_of g.rules g.budget r'.updates.items ≡ take i vs ++ w ∷ drop (suc i) vs → (updates_of g.rules g.budget r'.updates.items ≡ y.updates → plain_entry g.rules g.budget y.entry ≡ entry_of entry) → HasGrown g H e entry r'
  changed_follows e y entry w made puts same is told =
      let us' : updates_of g.rules g.budget r'.updates.items ≡ y.updates = is ∙ sym puts in
      let at_us : slice_get vs i ≡ Some before = there g.rules g.budget r.updates.items i x spot in
      let long = mapped_long (update_of g.rules g.budget) r.updates.items in
      let long' = mapped_long (update_of g.rules g.budget) r'.updates.items in
      let longer : length (updates_of g.rules g.budget r'.updates.items) ≡ length vs = ap (λ (ws : List (Update N)). length ws) is ∙ same_length vs i before w at_us in
      let le : k.height ≤ length r'.updates.items = omega (arith, k.within, long, long', longer) in
      follows g H r r' e y entry k.height k made mappings budget settings handed us' numbers le
      (stand_same g.base r.updates.items r'.updates.items k.height r'.levels
      (trails_taken g.rules g.budget r'.updates.items k.height ∙ ap (λ (ws : List (Update N)). map (trail N) (take k.height ws)) is ∙ same_trails (trail N) vs i k.height before w at_us same ∙ sym (trails_taken g.rules g.budget r.updates.items k.height))
      (subst (λ (Ls : List (List Fact)). StandOn g.base r.updates.items k.height Ls) (sym kept) k.levels)) (told us')

  pub delivery_follows : (entry : Entry) → IsDeliverableOf (settings_of r.settings) i r.updates.items → IsDelivered (settings_of r.settings) i r.updates.items r'.updates.items entry → HasGrown g H (Delivers (suc i)) entry r'
  delivery_follows entry deliverable made =
      let w : Update N = delivered N before in
      let may : may_deliver N g.settings vs i before ≡ true = sym (λ t. is_deliverable N (k.settings t) (committed N vs) (suc i) before) ∙ deliverable g.rules g.budget x spot in
      let is = made g.rules g.budget x spot in
      changed_follows (Delivers (suc i)) (deliver_effect N g.settings vs i before) entry w (done_at g.rules g.budget r.updates.items i x (may_deliver N g.settings vs) (deliver_effect N g.settings vs) true spot may) refl refl is.0
      (λ us'. sym (is.1 ∙ (λ t. WasDelivered (record { update = suc i; standing = standing N (k.settings t) (committed N (us' t)) (suc i) w }))))

  pub answer_follows : (entry : Entry) (a : Choice) → TakesOf (settings_of r.settings) a i r.updates.items → IsAnswered (settings_of r.settings) i a r.updates.items r'.updates.items entry → HasGrown g H (Answers (suc i) a) entry r'
  answer_follows entry a takes made =
      let w : Update N = answered N before a in
      let may : may_answer N g.settings vs a i before ≡ true = sym (λ t. is_paused (standing N (k.settings t) (committed N vs) (suc i) before) && fits_question N (N.question before.state) a) ∙ takes g.rules g.budget x spot in
      let is = made g.rules g.budget x spot in
      changed_follows (Answers (suc i) a) (answer_effect N g.settings vs a i before) entry w (done_at g.rules g.budget r.updates.items i x (may_answer N g.settings vs a) (answer_effect N g.settings vs a) true spot may) refl refl is.0
      (λ us'. sym (is.1 ∙ (λ t. WasAnswered (record { update = suc i; choice = a; standing = standing N (k.settings t) (committed N (us' t)) (suc i) w }))))

-- ---- admissions

-- What was handed in, as a history's session has it.
abbrev handed_in : (ms : List Rule) (B : ℕ) → SessionUpdate → Submission (caused_chase ms B)
handed_in ms B h = record { operation = operation_of h.update.operation; answers = map choice_of h.answers.items }

submission_at : (ms : List Rule) (B : ℕ) (hs : List SessionUpdate) (n : ℕ) → slice_get (submissions ms B (map request_of (map session_update_of hs) ++ [])) n ≡ option_map (handed_in ms B) (slice_get hs n)
submission_at ms B [] n = refl
submission_at ms B (h ∷ hs) zero = refl
submission_at ms B (h ∷ hs) (suc n) = submission_at ms B hs n

next_is : (g : Ground) (H : List PlainEntry) (r : Replay) → IsReplayOf g H r
    → effect (machine g) g.settings (session_over g) (updates_of g.rules g.budget r.updates.items) Admits ≡ option_map (admit_effect (machine g) (updates_of g.rules g.budget r.updates.items)) (option_map (handed_in g.rules g.budget) (slice_get r.handed.now (length r.updates.items)))
next_is g H r k =
    let us = updates_of g.rules g.budget r.updates.items in
    ap (option_map (admit_effect (machine g) us))
    ((λ t. slice_get (submissions g.rules g.budget (sym k.requests t ++ map (λ op. record { operation = op; answers = [] }) (k.later t))) (mapped_long (update_of g.rules g.budget) r.updates.items t))
    ∙ submission_at g.rules g.budget r.handed.now (length r.updates.items))

-- Nothing is left to admit.
pub none_admitted : (g : Ground) (H : List PlainEntry) (r : Replay) → IsReplayOf g H r → None ≡ slice_get r.handed.now (length r.updates.items) → effect_after g H Admits ≡ None
none_admitted g H r k e =
    ap (λ (ws : List (Update (machine g))). effect (machine g) g.settings (session_over g) ws Admits) k.left.leaves ∙ next_is g H r k
    ∙ ap (λ o. option_map (admit_effect (machine g) (updates_of g.rules g.budget r.updates.items)) (option_map (handed_in g.rules g.budget) o)) (sym e)

from_more : (n : ℕ) (rs : List AuditedUpdate) (x : AuditedUpdate) → AreFrom n rs → StandsAt (n + length rs) x → AreFrom n (rs ++ x ∷ [])
from_more n [] x a s = let same : n + 0 ≡ n = omega arith in (subst (λ (m : ℕ). StandsAt m x) same s, tt)
from_more n (q ∷ rs) x a s = let same : n + suc (length rs) ≡ suc n + length rs = omega arith in (a.0, from_more (suc n) rs x a.1 (subst (λ (m : ℕ). StandsAt m x) same s))

taken_more : {A : Type 0} (xs ys : List A) (h : ℕ) → h ≤ length xs → take h (xs ++ ys) ≡ take h xs
taken_more xs ys zero l = refl
taken_more [] ys (suc h) l = absurd (omega (arith, l))
taken_more (x ∷ xs) ys (suc h) l = ap (λ zs. x ∷ zs) (taken_more xs ys h (omega (arith, l)))

longer_by : {A : Type 0} (xs : List A) (x : A) → length (xs ++ x ∷ []) ≡ suc (length xs)
longer_by [] x = refl
longer_by (y ∷ xs) x = ap suc (longer_by xs x)

-- The next update is admitted.
pub admission_follows : (g : Ground) (H : List PlainEntry) (r r' : Replay) (next : SessionUpdate) (n : ℕ) (x : AuditedUpdate) → IsReplayOf g H r → Some next ≡ slice_get r.handed.now (length r.updates.items) → n ≡ suc (length r.updates.items)
    → IsAdmitted n next.update next.answers x → StandsAt n x → r'.mappings ≡ r.mappings → r'.budget ≡ r.budget → r'.settings ≡ r.settings → r'.handed ≡ r.handed → r'.levels ≡ r.levels → r'.updates.items ≡ r.updates.items ++ x ∷ []
    → HasGrown g H Admits (AdmittedEntry n) r'
admission_follows g H r r' next n x k there_next number admits stands mappings budget settings handed kept grew =
    let M = machine g in
    let us : List (Update M) = updates_of g.rules g.budget r.updates.items in
    let y : Effect M = admit_effect M us (handed_in g.rules g.budget next) in
    let long : length us ≡ length r.updates.items = mapped_long (update_of g.rules g.budget) r.updates.items in
    let at : n ≡ suc (length us) = number ∙ sym (ap suc long) in
    let made : effect M g.settings (session_over g) us Admits ≡ Some y = next_is g H r k ∙ ap (λ o. option_map (admit_effect M us) (option_map (handed_in g.rules g.budget) o)) (sym there_next) in
    let us' : updates_of g.rules g.budget r'.updates.items ≡ y.updates =
    ap (updates_of g.rules g.budget) grew ∙ map-append (update_of g.rules g.budget) r.updates.items (x ∷ []) ∙ ap (λ (v : Update M). us ++ v ∷ []) (admits g.rules g.budget ∙ ap (λ m. admitted M m (handed_in g.rules g.budget next)) at) in
    let one : n ≡ 1 + length r.updates.items = omega (arith, number) in
    let numbers : AreFrom 1 r'.updates.items = subst (λ (rs : List AuditedUpdate). AreFrom 1 rs) (sym grew) (from_more 1 r.updates.items x k.numbers (subst (λ (m : ℕ). StandsAt m x) one stands)) in
    let longer : length r'.updates.items ≡ suc (length r.updates.items) = ap (λ (rs : List AuditedUpdate). length rs) grew ∙ longer_by r.updates.items x in
    let le : k.height ≤ length r'.updates.items = omega (arith, k.within, longer) in
    follows g H r r' Admits y (AdmittedEntry n) k.height k made mappings budget settings handed us' numbers le
    (stand_same g.base r.updates.items r'.updates.items k.height r'.levels (ap (λ (rs : List AuditedUpdate). map trail_of (take k.height rs)) grew ∙ ap (map trail_of) (taken_more r.updates.items (x ∷ []) k.height k.within))
    (subst (λ (Ls : List (List Fact)). StandOn g.base r.updates.items k.height Ls) (sym kept) k.levels))
    (ap WasAdmitted (sym at))
