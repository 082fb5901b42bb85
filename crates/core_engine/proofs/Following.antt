-- An event that was made on the parts of a core follows, and what is left are the parts of a core.
use Rattle.std.proofs.Common.{◌≡◌, ◌-◌, ◌∙◌, ap, refl, sym, subst, ℕ, zero, suc, ◌<◌, ◌≤◌, ◌+◌, ◌^◌, true, false, Option, Some, None, List, [], ◌∷◌, ◌++◌, map, take, drop, length, get_or, arith}
use Rattle.std.specs.Prelude.{if◌then◌else◌, is_some, option_map, option_and_then, slice_get}
use Rattle.std.proofs.lemmas.Option.{same_Some, none-some, slice_get-map}
use Rattle.core_entries.specs.Meanings.{entry_of}
use Rattle.core_entries.specs.declared.entries.Entry.{Entry}
use Rattle.def_history.specs.Cores.{Ground, machine, session_over, effect_after}
use Rattle.def_history.specs.CoreLaws.{Leave}
use Rattle.def_history.specs.PlainEntries.{PlainEntry, plain_entry, entry_kept}
use Rattle.def_history.proofs.Keeping.{histories_are_kept, entry_back}
use Rattle.def_machine.specs.Machine.{Machine}
use Rattle.def_machine.specs.Cascade.{Cause, Depends}
use Rattle.def_machine.specs.Effects.{Event, Steps, Effect, effect, step_effect, may_step, Stepped}
use Rattle.def_machine.specs.Standings.{Ready, standing, is_ready}
use Rattle.def_machine.specs.Steps.{stepped}
use Rattle.def_machine.specs.Updates.{Settings, Update, committed, below, trail}
use Rattle.def_machine.proofs.Places.{put_here}
use Rattle.def_chase.specs.Mappings.{Rule}
use Rattle.def_chase.specs.Updates.{Operation}
use Rattle.def_chase.specs.Values.{Fact}
use Rattle.chase_plan.specs.declared.plans.Plan.{Plan}
use Rattle.chase_update.specs.Courses.{State as ProgramState}
use Rattle.core_queue.specs.Programs.{IsPlanOf}
use Rattle.core_queue.specs.Queues.{update_of, updates_of, StandsAt, AreFrom}
use Rattle.core_queue.specs.declared.updates.QueuedUpdate.{QueuedUpdate}
use Rattle.def_steps.specs.Chase.{caused_chase}
use Rattle.def_steps.specs.Serial.{Request}
use Rattle.set_versions.specs.Standing.{Kept}
use Rattle.core_cascade.specs.Held.{AreVersions}
use Rattle.core_engine.specs.Follows.{Follows, ground_with, IsPreparedAt, IsInstalled, TellsStep, StepsTo, meant_of}
use Rattle.core_engine.specs.Kept.{IsKept, HaveTrails}
use Rattle.core_engine.specs.Planned.{IsSomeThat, IsStepOver}
use Rattle.core_engine.specs.Steps.{IsStepLeft, IsPrepared, RanAbove}
use Rattle.core_engine.proofs.Running.{ran_above}
use Rattle.core_engine.specs.declared.stepping.Prepared.{Prepared}

-- ---- any event

pub follows : (g : Ground) (H H' : List PlainEntry) (rs rs' : List QueuedUpdate) (v v' : Kept) (e : Event (machine g)) (x : Effect (machine g)) (told : PlainEntry)
    → IsKept g v rs H → effect (machine g) g.settings (session_over g) (updates_of g.rules g.budget rs) e ≡ Some x
    → updates_of g.rules g.budget rs' ≡ x.updates → AreFrom 1 rs' → length rs' ≡ length rs → HaveTrails g.rules g.budget g.base x.updates v'
    → plain_entry g.rules g.budget x.entry ≡ told → H' ≡ H ++ told ∷ [] → Follows g e H v' rs' H'
follows g H H' rs rs' v v' e x told k made us numbers long trails entry longer =
    let allowed : effect_after g H e ≡ Some x = ap (λ (ws : List (Update (machine g))). effect (machine g) g.settings (session_over g) ws e) k.left.leaves ∙ made in
    let more : Leave g (H ++ plain_entry g.rules g.budget x.entry ∷ []) x.updates = (histories_are_kept g k.budget).grows H e x k.left.legal allowed in
    let same : H ++ plain_entry g.rules g.budget x.entry ∷ [] ≡ H' = (λ i. H ++ entry i ∷ []) ∙ sym longer in
    record {
      grows = ap (option_map (λ (y : Effect (machine g)). H ++ plain_entry g.rules g.budget y.entry ∷ [])) allowed ∙ ap (λ (K : List PlainEntry). Some K) same;
      kept = record {
        left = subst (λ (K : List PlainEntry). Leave g K (updates_of g.rules g.budget rs')) same (subst (λ (ws : List (Update (machine g))). Leave g (H ++ plain_entry g.rules g.budget x.entry ∷ []) ws) (sym us) more);
        numbers = numbers;
        versions = subst (λ (ws : List (Update (machine g))). HaveTrails g.rules g.budget g.base ws v') (sym us) trails;
        sorted = k.sorted;
        budget = k.budget;
        retries = k.retries;
        within = k.within;
        few = subst (λ (n : ℕ). n < 2 ^ 32 - 1) (sym long) k.few;
        all = long ∙ k.all;
      };
    }

-- ---- places

pub taken_long : {A : Type 0} (xs : List A) (k : ℕ) → k ≤ length xs → length (take k xs) ≡ k
taken_long xs zero l = refl
taken_long [] (suc k) l = absurd (omega (arith, l))
taken_long (x ∷ xs) (suc k) l = ap suc (taken_long xs k (omega (arith, l)))

pub there : {A : Type 0} (xs : List A) (k : ℕ) (x : A) → k < length xs → get_or xs k x ≡ x → slice_get xs k ≡ Some x
there [] k x l e = absurd (omega (arith, l))
there (y ∷ xs) zero x l e = ap (λ z. Some z) e
there (y ∷ xs) (suc k) x l e = there xs k x (omega (arith, l)) e

pub cut_at : {A : Type 0} (xs : List A) (k : ℕ) (x : A) → slice_get xs k ≡ Some x → take k xs ++ x ∷ drop (suc k) xs ≡ xs
cut_at [] k x e = absurd (none-some x e)
cut_at (y ∷ xs) zero x e = ap (λ z. z ∷ xs) (sym (same_Some y x e))
cut_at (y ∷ xs) (suc k) x e = ap (λ zs. y ∷ zs) (cut_at xs k x e)

pub dropped_map : {A B : Type 0} (f : A → B) (xs : List A) (k : ℕ) → map f (drop k xs) ≡ drop k (map f xs)
dropped_map f xs zero = refl
dropped_map f [] (suc k) = refl
dropped_map f (x ∷ xs) (suc k) = dropped_map f xs k

pub mapped_long : {A B : Type 0} (f : A → B) (xs : List A) → length (map f xs) ≡ length xs
mapped_long f [] = refl
mapped_long f (x ∷ xs) = ap suc (mapped_long f xs)

-- What stands at a place of a mapped list comes from one there.
pub from_mapped : {A B : Type 0} (f : A → B) (xs : List A) (k : ℕ) (y : B) → slice_get (map f xs) k ≡ Some y → (x : A) × (slice_get xs k ≡ Some x) × (f x ≡ y)
from_mapped f [] k y e = absurd (none-some y e)
from_mapped f (x ∷ xs) zero y e = (x, refl, same_Some (f x) y e)
from_mapped f (x ∷ xs) (suc k) y e = from_mapped f xs k y e

pub within : {A : Type 0} (xs : List A) (k : ℕ) (x : A) → slice_get xs k ≡ Some x → k < length xs
within [] k x e = absurd (none-some x e)
within (y ∷ xs) zero x e = omega arith
within (y ∷ xs) (suc k) x e = omega (arith, within xs k x e)

pub stands_at : (rs : List QueuedUpdate) (n k : ℕ) (r : QueuedUpdate) → AreFrom n rs → slice_get rs k ≡ Some r → StandsAt (n + k) r
stands_at [] n k r a e = absurd (none-some r e)
stands_at (x ∷ rs) n zero r a e = let same : n ≡ n + 0 = omega arith in subst (λ (m : ℕ). StandsAt m r) same (subst (λ (y : QueuedUpdate). StandsAt n y) (same_Some x r e) a.0)
stands_at (x ∷ rs) n (suc k) r a e = let same : suc n + k ≡ n + suc k = omega arith in subst (λ (m : ℕ). StandsAt m r) same (stands_at rs (suc n) k r a.1 e)

pub from_on : (rs : List QueuedUpdate) (n k m : ℕ) → m ≡ n + k → AreFrom n rs → AreFrom m (drop k rs)
from_on rs n zero m e a = let same : n ≡ m = omega (arith, e) in subst (λ (i : ℕ). AreFrom i rs) same a
from_on [] n (suc k) m e a = tt
from_on (r ∷ rs) n (suc k) m e a = from_on rs (suc n) k m (omega (arith, e)) a.1

-- ---- what was prepared at a place

pub prepared_at : (ms : List Rule) (s : Settings) (c k : ℕ) (v v' : Kept) (rs : List QueuedUpdate) (r : QueuedUpdate) (plan : Plan) (p : Prepared) → AreFrom 1 rs → slice_get rs k ≡ Some r
    → ((ms : List Rule) (B : ℕ) → c ≡ committed (caused_chase ms B) (updates_of ms B rs)) → IsPrepared ms s c v r (drop (suc k) rs) plan v' p → IsPreparedAt ms s k plan v rs v' p
prepared_at ms s c k v v' rs r plan p numbers spot counts is B requests later D H r' kept spot' ready isplan =
    let us : List (Update (caused_chase ms B)) = updates_of ms B rs in
    let same : r ≡ r' = same_Some r r' (sym spot ∙ spot') in
    let at_us : slice_get us k ≡ Some (update_of ms B r) = slice_get-map (update_of ms B) rs k ∙ ap (option_map (update_of ms B)) spot in
    let long : length (take k us) ≡ k = taken_long us k (omega (arith, within us k (update_of ms B r) at_us)) in
    let one : 1 + k ≡ suc k = omega arith in
    let number : r.program.attempt.number ≡ suc k = (stands_at rs 1 k r numbers spot).number ∙ one in
    let upper : updates_of ms B (drop (suc k) rs) ≡ drop (suc k) us = dropped_map (update_of ms B) rs (suc k) in
    let all : us ≡ take k us ++ update_of ms B r ∷ updates_of ms B (drop (suc k) rs) = sym (cut_at us k (update_of ms B r) at_us) ∙ sym (ap (λ (ws : List (Update (caused_chase ms B))). take k us ++ update_of ms B r ∷ ws) upper) in
    let versions : AreVersions ms B D (take k us ++ update_of ms B r ∷ updates_of ms B (drop (suc k) rs)) v = subst (λ (ws : List (Update (caused_chase ms B))). AreVersions ms B D ws v) all (record { sorted = kept.sorted; stand = kept.versions }) in
    let may : is_ready (standing (caused_chase ms B) s (committed (caused_chase ms B) us) (suc k) (update_of ms B r)) ≡ true =
    ap (λ (q : QueuedUpdate). is_ready (standing (caused_chase ms B) s (committed (caused_chase ms B) us) (suc k) (update_of ms B q))) same ∙ ap is_ready ready in
    let plan_is : IsPlanOf ms B (below (caused_chase ms B) D us k) r plan = subst (λ (q : QueuedUpdate). IsPlanOf ms B (below (caused_chase ms B) D us k) q plan) (sym same) isplan in
    let left : IsStepLeft ms B s c r.program.attempt.number D (take k us) (update_of ms B r) (updates_of ms B (drop (suc k) rs)) v' p =
    is B D (take k us) (committed (caused_chase ms B) us) (suc k) kept.budget (number ∙ sym (ap suc long))
    (subst (λ (ws : List (Update (caused_chase ms B))). RanAbove ms B D (take k us) (update_of ms B r) ws) (sym upper) (ran_above (ground_with ms s B D requests later) v rs H kept k (update_of ms B r) at_us long)) versions may plan_is in
    let moved : IsStepLeft ms B s (committed (caused_chase ms B) us) (suc k) D (take k us) (update_of ms B r) (updates_of ms B (drop (suc k) rs)) v' p =
    subst (λ (j : ℕ). IsStepLeft ms B s (committed (caused_chase ms B) us) j D (take k us) (update_of ms B r) (updates_of ms B (drop (suc k) rs)) v' p) number
    (subst (λ (d : ℕ). IsStepLeft ms B s d r.program.attempt.number D (take k us) (update_of ms B r) (updates_of ms B (drop (suc k) rs)) v' p) (counts ms B) left) in
    subst (λ (q : QueuedUpdate). IsStepLeft ms B s (committed (caused_chase ms B) us) (suc k) D (take k us) (update_of ms B q) (drop (suc k) us) v' p) same
    (subst (λ (ws : List (Update (caused_chase ms B))). IsStepLeft ms B s (committed (caused_chase ms B) us) (suc k) D (take k us) (update_of ms B r) ws v' p) upper moved)

-- ---- a step

abbrev pub marks_for : (ms : List Rule) (B : ℕ) → List (Option ProgramState) → List (Option (Cause (caused_chase ms B)))
marks_for ms B [] = []
marks_for ms B (None ∷ fs) = None ∷ marks_for ms B fs
marks_for ms B (Some f ∷ fs) = Some (Depends 0 0 0) ∷ marks_for ms B fs

pub marked_so : (ms : List Rule) (B : ℕ) (fs : List (Option ProgramState)) → map is_some (marks_for ms B fs) ≡ map is_some fs
marked_so ms B [] = refl
marked_so ms B (None ∷ fs) = ap (λ bs. false ∷ bs) (marked_so ms B fs)
marked_so ms B (Some f ∷ fs) = ap (λ bs. true ∷ bs) (marked_so ms B fs)

allowed_step : (M : Machine) (s : Settings) (S : Rattle.def_machine.specs.Updates.Session M) (us : List (Update M)) (k : ℕ) (u : Update M) → slice_get us k ≡ Some u → is_ready (standing M s (committed M us) (suc k) u) ≡ true
    → effect M s S us (Steps (suc k)) ≡ Some (step_effect M s S us k u)
allowed_step M s S us k u spot may =
    ap (λ o. option_and_then (λ w. if may_step M s us k w then Some (step_effect M s S us k w) else None) o) spot
    ∙ ap (λ b. if b then Some (step_effect M s S us k u) else None) may

pub step_follows : (ms : List Rule) (s : Settings) (B k : ℕ) (D : List Fact) (requests : List Request) (later : List Operation) (es es' : List Entry) (rs rs' : List QueuedUpdate) (v v' : Kept) (r : QueuedUpdate) (plan : Plan) (p : Prepared) (a : ℕ) (e : Entry)
    → IsKept (ground_with ms s B D requests later) v rs (map entry_of es) → slice_get rs k ≡ Some r
    → standing (caused_chase ms B) s (committed (caused_chase ms B) (updates_of ms B rs)) (suc k) (update_of ms B r) ≡ Ready
    → IsPlanOf ms B (below (caused_chase ms B) D (updates_of ms B rs) k) r plan
    → IsPreparedAt ms s k plan v rs v' p → IsInstalled k plan p.left.fresh.items rs rs' → AreFrom 1 rs' → length rs' ≡ length rs
    → a ≡ r.program.attempt.attempt → TellsStep s k a p.writes p.left.causes rs' e → es' ≡ es ++ e ∷ []
    → Follows (ground_with ms s B D requests later) (Steps (suc k)) (map entry_of es) v' rs' (map entry_of es')
step_follows ms s B k D requests later es es' rs rs' v v' r plan p a e kept spot ready isplan prepared installed numbers long attempt told grew =
    let g : Ground = ground_with ms s B D requests later in
    let us : List (Update (caused_chase ms B)) = updates_of ms B rs in
    let u : Update (caused_chase ms B) = update_of ms B r in
    let x : Effect (caused_chase ms B) = step_effect (caused_chase ms B) s (session_over g) us k u in
    let w : Update (caused_chase ms B) = stepped (caused_chase ms B) (below (caused_chase ms B) D us k) u in
    let left : IsStepLeft ms B s (committed (caused_chase ms B) us) (suc k) D (take k us) u (drop (suc k) us) v' p = prepared B requests later D (map entry_of es) r kept spot ready isplan in
    let at_us : slice_get us k ≡ Some u = slice_get-map (update_of ms B) rs k ∙ ap (option_map (update_of ms B)) spot in
    let us' : updates_of ms B rs' ≡ x.updates =
    installed ms B (below (caused_chase ms B) D us k) r (marks_for ms B p.left.fresh.items) spot isplan (marked_so ms B p.left.fresh.items)
    ∙ ap (λ (ws : List (Update (caused_chase ms B))). take k us ++ w ∷ ws) (left.restarts (marks_for ms B p.left.fresh.items) (marked_so ms B p.left.fresh.items)) in
    let l : k < length us = within us k u at_us in
    let at_new : slice_get (updates_of ms B rs') k ≡ Some w = ap (λ (ws : List (Update (caused_chase ms B))). slice_get ws k) us' ∙ put_here us w _ k (omega (arith, l)) in
    let found = from_mapped (update_of ms B) rs' k w at_new in
    let entry : entry_kept ms B (entry_of e) ≡ x.entry =
    ap (entry_kept ms B) (told ms B found.0 found.1)
    ∙ (λ i. Stepped (record {
      update = suc k;
      attempt = attempt i;
      standing = standing (caused_chase ms B) s (committed (caused_chase ms B) (us' i)) (suc k) (found.2 i);
      writes = left.writes i;
      causes = left.causes i;
      committed = committed (caused_chase ms B) (us' i);
    })) in
    follows g (map entry_of es) (map entry_of es') rs rs' v v' (Steps (suc k)) x (entry_of e) kept
    (allowed_step (caused_chase ms B) s (session_over g) us k u at_us (ap is_ready ready)) us' numbers
    long
    left.versions.stand
    (ap (plain_entry ms B) (sym entry) ∙ entry_back ms B (entry_of e))
    (ap (map entry_of) grew ∙ mapped_more es e)
  where
    mapped_more : (xs : List Entry) (y : Entry) → map entry_of (xs ++ y ∷ []) ≡ map entry_of xs ++ entry_of y ∷ []
    mapped_more [] y = refl
    mapped_more (z ∷ xs) y = ap (λ zs. entry_of z ∷ zs) (mapped_more xs y)

-- The parts after it follow in every history.
pub steps_to : (ms : List Rule) (s : Settings) (k : ℕ) (es es' : List Entry) (rs rs' : List QueuedUpdate) (v v' : Kept) (r : QueuedUpdate) (plan : Plan) (p : Prepared) (a : ℕ) (e : Entry) → slice_get rs k ≡ Some r
    → IsPreparedAt ms s k plan v rs v' p → IsInstalled k plan p.left.fresh.items rs rs' → AreFrom 1 rs' → length rs' ≡ length rs
    → a ≡ r.program.attempt.attempt → TellsStep s k a p.writes p.left.causes rs' e → es' ≡ es ++ e ∷ [] → StepsTo ms s k plan v rs es v' rs' es'
steps_to ms s k es es' rs rs' v v' r plan p a e spot prepared installed numbers long attempt told grew B D requests later kept ready planned =
    let us : List (Update (caused_chase ms B)) = updates_of ms B rs in
    let at_us : slice_get us k ≡ Some (update_of ms B r) = slice_get-map (update_of ms B) rs k ∙ ap (option_map (update_of ms B)) spot in
    let may : standing (caused_chase ms B) s (committed (caused_chase ms B) us) (suc k) (update_of ms B r) ≡ Ready =
    same_Some _ _ (sym (ap (option_map (standing (caused_chase ms B) s (committed (caused_chase ms B) us) (suc k))) at_us) ∙ ready) in
    let is : IsStepOver ms B (below (caused_chase ms B) D us k) (update_of ms B r) (meant_of (suc k) plan) =
    subst (λ (o : Option (Update (caused_chase ms B))). IsSomeThat (λ u. IsStepOver ms B (below (caused_chase ms B) D us k) u (meant_of (suc k) plan)) o) at_us planned in
    step_follows ms s B k D requests later es es' rs rs' v v' r plan p a e kept spot may (record { program = is.program; reads = is.reads }) prepared installed numbers long attempt told grew
