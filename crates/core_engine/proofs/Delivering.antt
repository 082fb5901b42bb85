-- A delivery follows, and changes of queued updates that change nothing of what they mean.
use Rattle.std.proofs.Common.{◌≡◌, ◌-◌, ◌∙◌, ap, refl, sym, subst, ℕ, zero, suc, ◌<◌, ◌+◌, ◌^◌, true, Some, None, List, [], ◌∷◌, ◌++◌, map, take, drop, length, get_or, arith}
use Rattle.std.proofs.Math.ListN.{set}
use Rattle.std.specs.Prelude.{if◌then◌else◌, option_map, option_and_then, slice_get}
use Rattle.std.proofs.lemmas.Option.{same_Some, none-some, slice_get-map}
use Rattle.core_entries.specs.Meanings.{entry_of}
use Rattle.core_entries.specs.declared.entries.Entry.{Entry}
use Rattle.def_history.specs.Cores.{Ground, machine, session_over}
use Rattle.def_history.specs.CoreLaws.{Leave}
use Rattle.def_history.specs.PlainEntries.{PlainEntry, plain_entry, entry_kept}
use Rattle.def_history.proofs.Keeping.{entry_back}
use Rattle.def_machine.specs.Machine.{Machine}
use Rattle.def_machine.specs.Effects.{Event, Steps, Delivers, Delivered, Effect, effect, deliver_effect, delivered, may_deliver}
use Rattle.def_machine.specs.Standings.{standing, is_deliverable, next_answer}
use Rattle.def_machine.specs.Updates.{Session, Settings, Update, committed, trail}
use Rattle.def_chase.specs.Mappings.{Rule}
use Rattle.def_chase.specs.Repository.{Change}
use Rattle.def_chase.specs.Updates.{Operation}
use Rattle.def_chase.specs.Values.{Fact}
use Rattle.chase_plan.specs.Planned.{at_rest, next_attempt, next_reads}
use Rattle.chase_plan.specs.declared.plans.Plan.{Plan}
use Rattle.core_queue.specs.Events.{KeepsPlace, IsSame, HasDelivered}
use Rattle.core_queue.specs.Queues.{update_of, updates_of, AreFrom}
use Rattle.core_queue.specs.Renewals.{AllHaveOneMore}
use Rattle.core_queue.specs.declared.updates.QueuedUpdate.{QueuedUpdate}
use Rattle.core_queue.proofs.Restarting.{put_there}
use Rattle.def_steps.specs.Chase.{caused_chase}
use Rattle.def_steps.specs.Serial.{Request}
use Rattle.set_versions.specs.Standing.{Kept, StandFor}
use Rattle.set_versions.specs.Trails.{numbered}
use Rattle.core_engine.specs.Follows.{Follows, ground_with, meant_of, AreSame, IsPlanFor, IsPlanAt, TellsDelivery, DeliversTo, StepsTo}
use Rattle.core_engine.specs.Kept.{IsKept, HaveTrails}
use Rattle.core_engine.specs.Planned.{IsStepAmong}
use Rattle.core_engine.proofs.Following.{follows, there, within, cut_at}

pub set_is : {A : Type 0} (xs : List A) (k : ℕ) (y : A) → k < length xs → set xs k y ≡ take k xs ++ y ∷ drop (suc k) xs
set_is [] k y l = absurd (omega (arith, l))
set_is (x ∷ xs) zero y l = refl
set_is (x ∷ xs) (suc k) y l = ap (λ zs. x ∷ zs) (set_is xs k y (omega (arith, l)))

mapped_set : {A B : Type 0} (f : A → B) (xs : List A) (k : ℕ) (y : A) → map f (set xs k y) ≡ set (map f xs) k (f y)
mapped_set f [] k y = refl
mapped_set f (x ∷ xs) zero y = refl
mapped_set f (x ∷ xs) (suc k) y = ap (λ zs. f x ∷ zs) (mapped_set f xs k y)

set_same : {A : Type 0} (xs : List A) (k : ℕ) (x : A) → slice_get xs k ≡ Some x → set xs k x ≡ xs
set_same [] k x e = absurd (none-some x e)
set_same (y ∷ xs) zero x e = ap (λ z. z ∷ xs) (sym (same_Some y x e))
set_same (y ∷ xs) (suc k) x e = ap (λ zs. y ∷ zs) (set_same xs k x e)

pub set_long : {A : Type 0} (xs : List A) (k : ℕ) (y : A) → length (set xs k y) ≡ length xs
set_long [] k y = refl
set_long (x ∷ xs) zero y = refl
set_long (x ∷ xs) (suc k) y = ap suc (set_long xs k y)

-- What stands there then.
pub set_there : {A : Type 0} (xs : List A) (k : ℕ) (y : A) → k < length xs → slice_get (set xs k y) k ≡ Some y
set_there [] k y l = absurd (omega (arith, l))
set_there (x ∷ xs) zero y l = refl
set_there (x ∷ xs) (suc k) y l = set_there xs k y (omega (arith, l))

-- ---- the same updates

same_by : (rs : List QueuedUpdate) (k : ℕ) (r r' : QueuedUpdate) → k < length rs → get_or rs k r ≡ r → IsSame r r' → KeepsPlace r r' → AreSame rs (set rs k r')
same_by rs k r r' l spot same place = record {
  updates =
      λ ms B. mapped_set (update_of ms B) rs k r' ∙ ap (λ u. set (updates_of ms B rs) k u) (same ms B)
      ∙ set_same (updates_of ms B rs) k (update_of ms B r) (slice_get-map (update_of ms B) rs k ∙ ap (option_map (update_of ms B)) (there rs k r l spot));
  numbers = λ a. put_there rs 1 k r r' a l spot place;
}

-- The queued update that stands at the place is changed.
pub same_with : (rs : List QueuedUpdate) (k : ℕ) (r r' : QueuedUpdate) → k < length rs → r ≡ get_or rs k r → IsSame (get_or rs k r) r' → KeepsPlace (get_or rs k r) r' → AreSame rs (set rs k r')
same_with rs k r r' l e same place = same_by rs k r r' l (sym e) (subst (λ (q : QueuedUpdate). IsSame q r') (sym e) same) (subst (λ (q : QueuedUpdate). KeepsPlace q r') (sym e) place)

pub put_with : (rs : List QueuedUpdate) (k : ℕ) (r r' : QueuedUpdate) → AreFrom 1 rs → k < length rs → r ≡ get_or rs k r → KeepsPlace (get_or rs k r) r' → AreFrom 1 (set rs k r')
put_with rs k r r' a l e place = put_there rs 1 k r r' a l (sym e) (subst (λ (q : QueuedUpdate). KeepsPlace q r') (sym e) place)

first_is : {A : Type 0} (x y : A) (xs ys : List A) → (x ∷ xs ≡ y ∷ ys) → x ≡ y
first_is {A} x y xs ys e = ap pick e
  where
    pick : List A → A
    pick [] = x
    pick (z ∷ zs) = z

rest_is : {A : Type 0} (x y : A) (xs ys : List A) → (x ∷ xs ≡ y ∷ ys) → xs ≡ ys
rest_is {A} x y xs ys e = ap pick e
  where
    pick : List A → List A
    pick [] = []
    pick (z ∷ zs) = zs

pub same_more : (rs rs' : List QueuedUpdate) → updates_of [] 0 rs' ≡ updates_of [] 0 rs → AllHaveOneMore rs → AllHaveOneMore rs'
same_more [] [] e a = tt
same_more [] (r' ∷ rs') e a = tt_no (update_of [] 0 r') (updates_of [] 0 rs') e
  where
    tt_no : {P : Type 0} (u : Update (caused_chase [] 0)) (us : List (Update (caused_chase [] 0))) → (u ∷ us ≡ []) → P
    tt_no u us q = cc
same_more (r ∷ rs) [] e a = tt
same_more (r ∷ rs) (r' ∷ rs') e a = (
  subst (λ (u : Update (caused_chase [] 0)). u.attempt + 1 < 2 ^ 32) (sym (first_is (update_of [] 0 r') (update_of [] 0 r) (updates_of [] 0 rs') (updates_of [] 0 rs) e)) a.0,
  same_more rs rs' (rest_is (update_of [] 0 r') (update_of [] 0 r) (updates_of [] 0 rs') (updates_of [] 0 rs) e) a.1,
)

plan_for : (r r' : QueuedUpdate) (plan : Plan) → ((ms : List Rule) (B : ℕ) → update_of ms B r' ≡ update_of ms B r) → IsPlanFor r plan → IsPlanFor r' plan
plan_for r r' plan e p =
    let same = e p.rules p.budget in
    record {
      rules = p.rules;
      budget = p.budget;
      below = p.below;
      planned = record {
        program = p.planned.program ∙ sym (λ i. at_rest (next_attempt p.rules p.budget p.below (same i).state (next_answer (caused_chase p.rules p.budget) (same i).answers (same i).state)));
        reads = p.planned.reads ∙ sym (λ i. next_reads p.rules p.below (same i).state (next_answer (caused_chase p.rules p.budget) (same i).answers (same i).state));
      };
    }

-- A plan spot the place stays one.
pub same_plan : (rs rs' : List QueuedUpdate) (k : ℕ) (plan : Plan) → ((ms : List Rule) (B : ℕ) → updates_of ms B rs' ≡ updates_of ms B rs) → IsPlanAt k plan rs → IsPlanAt k plan rs'
same_plan [] rs' k plan e p = absurd p
same_plan (r ∷ rs) [] k plan e p = no (update_of [] 0 r) (updates_of [] 0 rs) (e [] 0)
  where
    no : {P : Type 0} (u : Update (caused_chase [] 0)) (us : List (Update (caused_chase [] 0))) → ([] ≡ u ∷ us) → P
    no u us q = cc
same_plan (r ∷ rs) (r' ∷ rs') zero plan e p = plan_for r r' plan (λ ms B. first_is (update_of ms B r') (update_of ms B r) (updates_of ms B rs') (updates_of ms B rs) (e ms B)) p
same_plan (r ∷ rs) (r' ∷ rs') (suc k) plan e p = same_plan rs rs' k plan (λ ms B. rest_is (update_of ms B r') (update_of ms B r) (updates_of ms B rs') (updates_of ms B rs) (e ms B)) p

-- The parts of a core with such queued updates are those of a core.
pub kept_same : (g : Ground) (v : Kept) (rs rs' : List QueuedUpdate) (H : List PlainEntry) → AreSame rs rs' → length rs' ≡ length rs → IsKept g v rs H → IsKept g v rs' H
kept_same g v rs rs' H same long k =
    let us : updates_of g.rules g.budget rs ≡ updates_of g.rules g.budget rs' = sym (same.updates g.rules g.budget) in
    record {
      left = subst (λ (ws : List (Update (caused_chase g.rules g.budget))). Leave g H ws) us k.left;
      numbers = same.numbers k.numbers;
      versions = subst (λ (ws : List (Update (caused_chase g.rules g.budget))). HaveTrails g.rules g.budget g.base ws v) us k.versions;
      sorted = k.sorted;
      budget = k.budget;
      retries = k.retries;
      within = k.within;
      few = subst (λ (n : ℕ). n < 2 ^ 32 - 1) (sym long) k.few;
      all = long ∙ k.all;
    }

-- What follows from such queued updates follows from these.
pub from_same : (g : Ground) (e : Event (machine g)) (v v' : Kept) (rs mid rs' : List QueuedUpdate) (es between es' : List Entry) → AreSame rs mid → length mid ≡ length rs → between ≡ es → IsKept g v rs (map entry_of es)
    → (IsKept g v mid (map entry_of between) → Follows g e (map entry_of between) v' rs' (map entry_of es')) → Follows g e (map entry_of es) v' rs' (map entry_of es')
from_same g e v v' rs mid rs' es between es' same long is kept makes =
    subst (λ (xs : List Entry). Follows g e (map entry_of xs) v' rs' (map entry_of es')) is
    (makes (subst (λ (xs : List Entry). IsKept g v mid (map entry_of xs)) (sym is) (kept_same g v rs mid (map entry_of es) same long kept)))

-- A step from such queued updates is one from these.
pub steps_from : (ms : List Rule) (s : Settings) (k : ℕ) (plan : Plan) (v v' : Kept) (rs mid rs' : List QueuedUpdate) (es between es' : List Entry) → AreSame rs mid → length mid ≡ length rs → between ≡ es
    → StepsTo ms s k plan v mid between v' rs' es' → StepsTo ms s k plan v rs es v' rs' es'
steps_from ms s k plan v v' rs mid rs' es between es' same long e steps B D requests later kept ready planned =
    let us : updates_of ms B mid ≡ updates_of ms B rs = same.updates ms B in
    let kept' : IsKept (ground_with ms s B D requests later) v mid (map entry_of between) =
    subst (λ (xs : List Entry). IsKept (ground_with ms s B D requests later) v mid (map entry_of xs)) (sym e) (kept_same (ground_with ms s B D requests later) v rs mid (map entry_of es) same long kept) in
    subst (λ (xs : List Entry). Follows (ground_with ms s B D requests later) (Steps (suc k)) (map entry_of xs) v' rs' (map entry_of es')) e
    (steps B D requests later kept'
    ((λ i. option_map (standing (caused_chase ms B) s (committed (caused_chase ms B) (us i)) (suc k)) (slice_get (us i) k)) ∙ ready)
    (subst (λ (ws : List (Update (caused_chase ms B))). IsStepAmong ms B D ws (suc k) (meant_of (suc k) plan)) (sym us) planned))

pub delivers_from : (s : Settings) (k : ℕ) (rs mid rs' : List QueuedUpdate) (es between es' : List Entry) → AreSame rs mid → length mid ≡ length rs → between ≡ es → DeliversTo s k mid between rs' es' → DeliversTo s k rs es rs' es'
delivers_from s k rs mid rs' es between es' same long e delivers ms v B D requests later kept may =
    let us : updates_of ms B mid ≡ updates_of ms B rs = same.updates ms B in
    from_same (ground_with ms s B D requests later) (Delivers (suc k)) v v rs mid rs' es between es' same long e kept
    (λ kept'. delivers ms v B D requests later kept' ((λ i. option_map (is_deliverable (caused_chase ms B) s (committed (caused_chase ms B) (us i)) (suc k)) (slice_get (us i) k)) ∙ may))

-- ---- an event that changes one update, and no trail

module _ {X : Type 0} (f : X → List Change) where
  same_trails : (lower : List X) (x y : X) (upper : List X) → f x ≡ f y → (n : ℕ) → numbered f (lower ++ x ∷ upper) n ≡ numbered f (lower ++ y ∷ upper) n
  same_trails lower x y upper e zero = refl
  same_trails [] x y upper e (suc zero) = e
  same_trails [] x y upper e (suc (suc k)) = refl
  same_trails (z ∷ lower) x y upper e (suc zero) = refl
  same_trails (z ∷ lower) x y upper e (suc (suc k)) = same_trails lower x y upper e (suc k)

pub mapped_more : (xs : List Entry) (y : Entry) → map entry_of (xs ++ y ∷ []) ≡ map entry_of xs ++ entry_of y ∷ []
mapped_more [] y = refl
mapped_more (z ∷ xs) y = ap (λ zs. entry_of z ∷ zs) (mapped_more xs y)

-- It puts an update in the place of one with the same trail.
pub put_follows : (ms : List Rule) (B : ℕ) (s : Settings) (k : ℕ) (v : Kept) (D : List Fact) (requests : List Request) (later : List Operation) (rs : List QueuedUpdate) (r r' : QueuedUpdate) (es es' : List Entry) (told : Entry)
    (e : Event (caused_chase ms B)) (x : Effect (caused_chase ms B)) (w : Update (caused_chase ms B)) → IsKept (ground_with ms s B D requests later) v rs (map entry_of es) → k < length rs → get_or rs k r ≡ r → KeepsPlace r r'
    → update_of ms B r' ≡ w → trail (caused_chase ms B) (update_of ms B r) ≡ trail (caused_chase ms B) w
    → effect (caused_chase ms B) s (session_over (ground_with ms s B D requests later)) (updates_of ms B rs) e ≡ Some x
    → x.updates ≡ take k (updates_of ms B rs) ++ w ∷ drop (suc k) (updates_of ms B rs) → (updates_of ms B (set rs k r') ≡ x.updates → entry_kept ms B (entry_of told) ≡ x.entry)
    → es' ≡ es ++ told ∷ [] → Follows (ground_with ms s B D requests later) e (map entry_of es) v (set rs k r') (map entry_of es')
put_follows ms B s k v D requests later rs r r' es es' told e x w kept l spot place made trails allowed puts entry grew =
    let g : Ground = ground_with ms s B D requests later in
    let us : List (Update (caused_chase ms B)) = updates_of ms B rs in
    let u : Update (caused_chase ms B) = update_of ms B r in
    let at_us : slice_get us k ≡ Some u = slice_get-map (update_of ms B) rs k ∙ ap (option_map (update_of ms B)) (there rs k r l spot) in
    let us' : updates_of ms B (set rs k r') ≡ x.updates = mapped_set (update_of ms B) rs k r' ∙ ap (λ z. set us k z) made ∙ set_is us k w (within us k u at_us) ∙ sym puts in
    follows g (map entry_of es) (map entry_of es') rs (set rs k r') v v e x (entry_of told) kept allowed us' (put_there rs 1 k r r' kept.numbers l spot place)
    (set_long rs k r')
    (subst (λ (ws : List (Update (caused_chase ms B))). HaveTrails ms B D ws v) (sym puts)
    (subst (λ (ts : ℕ → List Change). StandFor v D ts) (λ i n. same_trails (trail (caused_chase ms B)) (take k us) u w (drop (suc k) us) trails n i)
    (subst (λ (ws : List (Update (caused_chase ms B))). HaveTrails ms B D ws v) (sym (cut_at us k u at_us)) kept.versions)))
    (ap (plain_entry ms B) (sym (entry us')) ∙ entry_back ms B (entry_of told))
    (ap (map entry_of) grew ∙ mapped_more es told)

-- ---- a delivery

allowed_delivery : (M : Machine) (s : Settings) (S : Session M) (us : List (Update M)) (k : ℕ) (u : Update M) → slice_get us k ≡ Some u → is_deliverable M s (committed M us) (suc k) u ≡ true
    → effect M s S us (Delivers (suc k)) ≡ Some (deliver_effect M s us k u)
allowed_delivery M s S us k u spot may =
    ap (λ o. option_and_then (λ w. if may_deliver M s us k w then Some (deliver_effect M s us k w) else None) o) spot
    ∙ ap (λ b. if b then Some (deliver_effect M s us k u) else None) may

delivers_by : (s : Settings) (k : ℕ) (rs : List QueuedUpdate) (r r' : QueuedUpdate) (es es' : List Entry) (e : Entry) → k < length rs → get_or rs k r ≡ r → HasDelivered r r' → KeepsPlace r r'
    → TellsDelivery s k (set rs k r') e → es' ≡ es ++ e ∷ [] → DeliversTo s k rs es (set rs k r') es'
delivers_by s k rs r r' es es' e l spot made place told grew ms v B D requests later kept may =
    let us : List (Update (caused_chase ms B)) = updates_of ms B rs in
    let u : Update (caused_chase ms B) = update_of ms B r in
    let at_us : slice_get us k ≡ Some u = slice_get-map (update_of ms B) rs k ∙ ap (option_map (update_of ms B)) (there rs k r l spot) in
    let yes : is_deliverable (caused_chase ms B) s (committed (caused_chase ms B) us) (suc k) u ≡ true =
    same_Some _ _ (sym (ap (option_map (is_deliverable (caused_chase ms B) s (committed (caused_chase ms B) us) (suc k))) at_us) ∙ may) in
    put_follows ms B s k v D requests later rs r r' es es' e (Delivers (suc k)) (deliver_effect (caused_chase ms B) s us k u) (delivered (caused_chase ms B) u) kept l spot place (made ms B) refl
    (allowed_delivery (caused_chase ms B) s (session_over (ground_with ms s B D requests later)) us k u at_us yes) refl
    (λ us'. ap (entry_kept ms B) (told ms B r' (set_there rs k r' l)) ∙ (λ i. Delivered (suc k) (standing (caused_chase ms B) s (committed (caused_chase ms B) (us' i)) (suc k) (made ms B i)))) grew

pub delivers_to : (s : Settings) (k : ℕ) (rs : List QueuedUpdate) (r r' : QueuedUpdate) (es es' : List Entry) (e : Entry) → k < length rs → r ≡ get_or rs k r → HasDelivered (get_or rs k r) r' → KeepsPlace (get_or rs k r) r'
    → TellsDelivery s k (set rs k r') e → es' ≡ es ++ e ∷ [] → DeliversTo s k rs es (set rs k r') es'
delivers_to s k rs r r' es es' e l spot made place told grew =
    delivers_by s k rs r r' es es' e l (sym spot) (subst (λ (q : QueuedUpdate). HasDelivered q r') (sym spot) made) (subst (λ (q : QueuedUpdate). KeepsPlace q r') (sym spot) place) told grew
