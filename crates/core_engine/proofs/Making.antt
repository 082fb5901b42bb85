-- What holds of the parts of a core by its history, and what its calls made.
use Rattle.std.proofs.Common.{◌≡◌, ◌∙◌, ap, refl, sym, subst, ℕ, zero, suc, ◌<◌, ◌≤◌, ◌+◌, ◌^◌, Bool, true, false, not, ◌&&◌, take, Option, Some, None, List, [], ◌∷◌, ◌++◌, append-nil, map, length, arith}
use Rattle.std.specs.Prelude.{if◌then◌else◌, option_map, unwrap_or, slice_get}
use Rattle.std.proofs.lemmas.Option.{same_Some, none-some, slice_get-map}
use Rattle.base_types.specs.Listed.{Listed}
use Rattle.base_types.specs.Meanings.{fact_of, choice_of, operation_of}
use Rattle.base_types.specs.declared.tuples.Tuple.{Tuple}
use Rattle.base_types.specs.declared.updates.Update.{Update as UpdateOfProgram}
use Rattle.core_entries.specs.Meanings.{entry_of}
use Rattle.core_entries.specs.declared.entries.Entry.{Entry}
use Rattle.def_history.specs.Cores.{Ground, machine, session_over, entries_over, updates_after}
use Rattle.def_history.specs.CoreLaws.{Leave}
use Rattle.def_history.specs.Histories.{submissions}
use Rattle.def_history.specs.PlainEntries.{PlainEntry}
use Rattle.base_limits.specs.Within.{AreWithin}
use Rattle.def_machine.specs.Effects.{Event, Steps, Delivers}
use Rattle.def_machine.specs.History.{IsHistory}
use Rattle.def_machine.specs.Histories.{event_of}
use Rattle.def_machine.specs.Standings.{Standing, Ready, Paused, Missing, standing, is_ready, is_pending, is_deliverable, is_nil, next_answer}
use Rattle.def_machine.specs.Updates.{Settings, Submission, Update, committed, below, hides, trail}
use Rattle.def_machine.proofs.Carried.{below_more}
use Rattle.def_machine.proofs.Serials.{counted}
use Rattle.def_machine.proofs.Standing.{ready_parts}
use Rattle.def_machine.proofs.Theorem.{history_law}
use Rattle.def_chase.specs.Mappings.{Rule}
use Rattle.def_chase.specs.Repository.{IsRepository, apply}
use Rattle.def_chase.specs.Values.{Fact}
use Rattle.def_chase.specs.Updates.{Operation}
use Rattle.chase_plan.specs.Planned.{at_rest, next_attempt}
use Rattle.chase_plan.specs.Settled.{is_valid_over, AreValidOver}
use Rattle.def_machine.specs.Reads.{all_valid, is_valid}
use Rattle.std.specs.List.{list_all}
use Rattle.chase_plan.specs.declared.plans.Plan.{Plan}
use Rattle.chase_query.specs.Meanings.{reads_in}
use Rattle.chase_update.specs.Courses.{State as ProgramState}
use Rattle.core_queue.specs.Queues.{logged, update_of, updates_of, AreFrom}
use Rattle.core_queue.specs.Renewals.{AllHaveOneMore}
use Rattle.core_queue.specs.declared.updates.QueuedUpdate.{QueuedUpdate}
use Rattle.lang_session.specs.Meanings.{request_of, requests_in, update_of as session_update_of}
use Rattle.lang_session.specs.declared.sessions.SessionUpdate.{SessionUpdate}
use Rattle.def_steps.proofs.ChaseLaws.{chase_laws}
use Rattle.def_steps.specs.Chase.{caused, caused_chase}
use Rattle.def_steps.specs.Serial.{Request}
use Rattle.set_versions.proofs.Numbered.{below_is_seen}
use Rattle.set_versions.specs.Standing.{Kept, StandFor, seen}
use Rattle.set_versions.specs.Trails.{no_trails}
use Rattle.core_engine.proofs.Small.{front, both_true}
use Rattle.core_engine.specs.Admitted.{AreAdmitted as AreQueued, admitted_from, handed_in}
use Rattle.core_engine.specs.Events.{HasMade}
use Rattle.core_engine.specs.Lives.{CameOf}
use Rattle.core_laws.specs.Live.{AreAdmitted}
use Rattle.def_language.specs.Validity.{IsSession}
use Rattle.lang_session.specs.Base.{base_violation}
use Rattle.core_engine.specs.Follows.{Follows, meant_of, AreSame, IsPlanFor, IsPlanAt, StepsTo, DeliversTo}
use Rattle.core_engine.specs.Kept.{IsKept, HaveTrails, ground_by}
use Rattle.core_engine.specs.Planned.{PlanMeant, IsSomeThat, IsStepOver, IsStepAmong, IsStepAt}
use Rattle.core_engine.specs.States.{State, numbered_at, standing_at, has_waiting, admissions_from, opened}
use Rattle.def_language.specs.Sessions.{RelationSchema, SessionData}
use Rattle.def_language.specs.Checks.{rules_of}
use Rattle.core_engine.specs.Taken.{AtPlace, IsHeldBy, IsReadySomewhere, IsSnapshotOf}
use Rattle.def_machine.specs.Machine.{Machine}
use Rattle.core_engine.proofs.Delivering.{kept_same}
use Rattle.core_engine.proofs.Following.{within, stands_at, mapped_long}
use Rattle.core_engine.proofs.Opening.{all_admitted, versions_begin}

-- ---- by the theorem on histories

pub history_of : (g : Ground) (v : Kept) (rs : List QueuedUpdate) (H : List PlainEntry) → IsKept g v rs H → IsHistory (machine g) g.settings (session_over g) (record { updates = updates_after g H; entries = entries_over g H })
history_of g v rs H k =
    history_law (machine g) (chase_laws caused g.rules g.budget k.budget) g.settings (session_over g) (map event_of (entries_over g H)) (record { updates = updates_after g H; entries = entries_over g H }) k.sorted k.left.legal

update_there : (g : Ground) (v : Kept) (rs : List QueuedUpdate) (H : List PlainEntry) (i : ℕ) (r : QueuedUpdate) → IsKept g v rs H → slice_get rs i ≡ Some r → slice_get (updates_after g H) i ≡ Some (update_of g.rules g.budget r)
update_there g v rs H i r k spot =
    ap (λ (us : List (Update (machine g))). slice_get us i) k.left.leaves ∙ slice_get-map (update_of g.rules g.budget) rs i ∙ ap (option_map (update_of g.rules g.budget)) spot

one_more_each : (rs : List QueuedUpdate) → ((i : ℕ) (r : QueuedUpdate) → slice_get rs i ≡ Some r → r.program.attempt.attempt ≤ 5) → AllHaveOneMore rs
one_more_each [] h = tt
one_more_each (r ∷ rs) h = (omega (arith, h 0 r refl), one_more_each rs (λ i q e. h (suc i) q e))

-- One more attempt of each update has a number.
pub all_one_more : (g : Ground) (v : Kept) (rs : List QueuedUpdate) (H : List PlainEntry) → IsKept g v rs H → AllHaveOneMore rs
all_one_more g v rs H k =
    one_more_each rs (λ i r spot. omega (arith, (history_of g v rs H k).attempts i (update_of g.rules g.budget r) (update_there g v rs H i r k spot), k.retries))

-- A ready update has a step left.
pub step_left : (g : Ground) (v : Kept) (rs : List QueuedUpdate) (H : List PlainEntry) (i c n : ℕ) (r : QueuedUpdate) → IsKept g v rs H → slice_get rs i ≡ Some r
    → is_ready (standing (machine g) g.settings c n (update_of g.rules g.budget r)) ≡ true → r.program.attempt.steps < g.budget
step_left g v rs H i c n r k spot ready =
    let u : Update (machine g) = update_of g.rules g.budget r in
    let o = (ready_parts (machine g) g.settings c n u ready).0 in
    let more : suc r.program.attempt.steps ≤ g.budget =
    (counted (machine g) (chase_laws caused g.rules g.budget k.budget) ((history_of g v rs H k).runs i u (update_there g v rs H i r k spot) o.present)).1 o.going in
    omega (arith, more)

-- ---- numbers

-- A test of each of the reads, in whatever form it has them.
all_read : {A B : Type 0} (p : A → Bool) (f : A → B) (q : B → Bool) → ((x : A) → p x ≡ q (f x)) → (xs : List A) → list_all p xs ≡ list_all q (map f xs)
all_read p f q same [] = refl
all_read p f q same (x ∷ xs) = λ i. same x i && all_read p f q same xs i

module _ {R : List RelationSchema} (g : Ground) (v : Kept) (rs : List QueuedUpdate) (H : List PlainEntry) (s : State) (kept : IsKept g v rs H) (same : record { over = g; history = H; relations = R } ≡ s) (n : ℕ) (st : Standing) (stands : standing_at s n ≡ Some st) where
  stands_here : option_map (standing (machine g) g.settings (committed (machine g) (updates_of g.rules g.budget rs)) n) (numbered_at (updates_of g.rules g.budget rs) n) ≡ Some st
  stands_here =
      sym (ap (λ (us : List (Update (machine g))). option_map (standing (machine g) g.settings (committed (machine g) us) n) (numbered_at us n)) kept.left.leaves)
      ∙ ap (λ (t : State). standing_at t n) same ∙ stands

  some_there : {A B : Type 0} (f : A → B) (o : Option A) (b : B) → option_map f o ≡ Some b → (a : A) × (o ≡ Some a)
  some_there f None b e = absurd (none-some b e)
  some_there f (Some a) b e = (a, refl)

  -- At its place, counted from 0, it stands so.
  pub stands_placed : (i : ℕ) → n ≡ suc i → option_map (standing (machine g) g.settings (committed (machine g) (updates_of g.rules g.budget rs)) (suc i)) (slice_get (updates_of g.rules g.budget rs) i) ≡ Some st
  stands_placed i e = ap (λ j. option_map (standing (machine g) g.settings (committed (machine g) (updates_of g.rules g.budget rs)) j) (numbered_at (updates_of g.rules g.budget rs) j)) (sym e) ∙ stands_here

  pub placed_within : (i : ℕ) → n ≡ suc i → i < length rs
  placed_within i e =
      let x = some_there (standing (machine g) g.settings (committed (machine g) (updates_of g.rules g.budget rs)) (suc i)) (slice_get (updates_of g.rules g.budget rs) i) st (stands_placed i e) in
      omega (arith, within (updates_of g.rules g.budget rs) i x.0 x.1, mapped_long (update_of g.rules g.budget) rs)

  -- That is what the queued update there says.
  pub queued_stands : (i : ℕ) (r : QueuedUpdate) → n ≡ suc i → slice_get rs i ≡ Some r → standing (machine g) g.settings (committed (machine g) (updates_of g.rules g.budget rs)) (suc i) (update_of g.rules g.budget r) ≡ st
  queued_stands i r e spot =
      same_Some _ _ (sym (ap (option_map (standing (machine g) g.settings (committed (machine g) (updates_of g.rules g.budget rs)) (suc i))) (slice_get-map (update_of g.rules g.budget) rs i ∙ ap (option_map (update_of g.rules g.budget)) spot)) ∙ stands_placed i e)

-- ---- ready updates
module _ {R : List RelationSchema} (g : Ground) (v : Kept) (rs : List QueuedUpdate) (H : List PlainEntry) (s : State) (kept : IsKept g v rs H) (same : record { over = g; history = H; relations = R } ≡ s) (n : ℕ) (stands : standing_at s n ≡ Some Ready) (i : ℕ) (e : suc i ≡ n) (qs : List QueuedUpdate) (slice : qs ≡ rs) where
  pub ready_within : i < length qs
  ready_within = subst (λ (xs : List QueuedUpdate). i < length xs) (sym slice) (placed_within g v rs H s kept same n Ready stands i (sym e))

  pub ready_numbers : AreFrom 1 qs
  ready_numbers = subst (λ (xs : List QueuedUpdate). AreFrom 1 xs) (sym slice) kept.numbers

  ready_queued : (r : QueuedUpdate) → slice_get qs i ≡ Some r → standing (machine g) g.settings (committed (machine g) (updates_of g.rules g.budget rs)) (suc i) (update_of g.rules g.budget r) ≡ Ready
  ready_queued r spot = queued_stands g v rs H s kept same n Ready stands i r (sym e) (ap (λ xs. slice_get xs i) (sym slice) ∙ spot)

  pub ready_placed : AtPlace i qs IsReadySomewhere
  ready_placed r spot = record {
    rules = g.rules;
    budget = g.budget;
    settings = g.settings;
    committed = committed (machine g) (updates_of g.rules g.budget rs);
    number = suc i;
    ready = ap is_ready (ready_queued r spot);
  }

  -- A ready update shows the writes of its attempt, so that the next update sees what it sees with them.
  pub held_placed : AtPlace i qs (IsHeldBy g.rules v)
  held_placed r spot =
      let us : List (Update (machine g)) = updates_of g.rules g.budget rs in
      let u : Update (machine g) = update_of g.rules g.budget r in
      let there : slice_get rs i ≡ Some r = ap (λ xs. slice_get xs i) (sym slice) ∙ spot in
      let found : slice_get us i ≡ Some u = slice_get-map (update_of g.rules g.budget) rs i ∙ ap (option_map (update_of g.rules g.budget)) there in
      let number : r.program.attempt.number ≡ suc i = (let one : 1 + i ≡ suc i = omega arith in (stands_at rs 1 i r kept.numbers there).number ∙ one) in
      let o = (ready_parts (machine g) g.settings (committed (machine g) us) (suc i) u (ap is_ready (ready_queued r spot))).0 in
      let own : trail (machine g) u ≡ r.program.attempt.own =
      ap (λ (b : Bool). if b then [] else if hides ((machine g).outcome u.state) then [] else u.state.own) o.present
      ∙ ap (λ (b : Bool). if b then [] else u.state.own) (ap hides o.going) in
      let sees : (k : ℕ) → seen (suc k) v ≡ below (machine g) g.base us k = below_is_seen caused g.rules g.budget v g.base us kept.sorted kept.versions in
      record {
        applied =
            ap (λ m. seen (suc m) v) number ∙ sees (suc i) ∙ below_more (machine g) (chase_laws caused g.rules g.budget kept.budget) g.base us i u found
            ∙ (λ j. apply (sym (sees i) j) (own j)) ∙ ap (λ m. apply (seen m v) r.program.attempt.own) (sym number);
        valid =
            subst (λ (D : List Fact). AreValidOver g.rules D r.program.attempt (reads_in r.log.items)) (sym (ap (λ m. seen m v) number ∙ sees i))
            (all_read (is_valid_over g.rules (below (machine g) g.base us i) r.program.attempt) (logged g.rules g.budget) (is_valid (machine g) u.operation (below (machine g) g.base us i) u.state.own) (λ x. refl) (reads_in r.log.items)
            ∙ sym (ap (λ (ws : List (Update (machine g))). all_valid (machine g) (below (machine g) g.base ws i) u) kept.left.leaves) ∙ (history_of g v rs H kept).valid i u (update_there g v rs H i r kept there));
        few = subst (λ (m : ℕ). m + 1 < 2 ^ 32) (sym number) (omega (arith, placed_within g v rs H s kept same n Ready stands i (sym e), kept.few));
      }

  pub left_placed : AtPlace i qs (λ r. r.program.attempt.steps < g.budget)
  left_placed r spot =
      step_left g v rs H i (committed (machine g) (updates_of g.rules g.budget rs)) (suc i) r kept (ap (λ xs. slice_get xs i) (sym slice) ∙ spot) (ap is_ready (ready_queued r spot))

-- ---- plans

planned_placed : {R : List RelationSchema} (g : Ground) (v : Kept) (rs : List QueuedUpdate) (H : List PlainEntry) (s : State) (i : ℕ) (p : PlanMeant) → IsKept g v rs H → record { over = g; history = H; relations = R } ≡ s → p.update ≡ suc i → IsStepAt s p
    → IsStepAmong g.rules g.budget g.base (updates_of g.rules g.budget rs) (suc i) p
planned_placed g v rs H s i p kept same e is =
    subst (λ (m : ℕ). IsStepAmong g.rules g.budget g.base (updates_of g.rules g.budget rs) m p) e
    (subst (λ (us : List (Update (machine g))). IsStepAmong g.rules g.budget g.base us p.update p) kept.left.leaves
    (subst (λ (t : State). IsStepAt t p) (sym same) is))

-- A plan of its step is one at the place.
pub plan_placed : {R : List RelationSchema} (g : Ground) (v : Kept) (rs : List QueuedUpdate) (H : List PlainEntry) (s : State) (i : ℕ) (r : QueuedUpdate) (plan : Plan) → IsKept g v rs H → record { over = g; history = H; relations = R } ≡ s → slice_get rs i ≡ Some r
    → IsStepAt s (meant_of (suc i) plan) → IsPlanAt i plan rs
plan_placed g v rs H s i r plan kept same spot is =
    let us : List (Update (machine g)) = updates_of g.rules g.budget rs in
    let found : slice_get us i ≡ Some (update_of g.rules g.budget r) = slice_get-map (update_of g.rules g.budget) rs i ∙ ap (option_map (update_of g.rules g.budget)) spot in
    let step : IsStepOver g.rules g.budget (below (machine g) g.base us i) (update_of g.rules g.budget r) (meant_of (suc i) plan) =
    subst (λ (o : Option (Update (machine g))). IsSomeThat (λ u. IsStepOver g.rules g.budget (below (machine g) g.base us i) u (meant_of (suc i) plan)) o) found (planned_placed g v rs H s i (meant_of (suc i) plan) kept same refl is) in
    subst (λ (o : Option QueuedUpdate). IsSomeThat (λ (q : QueuedUpdate). IsPlanFor q plan) o) (sym spot)
    (record { rules = g.rules; budget = g.budget; below = below (machine g) g.base us i; planned = record { program = step.program; reads = step.reads } })

-- A snapshot of the queued update is the step of its update.
pub snapshot_is : {R : List RelationSchema} (g : Ground) (v : Kept) (rs : List QueuedUpdate) (H : List PlainEntry) (s : State) (i : ℕ) (r : QueuedUpdate) (p : PlanMeant) → IsKept g v rs H → record { over = g; history = H; relations = R } ≡ s → slice_get rs i ≡ Some r
    → IsSnapshotOf g.rules g.budget v r p → IsStepAt s p
snapshot_is g v rs H s i r p kept same spot is =
    let us : List (Update (machine g)) = updates_of g.rules g.budget rs in
    let number : r.program.attempt.number ≡ suc i = (let one : 1 + i ≡ suc i = omega arith in (stands_at rs 1 i r kept.numbers spot).number ∙ one) in
    let found : slice_get us i ≡ Some (update_of g.rules g.budget r) = slice_get-map (update_of g.rules g.budget) rs i ∙ ap (option_map (update_of g.rules g.budget)) spot in
    let sees : seen r.program.attempt.number v ≡ below (machine g) g.base us i = ap (λ m. seen m v) number ∙ below_is_seen caused g.rules g.budget v g.base us kept.sorted kept.versions i in
    let here : IsStepOver g.rules g.budget (below (machine g) g.base us i) (update_of g.rules g.budget r) p =
    subst (λ (D : List Fact). IsStepOver g.rules g.budget D (update_of g.rules g.budget r) p) sees (record { program = is.program; reads = is.reads }) in
    let among : IsStepAmong g.rules g.budget g.base us (suc i) p =
    subst (λ (o : Option (Update (machine g))). IsSomeThat (λ u. IsStepOver g.rules g.budget (below (machine g) g.base us i) u p) o) (sym found) here in
    subst (λ (t : State). IsStepAt t p) same
    (subst (λ (ws : List (Update (machine g))). IsStepAmong g.rules g.budget g.base ws p.update p) (sym kept.left.leaves)
    (subst (λ (m : ℕ). IsStepAmong g.rules g.budget g.base us m p) (sym (is.update ∙ number)) among))

-- ---- what calls made

pub step_made : {R : List RelationSchema} (g : Ground) (v v' : Kept) (rs rs' : List QueuedUpdate) (es es' : List Entry) (old new : State) (i n : ℕ) (plan : Plan) → IsKept g v rs (map entry_of es) → record { over = g; history = map entry_of es; relations = R } ≡ old
    → n ≡ suc i → standing_at old n ≡ Some Ready → IsStepAt old (meant_of n plan) → StepsTo g.rules g.settings i plan v rs es v' rs' es' → Follows g (Steps n) (map entry_of es) v' rs' (map entry_of es')
step_made g v v' rs rs' es es' old new i n plan kept same e ready is steps =
    let made : Follows g (Steps (suc i)) (map entry_of es) v' rs' (map entry_of es') =
    steps g.budget g.base g.requests g.later kept (stands_placed g v rs (map entry_of es) old kept same n Ready ready i e)
    (planned_placed g v rs (map entry_of es) old i (meant_of (suc i) plan) kept same refl (subst (λ (m : ℕ). IsStepAt old (meant_of m plan)) e is)) in
    subst (λ (m : ℕ). Follows g (Steps m) (map entry_of es) v' rs' (map entry_of es')) (sym e) made

-- What was made on the parts was made on the core.
module _ {R : List RelationSchema} where
  pub has_made : (e : (g : Ground) → Event (machine g)) (g : Ground) (v : Kept) (rs : List QueuedUpdate) (H H' : List PlainEntry) (old new : State) → record { over = g; history = H; relations = R } ≡ old → record { over = g; history = H'; relations = R } ≡ new
      → Follows g (e g) H v rs H' → HasMade old (e old.over) new
  has_made e g v rs H H' old new a b f =
      subst (λ (o : State). HasMade o (e o.over) new) a (subst (λ (w : State). HasMade (record { over = g; history = H; relations = R }) (e g) w) b (record { grows = f.grows; over = refl; relations = refl }))

pub has_stepped : {R : List RelationSchema} (g : Ground) (v : Kept) (rs : List QueuedUpdate) (H H' : List PlainEntry) (old new : State) (n : ℕ) → record { over = g; history = H; relations = R } ≡ old → record { over = g; history = H'; relations = R } ≡ new
    → Follows g (Steps n) H v rs H' → HasMade old (Steps n) new
has_stepped g v rs H H' old new n = has_made (λ o. Steps n) g v rs H H' old new

pub has_delivered : {R : List RelationSchema} (g : Ground) (v : Kept) (rs : List QueuedUpdate) (H H' : List PlainEntry) (old new : State) (n : ℕ) → record { over = g; history = H; relations = R } ≡ old → record { over = g; history = H'; relations = R } ≡ new
    → Follows g (Delivers n) H v rs H' → HasMade old (Delivers n) new
has_delivered g v rs H H' old new n = has_made (λ o. Delivers n) g v rs H H' old new

-- ---- the opening

pub opened_kept : (ms : List Rule) (B : ℕ) (c : Settings) (base : Listed Tuple) (us : Listed SessionUpdate) (later : Listed UpdateOfProgram) (v : Kept) (rs : List QueuedUpdate) (es : List Entry) (n : ℕ) → later.items ≡ [] → 1 ≤ B → c.retries ≤ 4 → AreWithin ms → IsRepository (map fact_of base.items)
    → length us.items ≤ 1000 → AreQueued us.items rs → AreFrom 1 rs → length rs ≡ length us.items → n ≡ length us.items → map entry_of es ≡ admissions_from 1 n → StandFor v (map fact_of base.items) no_trails
    → IsKept (ground_by ms B c base us later) v rs (map entry_of es)
opened_kept ms B c base us later v rs es n none some retries within' sorted few are numbers long count entries stands =
    let g : Ground = ground_by ms B c base us later in
    let xs : List (Submission (caused_chase ms B)) = handed_in ms B us.items in
    let all : (session_over g).submissions ≡ xs =
    (λ i. submissions ms B (map request_of (map session_update_of us.items) ++ map (λ (o : Operation). record { operation = o; answers = [] }) (map (λ (u : UpdateOfProgram). operation_of u.operation) (none i))))
    ∙ ap (submissions ms B) (append-nil (map request_of (map session_update_of us.items))) in
    let handed : length (map request_of (map session_update_of us.items)) ≡ length us.items = mapped_long request_of (map session_update_of us.items) ∙ mapped_long session_update_of us.items in
    let further : length (map (λ (u : UpdateOfProgram). operation_of u.operation) later.items) ≡ 0 = ap (λ (ws : List UpdateOfProgram). length (map (λ (u : UpdateOfProgram). operation_of u.operation) ws)) none in
    let many : length xs ≡ length us.items =
    mapped_long (λ (r : Request). record { operation = r.operation; answers = r.answers }) (map request_of (map session_update_of us.items)) ∙ mapped_long request_of (map session_update_of us.items) ∙ mapped_long session_update_of us.items in
    let left : Leave g (admissions_from 1 (length xs)) (admitted_from (caused_chase ms B) 1 xs) = all_admitted g some xs all in
    record {
      left =
          subst (λ (ws : List (Update (caused_chase ms B))). Leave g (map entry_of es) ws) (sym (are ms B))
          (subst (λ (H : List PlainEntry). Leave g H (admitted_from (caused_chase ms B) 1 xs)) (ap (admissions_from 1) (many ∙ sym count) ∙ sym entries) left);
      numbers = numbers;
      versions = subst (λ (ws : List (Update (caused_chase ms B))). HaveTrails ms B (map fact_of base.items) ws v) (sym (are ms B)) (versions_begin ms B (map fact_of base.items) xs v stands);
      sorted = sorted;
      budget = some;
      retries = retries;
      within = within';
      few = omega (arith, long, few);
      all = omega (arith, long, handed, further);
    }

-- ---- snapshots

pub queued_placed : (rs : List QueuedUpdate) (i : ℕ) → i < length rs → (r : QueuedUpdate) × (slice_get rs i ≡ Some r)
queued_placed [] i l = absurd (omega (arith, l))
queued_placed (r ∷ rs) zero l = (r, refl)
queued_placed (r ∷ rs) (suc i) l = queued_placed rs i (omega (arith, l))

module _ {R : List RelationSchema} (g : Ground) (v : Kept) (rs : List QueuedUpdate) (H : List PlainEntry) (s : State) (kept : IsKept g v rs H) (same : record { over = g; history = H; relations = R } ≡ s) (n : ℕ) (stands : standing_at s n ≡ Some Ready) (i : ℕ) (e : suc i ≡ n) (qs : List QueuedUpdate) (slice : qs ≡ rs)
    (ms : List Rule) (rules : ms ≡ g.rules) (p : PlanMeant) (taken : AtPlace i qs (λ r. IsSnapshotOf ms g.budget v r p)) where
  taken_there : (r : QueuedUpdate) × (slice_get rs i ≡ Some r) × IsSnapshotOf g.rules g.budget v r p
  taken_there =
      let x = queued_placed rs i (placed_within g v rs H s kept same n Ready stands i (sym e)) in
      (x.0, x.1, subst (λ (ks : List Rule). IsSnapshotOf ks g.budget v x.0 p) rules (taken x.0 (ap (λ xs. slice_get xs i) slice ∙ x.1)))

  pub snapshot_update : p.update ≡ n
  snapshot_update = let one : 1 + i ≡ suc i = omega arith in taken_there.2.update ∙ (stands_at rs 1 i taken_there.0 kept.numbers taken_there.1).number ∙ one ∙ e

  pub snapshot_step : IsStepAt s p
  snapshot_step = snapshot_is g v rs H s i taken_there.0 p kept same taken_there.1 taken_there.2

-- ---- the opening of a session

pub few_updates : (us xs : List SessionUpdate) → xs ≡ us → length (map session_update_of us) ≤ 1000 → length xs ≤ 1000
few_updates us xs e h = let l : length xs ≡ length us = ap (λ ys. length ys) e in omega (arith, h, l, mapped_long session_update_of us)

pub opened_by : (ms : List Rule) (B : ℕ) (c : Settings) (base : Listed Tuple) (us : Listed SessionUpdate) (later : Listed UpdateOfProgram) (D : List Fact) (xs : List SessionUpdate) (v : Kept) (rs : List QueuedUpdate) (es : List Entry) → later.items ≡ [] → 1 ≤ B → c.retries ≤ 4 → AreWithin ms → IsRepository (map fact_of base.items)
    → length xs ≤ 1000 → D ≡ map fact_of base.items → xs ≡ us.items → AreQueued xs rs → AreFrom 1 rs → length rs ≡ length xs → map entry_of es ≡ admissions_from 1 (length xs) → StandFor v D no_trails
    → IsKept (ground_by ms B c base us later) v rs (map entry_of es)
opened_by ms B c base us later D xs v rs es none some retries within' sorted few tuples updates are numbers long entries stands =
    opened_kept ms B c base us later v rs es (length xs) none some retries within' sorted (subst (λ (ys : List SessionUpdate). length ys ≤ 1000) updates few) (subst (λ (ys : List SessionUpdate). AreQueued ys rs) updates are) numbers
    (long ∙ ap (λ ys. length ys) updates) (ap (λ ys. length ys) updates) entries (subst (λ (E : List Fact). StandFor v E no_trails) tuples stands)

pub opened_is : (s : SessionData) (ms : List Rule) (B : ℕ) (c : Settings) (base : Listed Tuple) (us : Listed SessionUpdate) (later : Listed UpdateOfProgram) (xs : List SessionUpdate) (es : List Entry) → later.items ≡ [] → ms ≡ rules_of s.mappings → xs ≡ us.items
    → map entry_of es ≡ admissions_from 1 (length xs) → s.base ≡ map fact_of base.items → requests_in s ≡ map request_of (map session_update_of us.items)
    → record { over = ground_by ms B c base us later; history = map entry_of es; relations = s.relations } ≡ opened s B c (length us.items)
opened_is s ms B c base us later xs es none rules updates entries tuples requests =
    λ i. record {
      over = record { rules = rules i; budget = B; settings = c; base = sym tuples i; requests = sym requests i; later = map (λ (u : UpdateOfProgram). operation_of u.operation) (none i) };
      history = (entries ∙ ap (λ ys. admissions_from 1 (length ys)) updates) i;
      relations = s.relations;
    }

-- What it is over came of the session.
pub opened_came : (s : SessionData) (ms : List Rule) (B : ℕ) (c : Settings) (base : Listed Tuple) (us : Listed SessionUpdate) (later : Listed UpdateOfProgram) → later.items ≡ [] → ms ≡ rules_of s.mappings
    → s.base ≡ map fact_of base.items → requests_in s ≡ map request_of (map session_update_of us.items) → IsSession s → base_violation s ≡ None → 1 ≤ B → CameOf s.relations (ground_by ms B c base us later)
opened_came s ms B c base us later none rules tuples requests valid meets some = record {
  session = s;
  of = record {
    valid = valid;
    meets = meets;
    some = some;
    over = λ i. record { rules = rules i; budget = B; settings = c; base = sym tuples i; requests = sym requests i; later = map (λ (u : UpdateOfProgram). operation_of u.operation) later.items };
    admitted = subst (λ (xs : List UpdateOfProgram). AreAdmitted s.relations (map (λ (u : UpdateOfProgram). operation_of u.operation) xs)) (sym none) tt;
  };
  same = refl;
}

-- ---- numbers of updates

some_at : (s : State) (n m : ℕ) (st : Standing) → n ≡ m → standing_at s m ≡ Some st → 1 ≤ n
some_at s n zero st e h = absurd (none-some st h)
some_at s n (suc m) st e h = omega (arith, e)

-- An update that stands somehow has a number.
pub some_number : (s : State) (n : ℕ) (st : Standing) → standing_at s n ≡ Some st → 1 ≤ n
some_number s n st h = some_at s n n st refl h

-- ---- a step of a core

reading_of : (p q : ProgramState) → p ≡ q → p.reading ≡ q.reading
reading_of p q e = ap (λ (t : ProgramState). t.reading) e

module _ {R : List RelationSchema} (g : Ground) (v : Kept) (rs : List QueuedUpdate) (es : List Entry) (s : State) (kept : IsKept g v rs (map entry_of es)) (same : record { over = g; history = map entry_of es; relations = R } ≡ s) (n : ℕ) (stands : standing_at s n ≡ Some Ready) (i : ℕ) (e : suc i ≡ n) (qs : List QueuedUpdate) (slice : qs ≡ rs)
    (plan : Plan) (p : PlanMeant) (meant : meant_of n plan ≡ p) (is : IsStepAt s p) where
  step_here : IsStepAt s (meant_of (suc i) plan)
  step_here = subst (λ (m : ℕ). IsStepAt s (meant_of m plan)) (sym e) (subst (λ (q : PlanMeant). IsStepAt s q) (sym meant) is)

  pub plan_ready : IsPlanAt i plan qs
  plan_ready =
      let x = queued_placed rs i (placed_within g v rs (map entry_of es) s kept same n Ready stands i (sym e)) in
      subst (λ (xs : List QueuedUpdate). IsPlanAt i plan xs) (sym slice) (plan_placed g v rs (map entry_of es) s i x.0 plan kept same x.1 step_here)

  pub plan_between : plan.program.reading ≡ None
  plan_between =
      let x = queued_placed qs i (subst (λ (xs : List QueuedUpdate). i < length xs) (sym slice) (placed_within g v rs (map entry_of es) s kept same n Ready stands i (sym e))) in
      let f : IsPlanFor x.0 plan = subst (λ (o : Option QueuedUpdate). IsSomeThat (λ (q : QueuedUpdate). IsPlanFor q plan) o) x.1 plan_ready in
      reading_of plan.program (at_rest (next_attempt f.rules f.budget f.below x.0.program.attempt (next_answer (caused_chase f.rules f.budget) (map choice_of x.0.answers.items) x.0.program.attempt))) f.planned.program

  pub core_steps : (v' : Kept) (qs' : List QueuedUpdate) (es' : List Entry) → StepsTo g.rules g.settings i plan v qs es v' qs' es' → Follows g (Steps n) (map entry_of es) v' qs' (map entry_of es')
  core_steps v' qs' es' steps =
      step_made g v v' rs qs' es es' s s i n plan kept same (sym e) stands (subst (λ (q : PlanMeant). IsStepAt s q) (sym meant) is)
      (subst (λ (xs : List QueuedUpdate). StepsTo g.rules g.settings i plan v xs es v' qs' es') slice steps)

-- ---- queued updates in place

pub kept_ok : (g : Ground) (v : Kept) (qs ys : List QueuedUpdate) (n : ℕ) (H : List PlainEntry) → length qs ≡ n → IsKept g v qs H → IsKept g v (take n (qs ++ ys)) H
kept_ok g v qs ys n H l k = subst (λ (xs : List QueuedUpdate). IsKept g v xs H) (sym (front qs ys n l)) k

pub kept_err : (g : Ground) (v v' : Kept) (rs qs qs' ys : List QueuedUpdate) (n : ℕ) (es es' : List Entry) → length qs' ≡ n → IsKept g v rs (map entry_of es) → qs ≡ rs → v' ≡ v → AreSame qs qs' → length qs' ≡ length qs → es' ≡ es
    → IsKept g v' (take n (qs' ++ ys)) (map entry_of es')
kept_err g v v' rs qs qs' ys n es es' l k slice versions same long entries =
    kept_ok g v' qs' ys n (map entry_of es') l
    (subst (λ (w : Kept). IsKept g w qs' (map entry_of es')) (sym versions)
    (subst (λ (fs : List Entry). IsKept g v qs' (map entry_of fs)) (sym entries)
    (kept_same g v qs qs' (map entry_of es) same long (subst (λ (xs : List QueuedUpdate). IsKept g v xs (map entry_of es)) (sym slice) k))))

-- ---- a delivery of a core

deliverable_if : (M : Machine) (s : Settings) (c n : ℕ) (o : Option (Update M)) → option_map (standing M s c n) o ≡ Some (Paused Missing) → unwrap_or (option_map (λ u. not (is_nil u.inbox)) o) false ≡ true
    → option_map (is_deliverable M s c n) o ≡ Some true
deliverable_if M s c n None e w = absurd (none-some (Paused Missing) e)
deliverable_if M s c n (Some u) e w =
    ap (λ b. Some b) (both_true (is_pending (standing M s c n u)) (not (is_nil u.inbox)) (ap is_pending (same_Some (standing M s c n u) (Paused Missing) e)) w)

module _ {R : List RelationSchema} (g : Ground) (v : Kept) (rs : List QueuedUpdate) (es : List Entry) (s : State) (kept : IsKept g v rs (map entry_of es)) (same : record { over = g; history = map entry_of es; relations = R } ≡ s) (n : ℕ) (stands : standing_at s n ≡ Some (Paused Missing)) (i : ℕ) (e : suc i ≡ n) (qs : List QueuedUpdate) (slice : qs ≡ rs) where
  pub pending_within : i < length qs
  pending_within = subst (λ (xs : List QueuedUpdate). i < length xs) (sym slice) (placed_within g v rs (map entry_of es) s kept same n (Paused Missing) stands i (sym e))

  pub pending_numbers : AreFrom 1 qs
  pending_numbers = subst (λ (xs : List QueuedUpdate). AreFrom 1 xs) (sym slice) kept.numbers

  pub core_delivers : (qs' : List QueuedUpdate) (es' : List Entry) → has_waiting s n ≡ true → DeliversTo g.settings i qs es qs' es' → Follows g (Delivers n) (map entry_of es) v qs' (map entry_of es')
  core_delivers qs' es' waits delivers =
      let us : List (Update (machine g)) = updates_of g.rules g.budget rs in
      let waits_here : unwrap_or (option_map (λ (u : Update (machine g)). not (is_nil u.inbox)) (slice_get us i)) false ≡ true =
      ap (λ m. unwrap_or (option_map (λ (u : Update (machine g)). not (is_nil u.inbox)) (numbered_at us m)) false) e
      ∙ sym (ap (λ (ws : List (Update (machine g))). unwrap_or (option_map (λ (u : Update (machine g)). not (is_nil u.inbox)) (numbered_at ws n)) false) kept.left.leaves)
      ∙ ap (λ (t : State). has_waiting t n) same ∙ waits in
      let may : option_map (is_deliverable (machine g) g.settings (committed (machine g) us) (suc i)) (slice_get us i) ≡ Some true =
      deliverable_if (machine g) g.settings (committed (machine g) us) (suc i) (slice_get us i) (stands_placed g v rs (map entry_of es) s kept same n (Paused Missing) stands i (sym e)) waits_here in
      let made : Follows g (Delivers (suc i)) (map entry_of es) v qs' (map entry_of es') =
      subst (λ (xs : List QueuedUpdate). DeliversTo g.settings i xs es qs' es') slice delivers g.rules v g.budget g.base g.requests g.later kept may in
      subst (λ (m : ℕ). Follows g (Delivers m) (map entry_of es) v qs' (map entry_of es')) e made
