-- What holds of a replay by its history, and that an event which was made on it follows.
use Rattle.std.proofs.Common.{◌≡◌, ◌∙◌, ap, refl, sym, subst, ℕ, zero, suc, ◌<◌, ◌≤◌, ◌+◌, Bool, true, false, take, drop, Some, List, [], ◌∷◌, ◌++◌, map, length, arith}
use Rattle.std.specs.Prelude.{if◌then◌else◌, option_map, slice_get}
use Rattle.std.specs.List.{flat_map, list_all}
use Rattle.std.proofs.lemmas.Bool.{both_ways}
use Rattle.std.proofs.lemmas.Option.{slice_get-map}
use Rattle.core_entries.specs.Meanings.{entry_of}
use Rattle.core_entries.specs.declared.entries.Entry.{Entry}
use Rattle.def_history.specs.Cores.{Ground, machine, session_over, entries_over, updates_after, effect_after}
use Rattle.def_history.specs.CoreLaws.{Leave}
use Rattle.def_history.specs.PlainEntries.{PlainEntry, plain_entry}
use Rattle.def_history.proofs.Keeping.{histories_are_kept}
use Rattle.def_machine.specs.Effects.{Event, Effect, effect, is_spent}
use Rattle.def_machine.specs.History.{IsHistory}
use Rattle.def_machine.specs.Histories.{empty_log, event_of}
use Rattle.def_machine.specs.Machine.{Machine, Laws}
use Rattle.def_machine.specs.Reads.{all_valid, is_valid}
use Rattle.def_machine.specs.Runs.{AreRuns, Reached, more}
use Rattle.def_machine.specs.Standings.{is_ready, standing}
use Rattle.def_machine.specs.Steps.{next_move, stepped}
use Rattle.def_machine.specs.Updates.{Update, below, hides, trail}
use Rattle.def_machine.proofs.Events.{after_runs}
use Rattle.def_machine.proofs.Places.{runs_above, sound_below}
use Rattle.def_machine.proofs.Serials.{counted}
use Rattle.def_machine.proofs.Settling.{run_valid}
use Rattle.def_machine.proofs.Standing.{ready_parts}
use Rattle.def_machine.proofs.Theorem.{history_law}
use Rattle.def_chase.specs.Mappings.{Rule}
use Rattle.def_chase.specs.Repository.{Change, IsRepository, apply}
use Rattle.def_chase.specs.Values.{Fact, NullName}
use Rattle.lang_session.specs.Meanings.{request_of, update_of as session_update_of}
use Rattle.def_steps.proofs.ChaseLaws.{chase_laws}
use Rattle.def_steps.proofs.Refusing.{refused_writes_nothing}
use Rattle.def_steps.specs.Attempts.{Phase, Start, Look, Generate, Asked, Ended, Done, Spent, Refused, outcome_in}
use Rattle.def_steps.specs.Chase.{caused, caused_chase, ending}
use Rattle.audit_updates.specs.Updates.{AreFrom, update_of, updates_of}
use Rattle.audit_updates.specs.Settings.{settings_of}
use Rattle.audit_updates.specs.declared.updates.AuditedUpdate.{AuditedUpdate}
use Rattle.audit_replay.specs.Levels.{laid, top}
use Rattle.audit_replay.specs.Met.{AreValid}
use Rattle.audit_replay.specs.Places.{StandOn, trail_of}
use Rattle.audit_replay.specs.Replays.{HasGrown, IsReplayOf}
use Rattle.audit_replay.specs.Restarts.{AllHaveOneMore}
use Rattle.audit_replay.specs.declared.replays.Replay.{Replay}
use Rattle.audit_replay.proofs.Restarting.{within}
use Rattle.audit_replay.proofs.Risen.{laid_top}

-- ---- by the theorem on histories

-- The reads of runs are valid.
runs_valid : (M : Machine) → Laws M → (D : M.Repository) (n : ℕ) (us : List (Update M)) → AreRuns M D n us → AreValid M n D us
runs_valid M L D n [] r = tt
runs_valid M L D n (u ∷ us) r = (λ e. one u.withdrawn refl, runs_valid M L (M.apply D (trail M u)) (suc n) us r.1)
  where
    one : (w : Bool) → u.withdrawn ≡ w → all_valid M D u ≡ true
    one false w = run_valid M L D n u w r.0
    one true w = ap (λ l. list_all (is_valid M u.operation D (M.own u.state)) l) (r.0.gone w)

one_more_each : (rs : List AuditedUpdate) → ((i : ℕ) (r : AuditedUpdate) → slice_get rs i ≡ Some r → r.program.attempt.attempt ≤ 5) → AllHaveOneMore rs
one_more_each [] h = tt
one_more_each (r ∷ rs) h = (omega (arith, h 0 r refl), one_more_each rs (λ i q e. h (suc i) q e))

flat_same : (ms : List Rule) (B : ℕ) (rs : List AuditedUpdate) (k : ℕ) → flat_map trail_of (take k rs) ≡ flat_map (trail (caused_chase ms B)) (take k (updates_of ms B rs))
flat_same ms B rs zero = refl
flat_same ms B [] (suc k) = refl
flat_same ms B (r ∷ rs) (suc k) = ap (λ ws. trail_of r ++ ws) (flat_same ms B rs k)

refused_phase : (p : Phase) → hides (option_map ending (outcome_in p)) ≡ true → is_spent (option_map ending (outcome_in p)) ≡ false → (n : NullName) × (p ≡ Ended (Refused n))
refused_phase Start h e = absurd (both_ways false refl h)
refused_phase Look h e = absurd (both_ways false refl h)
refused_phase (Generate r) h e = absurd (both_ways false refl h)
refused_phase (Asked q) h e = absurd (both_ways false refl h)
refused_phase (Ended Done) h e = absurd (both_ways false refl h)
refused_phase (Ended Spent) h e = absurd (both_ways true e refl)
refused_phase (Ended (Refused n)) h e = (n, refl)

nothing_before : (xs ys : List Change) → xs ++ ys ≡ [] → xs ≡ []
nothing_before [] ys e = refl
nothing_before (x ∷ xs) ys e = absurd (cc)

module _ (g : Ground) (H : List PlainEntry) (r : Replay) (k : IsReplayOf g H r) where
  abbrev M : Machine
  M = machine g

  laws : Laws M
  laws = chase_laws caused g.rules g.budget k.some

  abbrev us : List (Update M)
  us = updates_of g.rules g.budget r.updates.items

  history_of : IsHistory M g.settings (session_over g) (record { updates = updates_after g H; entries = entries_over g H })
  history_of = history_law M laws g.settings (session_over g) (map event_of (entries_over g H)) (record { updates = updates_after g H; entries = entries_over g H }) k.sorted k.left.legal

  update_there : (i : ℕ) (x : AuditedUpdate) → slice_get r.updates.items i ≡ Some x → slice_get us i ≡ Some (update_of g.rules g.budget x)
  update_there i x spot = slice_get-map (update_of g.rules g.budget) r.updates.items i ∙ ap (option_map (update_of g.rules g.budget)) spot

  left_there : (i : ℕ) (x : AuditedUpdate) → slice_get r.updates.items i ≡ Some x → slice_get (updates_after g H) i ≡ Some (update_of g.rules g.budget x)
  left_there i x spot = ap (λ (vs : List (Update M)). slice_get vs i) k.left.leaves ∙ update_there i x spot

  -- One more attempt of each update has a number.
  pub all_one_more : AllHaveOneMore r.updates.items
  all_one_more = one_more_each r.updates.items (λ i x spot. omega (arith, history_of.attempts i (update_of g.rules g.budget x) (left_there i x spot), k.retries))

  -- A ready update has a step left.
  pub step_left : (i c n : ℕ) (x : AuditedUpdate) → slice_get r.updates.items i ≡ Some x → is_ready (standing M g.settings c n (update_of g.rules g.budget x)) ≡ true → x.program.attempt.steps < r.budget
  step_left i c n x spot ready =
      let u : Update M = update_of g.rules g.budget x in
      let o = (ready_parts M g.settings c n u ready).0 in
      let more : suc x.program.attempt.steps ≤ g.budget = (counted M laws (history_of.runs i u (left_there i x spot) o.present)).1 o.going in
      omega (arith, more, k.budget)

  -- An attempt that its next step refuses has written nothing.
  pub refused_unwritten : (i c n : ℕ) (x : AuditedUpdate) → slice_get r.updates.items i ≡ Some x → is_ready (standing M g.settings c n (update_of g.rules g.budget x)) ≡ true
      → hides (M.outcome (stepped M (below M g.base us i) (update_of g.rules g.budget x)).state) ≡ true → is_spent (M.outcome (stepped M (below M g.base us i) (update_of g.rules g.budget x)).state) ≡ false
      → trail M (update_of g.rules g.budget x) ≡ []
  refused_unwritten i c n x spot ready h e =
      let u : Update M = update_of g.rules g.budget x in
      let o = ready_parts M g.settings c n u ready in
      let D : List Fact = below M g.base us i in
      let run : Reached M D u.answers (suc i) u.attempt u.operation u.state u.log =
      subst (λ (vs : List (Update M)). Reached M (below M g.base vs i) u.answers (suc i) u.attempt u.operation u.state u.log) k.left.leaves (history_of.runs i u (left_there i x spot) o.0.present) in
      let v = stepped M D u in
      let next : Reached M D u.answers (suc i) u.attempt u.operation v.state v.log = more run o.0.going o.1 in
      let p = refused_phase v.state.phase h e in
      let none : v.state.own ≡ [] = refused_writes_nothing caused g.rules g.budget D u.answers (suc i) u.attempt u.operation v.state v.log p.0 next p.1 in
      let own : u.state.own ≡ [] = nothing_before u.state.own (M.writes (next_move M u.operation D u.answers u.state)) (sym (laws.moved_own u.state (next_move M u.operation D u.answers u.state)) ∙ none) in
      ap (λ (b : Bool). if b then [] else if hides (M.outcome u.state) then [] else u.state.own) o.0.present ∙ ap (λ b. if b then [] else u.state.own) (ap hides o.0.going) ∙ own

  -- All reads of the updates above one are valid.
  pub valid_above : (i : ℕ) (u : Update M) → slice_get us i ≡ Some u → AreValid M (suc (suc i)) (apply (below M g.base us i) (trail M u)) (drop (suc i) us)
  valid_above i u there =
      let all : AreRuns M g.base 1 us =
      subst (λ (vs : List (Update M)). AreRuns M g.base 1 vs) k.left.leaves
      (after_runs M laws g.settings (session_over g) (empty_log M) (record { updates = updates_after g H; entries = entries_over g H }) (map event_of (entries_over g H)) k.sorted tt k.left.legal) in
      let e : suc (1 + i) ≡ suc (suc i) = omega arith in
      runs_valid M laws (apply (below M g.base us i) (trail M u)) (suc (suc i)) (drop (suc i) us)
      (subst (λ (n : ℕ). AreRuns M (apply (below M g.base us i) (trail M u)) n (drop (suc i) us)) e (runs_above M laws g.base 1 i us u all there))

  -- What lies below one is in order.
  pub below_sorted : (i : ℕ) → IsRepository (below M g.base us i)
  below_sorted i = sound_below M laws g.base us i k.sorted

  -- The uppermost level lies there, where so many stand.
  pub top_is : (i : ℕ) (levels : List (List Fact)) → StandOn g.base r.updates.items i levels → top levels ≡ below M g.base us i
  top_is i levels s = ap top s ∙ laid_top trail_of [] g.base (take i r.updates.items) ∙ ap (λ ws. apply g.base ws) (flat_same g.rules g.budget r.updates.items i)

-- ---- any event

-- The same audited updates below a place have the same levels there.
pub stand_same : (D : List Fact) (rs rs' : List AuditedUpdate) (k : ℕ) (levels : List (List Fact)) → map trail_of (take k rs') ≡ map trail_of (take k rs) → StandOn D rs k levels → StandOn D rs' k levels
stand_same D rs rs' k levels e s = s ∙ sym (ap (laid [] D) e)

-- What was made of a replay is the replay that the entry of the event leaves.
pub follows : (g : Ground) (H : List PlainEntry) (r r' : Replay) (e : Event (machine g)) (x : Effect (machine g)) (entry : Entry) (height : ℕ) → IsReplayOf g H r
    → effect (machine g) g.settings (session_over g) (updates_of g.rules g.budget r.updates.items) e ≡ Some x
    → r'.mappings ≡ r.mappings → r'.budget ≡ r.budget → r'.settings ≡ r.settings → r'.handed ≡ r.handed
    → updates_of g.rules g.budget r'.updates.items ≡ x.updates → AreFrom 1 r'.updates.items → height ≤ length r'.updates.items → StandOn g.base r'.updates.items height r'.levels
    → plain_entry g.rules g.budget x.entry ≡ entry_of entry → HasGrown g H e entry r'
follows g H r r' e x entry height k made mappings budget settings handed us numbers within levels told =
    let allowed : effect_after g H e ≡ Some x = ap (λ (ws : List (Update (machine g))). effect (machine g) g.settings (session_over g) ws e) k.left.leaves ∙ made in
    let more : Leave g (H ++ plain_entry g.rules g.budget x.entry ∷ []) x.updates = (histories_are_kept g k.some).grows H e x k.left.legal allowed in
    let same : H ++ plain_entry g.rules g.budget x.entry ∷ [] ≡ H ++ entry_of entry ∷ [] = λ i. H ++ told i ∷ [] in (
      ap (option_map (λ (y : Effect (machine g)). H ++ plain_entry g.rules g.budget y.entry ∷ [])) allowed ∙ ap (λ (K : List PlainEntry). Some K) same,
      record {
        rules = mappings ∙ k.rules;
        budget = budget ∙ k.budget;
        some = k.some;
        settings = ap settings_of settings ∙ k.settings;
        requests = (λ i. map request_of (map session_update_of (handed i).now)) ∙ k.requests;
        later = k.later;
        sorted = k.sorted;
        retries = k.retries;
        left = subst (λ (K : List PlainEntry). Leave g K (updates_of g.rules g.budget r'.updates.items)) same (subst (λ (ws : List (Update (machine g))). Leave g (H ++ plain_entry g.rules g.budget x.entry ∷ []) ws) (sym us) more);
        numbers = numbers;
        height = height;
        within = within;
        levels = levels;
        few = subst (λ (n : ℕ). n ≤ 1000) (sym (λ i. length (handed i).now)) k.few;
      },
    )
