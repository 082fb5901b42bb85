-- Whether an event is allowed at the update of a number, as a replay decides it.
use Rattle.std.proofs.Common.{◌≡◌, ◌∙◌, ap, sym, subst, ℕ, suc, ◌<◌, Bool, true, false, List, length, get_or, Some, None}
use Rattle.std.specs.Prelude.{◌&&◌, slice_get}
use Rattle.std.proofs.lemmas.Option.{same_Some}
use Rattle.base_types.specs.Meanings.{choice_of}
use Rattle.base_types.specs.declared.updates.Choice.{Choice}
use Rattle.core_entries.specs.declared.entries.Entry.{Entry}
use Rattle.def_history.specs.Cores.{Ground, machine, session_over, effect_after}
use Rattle.def_history.specs.PlainEntries.{PlainEntry}
use Rattle.def_machine.specs.Cascade.{is_live}
use Rattle.def_machine.specs.Effects.{Event, Answers, Delivers, Steps, Withdraws, answer_effect, deliver_effect, effect, fits_question, may_answer, may_deliver, may_step, may_withdraw, step_effect, withdraw_effect}
use Rattle.def_machine.specs.Standings.{is_deliverable, is_paused, is_quiet, is_ready, standing}
use Rattle.def_machine.specs.Updates.{Update}
use Rattle.def_steps.specs.Chase.{caused_chase}
use Rattle.audit_updates.specs.Programs.{IsBetween}
use Rattle.audit_updates.specs.Updates.{update_of, updates_of}
use Rattle.audit_updates.specs.Settings.{settings_of}
use Rattle.audit_updates.specs.Standings.{IsDeliverable, IsLive, IsReady, Takes}
use Rattle.audit_updates.specs.Order.{HasCommitted, IsQuiet}
use Rattle.audit_updates.specs.declared.updates.AuditedUpdate.{AuditedUpdate}
use Rattle.audit_replay.specs.Replays.{HasMade, HasMadeAt, IsQuietReplay, IsReplay, IsReplayOf, place_in}
use Rattle.audit_replay.specs.Steps.{AtPlace, IsDeliverableOf, IsLiveOf, IsReadyOf, TakesOf}
use Rattle.audit_replay.specs.declared.events.Event.{Event as EventOfProgram}
use Rattle.audit_replay.specs.declared.events.Event.TheVariants as events
use Rattle.audit_replay.specs.declared.replays.Replay.{Replay}
use Rattle.audit_replay.proofs.Following.{done_at, placed}
use Rattle.audit_replay.proofs.Going.{its_numbers}
use Rattle.audit_replay.proofs.Restarting.{stands_placed, there_is}

-- Whether nothing is left to do.
pub quiet_is : (r : Replay) (rs : List AuditedUpdate) (b : Bool) → rs ≡ r.updates.items → IsQuiet (settings_of r.settings) rs b → IsQuietReplay r b
quiet_is r rs b slice is g H k =
    is g.rules g.budget ∙ ap (λ (qs : List AuditedUpdate). is_quiet (machine g) (settings_of r.settings) (updates_of g.rules g.budget qs)) slice
    ∙ (λ i. is_quiet (machine g) (k.settings i) (sym k.left.leaves i))

-- An event at the place is that of the number.
pub made_at : (e : ℕ → EventOfProgram) (r r' : Replay) (n i : ℕ) (entry : Entry) → Some i ≡ place_in r.updates.items n → HasMadeAt e i r r' entry → HasMade (e n) r r' (Some entry)
made_at e r r' n i entry p made = subst (λ (m : ℕ). HasMade (e m) r r' (Some entry)) (sym (placed r.updates.items n i p).0) made

-- There is an audited update at the place.
pub is_there : (r : Replay) (n i : ℕ) (rs : List AuditedUpdate) → rs ≡ r.updates.items → Some i ≡ place_in r.updates.items n → i < length rs
is_there r n i rs slice p = subst (λ (qs : List AuditedUpdate). i < length qs) (sym slice) (placed r.updates.items n i p).1

-- It stands between two steps.
pub between_there : (r : Replay) (n i : ℕ) (x : AuditedUpdate) (rs : List AuditedUpdate) → IsReplay r → rs ≡ r.updates.items → Some i ≡ place_in r.updates.items n → x ≡ get_or rs i x → IsBetween x.program
between_there r n i x rs k slice p e = (stands_placed rs i x (its_numbers r k rs slice) (is_there r n i rs slice p) e).between

module _ (r : Replay) (n i c : ℕ) (x : AuditedUpdate) (p : Some i ≡ place_in r.updates.items n) (rs : List AuditedUpdate) (slice : rs ≡ r.updates.items) (is : x ≡ get_or rs i x) (counts : HasCommitted rs c) where
  there : slice_get r.updates.items i ≡ Some x
  there = ap (λ (qs : List AuditedUpdate). slice_get qs i) (sym slice) ∙ there_is rs i x (is_there r n i rs slice p) is

  numbered : n ≡ suc i
  numbered = (placed r.updates.items n i p).0

  pub counted : HasCommitted r.updates.items c
  counted = subst (λ (qs : List AuditedUpdate). HasCommitted qs c) slice counts

  pub it_is_within : i < length r.updates.items
  it_is_within = (placed r.updates.items n i p).1

  refused : (g : Ground) (H : List PlainEntry) → IsReplayOf g H r → (e : ℕ → Event (machine g)) → effect (machine g) g.settings (session_over g) (updates_of g.rules g.budget r.updates.items) (e (suc i)) ≡ None → effect_after g H (e n) ≡ None
  refused g H k e f =
      ap (λ (m : ℕ). effect_after g H (e m)) numbered ∙ ap (λ (ws : List (Update (machine g))). effect (machine g) g.settings (session_over g) ws (e (suc i))) k.left.leaves ∙ f

  -- ---- steps

  pub not_ready : (b : Bool) → IsReady (settings_of r.settings) c n x b → b ≡ false → HasMade (events.Steps n) r r None
  not_ready b t f g H k =
      let M = machine g in
      let us = updates_of g.rules g.budget r.updates.items in
      let no : may_step M g.settings us i (update_of g.rules g.budget x) ≡ false = sym (λ j. is_ready (standing M (k.settings j) (counted g.rules g.budget j) (numbered j) (update_of g.rules g.budget x))) ∙ sym (t g.rules g.budget) ∙ f in
      (refused g H k Steps (done_at g.rules g.budget r.updates.items i x (may_step M g.settings us) (step_effect M g.settings (session_over g) us) false there no), k)

  pub ready_there : (b : Bool) → IsReady (settings_of r.settings) c n x b → b ≡ true → AtPlace i r.updates.items (IsReadyOf (settings_of r.settings) c (suc i))
  ready_there b t f q spot ms B =
      let same : x ≡ q = same_Some x q (sym there ∙ spot) in
      sym (λ j. is_ready (standing (caused_chase ms B) (settings_of r.settings) c (numbered j) (update_of ms B (same j)))) ∙ sym (t ms B) ∙ f

  -- ---- withdrawals

  pub not_live : (b : Bool) → IsLive c n x b → b ≡ false → HasMade (events.Withdraws n) r r None
  not_live b t f g H k =
      let M = machine g in
      let us = updates_of g.rules g.budget r.updates.items in
      let no : may_withdraw M us i (update_of g.rules g.budget x) ≡ false = sym (λ j. is_live M (counted g.rules g.budget j) (numbered j) (update_of g.rules g.budget x)) ∙ sym (t g.rules g.budget) ∙ f in
      (refused g H k Withdraws (done_at g.rules g.budget r.updates.items i x (may_withdraw M us) (withdraw_effect M g.settings (session_over g) us) false there no), k)

  pub live_there : (b : Bool) → IsLive c n x b → b ≡ true → AtPlace i r.updates.items (IsLiveOf c (suc i))
  live_there b t f q spot ms B =
      let same : x ≡ q = same_Some x q (sym there ∙ spot) in
      sym (λ j. is_live (caused_chase ms B) c (numbered j) (update_of ms B (same j))) ∙ sym (t ms B) ∙ f

  -- ---- deliveries

  pub not_deliverable : (b : Bool) → IsDeliverable (settings_of r.settings) c n x b → b ≡ false → HasMade (events.Delivers n) r r None
  not_deliverable b t f g H k =
      let M = machine g in
      let us = updates_of g.rules g.budget r.updates.items in
      let no : may_deliver M g.settings us i (update_of g.rules g.budget x) ≡ false = sym (λ j. is_deliverable M (k.settings j) (counted g.rules g.budget j) (numbered j) (update_of g.rules g.budget x)) ∙ sym (t g.rules g.budget) ∙ f in
      (refused g H k Delivers (done_at g.rules g.budget r.updates.items i x (may_deliver M g.settings us) (deliver_effect M g.settings us) false there no), k)

  pub deliverable_there : (b : Bool) → IsDeliverable (settings_of r.settings) c n x b → b ≡ true → IsDeliverableOf (settings_of r.settings) i r.updates.items
  deliverable_there b t f ms B q spot =
      let same : x ≡ q = same_Some x q (sym there ∙ spot) in
      sym (λ j. is_deliverable (caused_chase ms B) (settings_of r.settings) (counted ms B j) (numbered j) (update_of ms B (same j))) ∙ sym (t ms B) ∙ f

  -- ---- answers

  pub not_taken : (a : Choice) (b : Bool) → Takes (settings_of r.settings) c n (choice_of a) x b → b ≡ false → HasMade (events.Answers n a) r r None
  not_taken a b t f g H k =
      let M = machine g in
      let us = updates_of g.rules g.budget r.updates.items in
      let no : may_answer M g.settings us (choice_of a) i (update_of g.rules g.budget x) ≡ false =
      sym (λ j. is_paused (standing M (k.settings j) (counted g.rules g.budget j) (numbered j) (update_of g.rules g.budget x)) && fits_question M (M.question x.program.attempt) (choice_of a)) ∙ sym (t g.rules g.budget) ∙ f in
      (refused g H k (λ m. Answers m (choice_of a)) (done_at g.rules g.budget r.updates.items i x (may_answer M g.settings us (choice_of a)) (answer_effect M g.settings us (choice_of a)) false there no), k)

  pub taken_there : (a : Choice) (b : Bool) → Takes (settings_of r.settings) c n (choice_of a) x b → b ≡ true → TakesOf (settings_of r.settings) (choice_of a) i r.updates.items
  taken_there a b t f ms B q spot =
      let same : x ≡ q = same_Some x q (sym there ∙ spot) in
      sym (λ j. is_paused (standing (caused_chase ms B) (settings_of r.settings) (counted ms B j) (numbered j) (update_of ms B (same j))) && fits_question (caused_chase ms B) ((caused_chase ms B).question (same j).program.attempt) (choice_of a)) ∙ sym (t ms B) ∙ f
