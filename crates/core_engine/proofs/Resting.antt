-- The lowest ready update stands ready, and the lowest to which an answer can be delivered is pending with one; a turn is what a drain does next.
use Rattle.std.proofs.Common.{◌≡◌, ◌∙◌, ap, sym, refl, subst, ℕ, suc, ◌≤◌, ◌+◌, Bool, true, false, ◌&&◌, Option, Some, None, List, [], ◌∷◌, arith}
use Rattle.std.specs.Prelude.{if◌then◌else◌, not, is_none, option_map, option_and_then, unwrap_or, slice_get}
use Rattle.std.proofs.lemmas.Bool.{and_parts}
use Rattle.std.proofs.lemmas.Option.{same_Some, none-some}
use Rattle.def_machine.specs.Machine.{Machine}
use Rattle.def_machine.specs.Updates.{Update}
use Rattle.def_machine.specs.Drains.{step_or_deliver}
use Rattle.def_machine.specs.Effects.{Event, Steps, Delivers}
use Rattle.def_machine.specs.Standings.{Standing, Ready, Held, Paused, Missing, Misfit, Ended, Withdrawn, standing, is_ready, is_pending, is_deliverable, is_nil, lowest_that}
use Rattle.def_chase.specs.Repository.{IsRepository}
use Rattle.def_history.specs.Cores.{Ground, machine, IsLegalOver, grown}
use Rattle.core_laws.specs.Turns.{turned, work_after}
use Rattle.core_laws.proofs.Turning.{turn_law, turns_more}
use Rattle.core_engine.specs.States.{State, updates_at, committed_at, numbered_at, standing_at, has_waiting, lowest_ready_at, lowest_deliverable_at, is_quiet_at}
use Rattle.core_engine.specs.Events.{HasMade}
use Rattle.core_engine.specs.Drained.{HasTurned, HasTurnedOnce, HasRested}

-- ---- the lowest

-- The update of this number passes; the first of the list is update n.
record Passes (M : Machine) (p : ℕ → Update M → Bool) (n : ℕ) (us : List (Update M)) (i : ℕ) : Type 0 where
  place : ℕ
  update : Update M
  number : i ≡ n + place
  there : slice_get us place ≡ Some update
  passes : p i update ≡ true

lowest_passes : (M : Machine) (p : ℕ → Update M → Bool) (n : ℕ) (us : List (Update M)) (i : ℕ) → lowest_that p n us ≡ Some i → Passes M p n us i
lowest_passes M p n [] i h = absurd (none-some i h)
lowest_passes M p n (u ∷ us) i h = by (p n u) refl h (λ g. lowest_passes M p (suc n) us i g)
  where
    by : (b : Bool) → p n u ≡ b → (if b then Some n else lowest_that p (suc n) us) ≡ Some i → (lowest_that p (suc n) us ≡ Some i → Passes M p (suc n) us i) → Passes M p n (u ∷ us) i
    by true e g rec = let same : n ≡ i = same_Some n i g in record { place = 0; update = u; number = omega (arith, same); there = refl; passes = ap (λ j. p j u) (sym same) ∙ e }
    by false e g rec =
        let r : Passes M p (suc n) us i = rec g in
        record { place = suc r.place; update = r.update; number = omega (arith, r.number); there = r.there; passes = r.passes }

ready_is : (st : Standing) → is_ready st ≡ true → st ≡ Ready
ready_is Ready h = refl
ready_is (Held c) h = let never : false ≡ true = h in cc
ready_is (Paused l) h = let never : false ≡ true = h in cc
ready_is (Ended o) h = let never : false ≡ true = h in cc
ready_is Withdrawn h = let never : false ≡ true = h in cc

pending_is : (st : Standing) → is_pending st ≡ true → st ≡ Paused Missing
pending_is Ready h = let never : false ≡ true = h in cc
pending_is (Held c) h = let never : false ≡ true = h in cc
pending_is (Paused Missing) h = refl
pending_is (Paused Misfit) h = let never : false ≡ true = h in cc
pending_is (Ended o) h = let never : false ≡ true = h in cc
pending_is Withdrawn h = let never : false ≡ true = h in cc

-- The lowest ready update stands ready.
pub ready_stands : (s : State) (i : ℕ) → lowest_ready_at s ≡ Some i → standing_at s i ≡ Some Ready
ready_stands s i h =
    let M = machine s.over in
    let us = updates_at s in
    let c = committed_at s in
    let r : Passes M (λ n u. is_ready (standing M s.over.settings c n u)) 1 us i = lowest_passes M (λ n u. is_ready (standing M s.over.settings c n u)) 1 us i h in
    let number : i ≡ suc r.place = omega (arith, r.number) in
    ap (λ (o : Option (Update M)). option_map (standing M s.over.settings c i) o) (ap (numbered_at us) number ∙ r.there)
    ∙ ap Some (ready_is (standing M s.over.settings c i r.update) r.passes)

-- The lowest to which an answer can be delivered is pending, and one waits for it.
pub deliverable_stands : (s : State) (i : ℕ) → lowest_deliverable_at s ≡ Some i → (standing_at s i ≡ Some (Paused Missing)) × (has_waiting s i ≡ true)
deliverable_stands s i h =
    let M = machine s.over in
    let us = updates_at s in
    let c = committed_at s in
    let r : Passes M (λ n u. is_deliverable M s.over.settings c n u) 1 us i = lowest_passes M (λ n u. is_deliverable M s.over.settings c n u) 1 us i h in
    let number : i ≡ suc r.place = omega (arith, r.number) in
    let there : numbered_at us i ≡ Some r.update = ap (numbered_at us) number ∙ r.there in
    let both = and_parts (is_pending (standing M s.over.settings c i r.update)) (not (is_nil r.update.inbox)) r.passes in (
      ap (λ (o : Option (Update M)). option_map (standing M s.over.settings c i) o) there ∙ ap Some (pending_is (standing M s.over.settings c i r.update) both.0),
      ap (λ (o : Option (Update M)). unwrap_or (option_map (λ u. not (is_nil u.inbox)) o) false) there ∙ both.1,
    )

-- ---- turns

made_once : (old new : State) (e : Event (machine old.over)) (r d : Option ℕ) → lowest_ready_at old ≡ r → lowest_deliverable_at old ≡ d → step_or_deliver (machine old.over) r d ≡ Some e → HasMade old e new
    → 1 ≤ old.over.budget → IsRepository old.over.base → IsLegalOver old.over old.history → HasTurnedOnce old new
made_once old new e r d h f k made some sorted legal =
    let g = old.over in
    let next : step_or_deliver (machine g) (lowest_ready_at old) (lowest_deliverable_at old) ≡ Some e = (λ i. step_or_deliver (machine g) (h i) (f i)) ∙ k in
    let turn : turned g old.history ≡ Some new.history = ap (option_and_then (grown g old.history)) next ∙ made.grows in
    record { over = made.over; history = turn; relations = made.relations; less = (turn_law g old.history new.history some sorted legal turn).less }

-- A step of the lowest ready update is a turn.
pub step_turns : (old new : State) (i : ℕ) → lowest_ready_at old ≡ Some i → HasMade old (Steps i) new → 1 ≤ old.over.budget → IsRepository old.over.base → IsLegalOver old.over old.history → HasTurnedOnce old new
step_turns old new i h made some sorted legal = made_once old new (Steps i) (Some i) (lowest_deliverable_at old) h refl refl made some sorted legal

-- A delivery to the lowest that can have one is, where none is ready.
pub delivery_turns : (old new : State) (i : ℕ) → lowest_ready_at old ≡ None → lowest_deliverable_at old ≡ Some i → HasMade old (Delivers i) new → 1 ≤ old.over.budget → IsRepository old.over.base → IsLegalOver old.over old.history
    → HasTurnedOnce old new
delivery_turns old new i h f made some sorted legal = made_once old new (Delivers i) None (Some i) h f refl made some sorted legal

-- One turn more.
pub turned_on : (a b c : State) → HasTurned a b → HasTurnedOnce b c → HasTurned a c
turned_on a b c t u =
    record {
      turns = suc t.turns;
      over = u.over ∙ t.over;
      history = turns_more a.over t.turns a.history b.history c.history t.history (ap (λ (g : Ground). turned g b.history) (sym t.over) ∙ u.history);
      relations = u.relations ∙ t.relations;
    }

-- Less work is left after it.
pub less_left : (a b : State) → HasTurnedOnce a b → suc (work_after b.over b.history) ≤ work_after a.over a.history
less_left a b u = subst (λ (g : Ground). suc (work_after g b.history) ≤ work_after a.over a.history) (sym u.over) u.less

-- Where there was no turn it is quiet.
pub rests_quiet : (b c : State) → HasRested b c → is_quiet_at c ≡ true
rests_quiet b c r = ap is_quiet_at r.same ∙ r.quiet

-- There is no turn where nothing is ready and nothing can be delivered.
pub no_turn : (s : State) → lowest_ready_at s ≡ None → lowest_deliverable_at s ≡ None → HasRested s s
no_turn s h f = record { quiet = λ i. is_none (h i) && is_none (f i); same = refl }
