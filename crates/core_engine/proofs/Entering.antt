-- The entries of events, and the room that is made for them.
use Rattle.std.proofs.Common.{◌≡◌, ◌∙◌, ap, refl, sym, subst, ℕ, suc, ◌<◌, ◌+◌, Option, List, [], ◌∷◌, ◌++◌, map, drop, length, get_or, arith, drop-cons}
use Rattle.std.proofs.Math.ListN.{set}
use Rattle.std.proofs.lemmas.Option.{same_Some}
use Rattle.std.specs.Prelude.{Result, Ok, Err, OnOk}
use Rattle.base_types.specs.Listed.{Listed}
use Rattle.base_types.specs.Meanings.{change_of}
use Rattle.base_types.specs.declared.updates.Write.{Write}
use Rattle.core_entries.specs.Meanings.{cause_of, standing_of}
use Rattle.core_entries.specs.declared.causes.Cause.{Cause}
use Rattle.core_entries.specs.declared.entries.Entry.TheVariants.{Stepped, Delivered}
use Rattle.core_entries.specs.declared.standings.Standing.{Standing}
use Rattle.def_history.specs.PlainEntries.{WasStepped, WasDelivered}
use Rattle.def_machine.specs.Standings.{standing}
use Rattle.def_machine.specs.Updates.{Settings, Update, committed}
use Rattle.def_chase.specs.Mappings.{Rule}
use Rattle.chase_plan.specs.declared.plans.Plan.{Plan}
use Rattle.core_queue.specs.Events.{HasRoom, HasRoomFor, IsAdmitted}
use Rattle.core_queue.specs.Queues.{update_of, updates_of, StandsAt, AreFrom}
use Rattle.core_queue.specs.Updates.{HasStanding}
use Rattle.core_queue.specs.Order.{HasCommitted}
use Rattle.core_queue.specs.declared.updates.QueuedUpdate.{QueuedUpdate}
use Rattle.lang_session.specs.declared.sessions.SessionUpdate.{SessionUpdate}
use Rattle.def_steps.specs.Chase.{caused_chase}
use Rattle.core_engine.specs.Admitted.{admitted_from, handed_in}
use Rattle.core_engine.specs.Follows.{HasRoomAt, HasAnswerRoomAt, TellsStep, TellsDelivery}
use Rattle.core_engine.specs.Planned.{IsSomeThat}
use Rattle.core_engine.proofs.Delivering.{set_there}
use Rattle.core_engine.proofs.Opening.{from_more}
use Rattle.core_engine.proofs.Telling.{there_is, number_there}

on_ok : {A E : Type 0} (r : Result A E) (P : Type 0) → P → OnOk r P
on_ok (Ok x) P p = p
on_ok (Err e) P p = tt

-- ---- room

pub room_at : {E : Type 0} (x : Result (Unit {0}) E) (rs : List QueuedUpdate) (k : ℕ) (r : QueuedUpdate) (plan : Plan) → k < length rs → HasRoomFor plan r → OnOk x (HasRoomAt k plan (set rs k r))
room_at x rs k r plan l room = on_ok x (HasRoomAt k plan (set rs k r)) (subst (λ (o : Option QueuedUpdate). IsSomeThat (λ (q : QueuedUpdate). HasRoomFor plan q) o) (sym (set_there rs k r l)) room)

pub answer_room_at : {E : Type 0} (x : Result (Unit {0}) E) (rs : List QueuedUpdate) (k : ℕ) (r : QueuedUpdate) → k < length rs → HasRoom r → OnOk x (HasAnswerRoomAt k (set rs k r))
answer_room_at x rs k r l room = on_ok x (HasAnswerRoomAt k (set rs k r)) (subst (λ (o : Option QueuedUpdate). IsSomeThat (λ (q : QueuedUpdate). HasRoom q) o) (sym (set_there rs k r l)) room)

-- ---- entries

pub standing_there : (s : Settings) (rs : List QueuedUpdate) (k n c : ℕ) (r r' : QueuedUpdate) (st : Standing) → r ≡ r' → n ≡ suc k → HasCommitted rs c → HasStanding s c n r st
    → (ms : List Rule) (B : ℕ) → standing_of st ≡ standing (caused_chase ms B) s (committed (caused_chase ms B) (updates_of ms B rs)) (suc k) (update_of ms B r')
standing_there s rs k n c r r' st same number counts stands ms B =
    stands ms B ∙ (λ i. standing (caused_chase ms B) s (counts ms B i) (number i) (update_of ms B (same i)))

pub step_told : (s : Settings) (k n a c : ℕ) (writes : Listed Write) (causes : Listed Cause) (rs : List QueuedUpdate) (r : QueuedUpdate) (st : Standing) → AreFrom 1 rs → k < length rs → r ≡ get_or rs k r → n ≡ r.program.attempt.number
    → HasCommitted rs c → HasStanding s c n r st → TellsStep s k a writes causes rs (Stepped n a st writes causes c)
step_told s k n a c writes causes rs r st from l e number counts stands ms B r' spot =
    let place : n ≡ suc k = number ∙ number_there rs k r from l e in
    let same : r ≡ r' = same_Some r r' (sym (there_is rs k r l e) ∙ spot) in
    λ i. WasStepped (record {
      update = place i;
      attempt = a;
      standing = standing_there s rs k n c r r' st same place counts stands ms B i;
      writes = map change_of writes.items;
      causes = map cause_of causes.items;
      committed = counts ms B i;
    })

pub delivery_told : (s : Settings) (k n c : ℕ) (rs : List QueuedUpdate) (r : QueuedUpdate) (st : Standing) → AreFrom 1 rs → k < length rs → r ≡ get_or rs k r → n ≡ r.program.attempt.number
    → HasCommitted rs c → HasStanding s c n r st → TellsDelivery s k rs (Delivered n st)
delivery_told s k n c rs r st from l e number counts stands ms B r' spot =
    let place : n ≡ suc k = number ∙ number_there rs k r from l e in
    let same : r ≡ r' = same_Some r r' (sym (there_is rs k r l e) ∙ spot) in
    λ i. WasDelivered (record { update = place i; standing = standing_there s rs k n c r r' st same place counts stands ms B i })

-- ---- admissions in turn

one_longer : {A : Type 0} (xs : List A) (x : A) → length (xs ++ x ∷ []) ≡ suc (length xs)
one_longer [] x = refl
one_longer (y ∷ xs) x = ap suc (one_longer xs x)

updates_more : (ms : List Rule) (B : ℕ) (rs : List QueuedUpdate) (r : QueuedUpdate) (us : List (Update (caused_chase ms B))) → updates_of ms B (rs ++ r ∷ []) ++ us ≡ updates_of ms B rs ++ update_of ms B r ∷ us
updates_more ms B [] r us = refl
updates_more ms B (q ∷ rs) r us = ap (λ ws. update_of ms B q ∷ ws) (updates_more ms B rs r us)

module _ (us : List SessionUpdate) (k n : ℕ) (u : SessionUpdate) (qs qs' : List QueuedUpdate) (r : QueuedUpdate) (number : n ≡ suc (length qs)) (grew : qs' ≡ qs ++ r ∷ []) where
  pub number_more : n + 1 ≡ suc (length qs')
  number_more = let l : length qs' ≡ suc (length qs) = ap (λ xs. length xs) grew ∙ one_longer qs r in omega (arith, number, l)

  pub long_more : length qs ≡ k → length qs' ≡ k + 1
  long_more long = let l : length qs' ≡ suc (length qs) = ap (λ xs. length xs) grew ∙ one_longer qs r in omega (arith, long, l)

  pub all_from_more : AreFrom 1 qs → StandsAt n r → AreFrom 1 qs'
  all_from_more from stands =
      let same : n ≡ 1 + length qs = omega (arith, number) in
      subst (λ (xs : List QueuedUpdate). AreFrom 1 xs) (sym grew) (from_more 1 qs r from (subst (λ (m : ℕ). StandsAt m r) same stands))

  pub done_more : ((ms : List Rule) (B : ℕ) → updates_of ms B qs ++ admitted_from (caused_chase ms B) n (handed_in ms B (drop k us)) ≡ admitted_from (caused_chase ms B) 1 (handed_in ms B us))
      → k < length us → u ≡ get_or us k u → IsAdmitted n u.update u.answers r
      → (ms : List Rule) (B : ℕ) → updates_of ms B qs' ++ admitted_from (caused_chase ms B) (n + 1) (handed_in ms B (drop (k + 1) us)) ≡ admitted_from (caused_chase ms B) 1 (handed_in ms B us)
  done_more done l e is ms B =
      let next : n + 1 ≡ suc n = omega arith in
      let one : k + 1 ≡ suc k = omega arith in
      ap (λ xs. updates_of ms B xs ++ admitted_from (caused_chase ms B) (n + 1) (handed_in ms B (drop (k + 1) us))) grew
      ∙ updates_more ms B qs r (admitted_from (caused_chase ms B) (n + 1) (handed_in ms B (drop (k + 1) us)))
      ∙ (λ t. updates_of ms B qs ++ is ms B t ∷ admitted_from (caused_chase ms B) (next t) (handed_in ms B (drop (one t) us)))
      ∙ ap (λ xs. updates_of ms B qs ++ admitted_from (caused_chase ms B) n (handed_in ms B xs)) (sym (drop-cons us k u l ∙ ap (λ y. y ∷ drop (suc k) us) (sym e)))
      ∙ done ms B
