-- What had read nothing still has not, above the update of an event.
use Rattle.std.proofs.Common.{◌≡◌, ◌∙◌, ap, refl, sym, subst, ℕ, zero, suc, ◌≤◌, ◌<◌, ◌+◌, ◌-◌, ◌^◌, Bool, true, false, Option, List, [], ◌∷◌, ◌++◌, map, length, take, drop, arith}
use Rattle.std.specs.Prelude.{if◌then◌else◌, is_some}
use Rattle.std.proofs.Math.ListN.{set}
use Rattle.std.proofs.lemmas.List.{map-set, drop-map, drop-drop, length-drop, take-append-drop}
use Rattle.def_history.specs.Cores.{Ground}
use Rattle.def_history.specs.PlainEntries.{PlainEntry}
use Rattle.def_machine.specs.Cascade.{Cause, begun_again}
use Rattle.def_machine.specs.Machine.{Machine}
use Rattle.def_machine.specs.Settle.{restart}
use Rattle.def_machine.specs.Updates.{Update}
use Rattle.chase_update.specs.Courses.{State as ProgramState}
use Rattle.core_queue.proofs.Skipping.{none_unready}
use Rattle.core_queue.proofs.Unread.{all_may_read}
use Rattle.core_queue.proofs.Walking.{none_committed}
use Rattle.core_queue.specs.Queues.{update_of, updates_of}
use Rattle.core_queue.specs.Renewals.{HaveRestarted}
use Rattle.core_queue.specs.Order.{AreUnread, CommitsAtLeast, ReadsAtMost, UnreadyUpTo}
use Rattle.core_queue.specs.declared.updates.QueuedUpdate.{QueuedUpdate}
use Rattle.def_steps.specs.Chase.{caused_chase}
use Rattle.set_versions.specs.Standing.{Kept}
use Rattle.core_engine.specs.Follows.{AreSame, KeepsUnread}
use Rattle.core_engine.specs.Kept.{IsKept}
use Rattle.core_engine.specs.Known.{IsKnown}
use Rattle.core_engine.specs.declared.known.Known.{Known}
use Rattle.core_engine.proofs.Following.{marks_for, marked_so}
use Rattle.core_engine.proofs.Small.{front}
use Rattle.core_engine.proofs.Marking.{none_known}

-- A restart leaves nothing read.
restarts_unread : (M : Machine) (n m : ℕ) (xs : List (Option (Cause M))) (us : List (Update M)) → AreUnread M (drop n us) → AreUnread M (drop n (restart M m xs us))
restarts_unread M n m xs [] h = h
restarts_unread M n m [] (u ∷ us) h = h
restarts_unread M zero m (x ∷ xs) (u ∷ us) h = (by (is_some x), restarts_unread M zero (suc m) xs us h.1)
  where
    by : (b : Bool) → (if b then begun_again M m u else u).log ≡ []
    by true = refl
    by false = h.0
restarts_unread M (suc n) m (x ∷ xs) (u ∷ us) h = restarts_unread M n (suc m) xs us h

-- Nor does a restart of those after a place.
unread_after : (M : Machine) (k n m : ℕ) (xs : List (Option (Cause M))) (us : List (Update M)) → AreUnread M (drop n us) → AreUnread M (drop n (take k us ++ restart M m xs (drop k us)))
unread_after M zero n m xs us h = restarts_unread M n m xs us h
unread_after M (suc k) n m xs [] h = h
unread_after M (suc k) zero m xs (u ∷ us) h = (h.0, unread_after M k zero m xs us h.1)
unread_after M (suc k) (suc n) m xs (u ∷ us) h = unread_after M k n m xs us h

past : {A : Type 0} (xs : List A) (k n : ℕ) (y : A) → suc k ≤ n → drop n (set xs k y) ≡ drop n xs
past [] k n y l = refl
past (x ∷ xs) k zero y l = absurd (omega (arith, l))
past (x ∷ xs) zero (suc n) y l = refl
past (x ∷ xs) (suc k) (suc n) y l = past xs k n y (omega (arith, l))

pub unread_kept : (rs rs' : List QueuedUpdate) (k : ℕ) (r' : QueuedUpdate) (fs : List (Option ProgramState)) → HaveRestarted (k + 1) fs (set rs k r') rs' → KeepsUnread k rs rs'
unread_kept rs rs' k r' fs restarts n l h ms B =
    let M = caused_chase ms B in
    let us : List (Update (caused_chase ms B)) = updates_of ms B (set rs k r') in
    let put : drop n us ≡ drop n (updates_of ms B rs) = ap (drop n) (map-set (update_of ms B) rs k r') ∙ past (updates_of ms B rs) k n (update_of ms B r') l in
    subst (λ (vs : List (Update (caused_chase ms B))). AreUnread (caused_chase ms B) (drop n vs)) (sym (restarts ms B (marks_for ms B fs) (marked_so ms B fs)))
    (unread_after M (k + 1) n (suc (k + 1)) (marks_for ms B fs) us (subst (λ (vs : List (Update (caused_chase ms B))). AreUnread (caused_chase ms B) vs) (sym put) (h ms B)))

restart_none : (M : Machine) (n : ℕ) (us : List (Update M)) → restart M n [] us ≡ us
restart_none M n [] = refl
restart_none M n (u ∷ us) = refl

-- Where no update restarts all are as they were.
pub none_restarted : (k : ℕ) (rs : List QueuedUpdate) → HaveRestarted k [] rs rs
none_restarted k rs ms B xs none = by xs none
  where
    by : (xs : List (Option (Cause (caused_chase ms B)))) → map is_some xs ≡ [] → updates_of ms B rs ≡ take k (updates_of ms B rs) ++ restart (caused_chase ms B) (suc k) xs (drop k (updates_of ms B rs))
    by [] h = sym (ap (λ (us : List (Update (caused_chase ms B))). take k (updates_of ms B rs) ++ us) (restart_none (caused_chase ms B) (suc k) (drop k (updates_of ms B rs))) ∙ take-append-drop k (updates_of ms B rs))
    by (x ∷ xs) h = absurd (cc h)

pub same_unread : (rs rs' : List QueuedUpdate) (n : ℕ) → AreSame rs rs' → ReadsAtMost rs n → ReadsAtMost rs' n
same_unread rs rs' n same h ms B = subst (λ (us : List (Update (caused_chase ms B))). AreUnread (caused_chase ms B) (drop n us)) (sym (same.updates ms B)) (h ms B)

fewer_unread : (M : Machine) (n m : ℕ) (us : List (Update M)) → n ≤ m → AreUnread M (drop n us) → AreUnread M (drop m us)
fewer_unread M n zero [] l h = tt
fewer_unread M n (suc m) [] l h = tt
fewer_unread M zero zero (u ∷ us) l h = h
fewer_unread M zero (suc m) (u ∷ us) l h = fewer_unread M zero m us (omega arith) h.1
fewer_unread M (suc n) zero (u ∷ us) l h = absurd (omega (arith, l))
fewer_unread M (suc n) (suc m) (u ∷ us) l h = fewer_unread M n m us (omega (arith, l)) h

pub more_read : (rs : List QueuedUpdate) (n m : ℕ) → n ≤ m → ReadsAtMost rs n → ReadsAtMost rs m
more_read rs n m l h ms B = fewer_unread (caused_chase ms B) n m (updates_of ms B rs) l (h ms B)

-- Of those above a place the first may have, so many.
pub readers_are : (rs : List QueuedUpdate) (k n m : ℕ) → n ≤ suc k + m → ReadsAtMost rs n → ReadsAtMost (drop (suc k) rs) m
readers_are rs k n m l h ms B =
    subst (λ (us : List (Update (caused_chase ms B))). AreUnread (caused_chase ms B) us)
    (sym (drop-drop m (suc k) (updates_of ms B rs)) ∙ ap (drop m) (drop-map (update_of ms B) (suc k) rs))
    (more_read rs n (suc k + m) l h ms B)

pub readers_within : (rs : List QueuedUpdate) (k n m : ℕ) → n ≤ length rs → m ≡ n - (k + 1) → m ≤ length (drop (suc k) rs)
readers_within rs k n m l e = let long = length-drop (suc k) rs in omega (arith, l, e, long)

-- Those that were made before the last of a list.
pub most_ok : (qs ys : List QueuedUpdate) (n c : ℕ) → length qs ≡ n → ReadsAtMost qs c → ReadsAtMost (take n (qs ++ ys)) c
most_ok qs ys n c l h = subst (λ (xs : List QueuedUpdate). ReadsAtMost xs c) (sym (front qs ys n l)) h

-- Where nothing is noted of what is committed, what has read something, and what is unready, and there are marks of no update.
pub with_nothing_noted : (g : Ground) (v : Kept) (rs : List QueuedUpdate) (H : List PlainEntry) (k : Known) → k.update ≡ 0 → IsKept g v rs H
    → IsKept g v rs H × CommitsAtLeast rs 0 × ReadsAtMost rs (2 ^ 32 - 1) × UnreadyUpTo rs 0 × IsKnown g.rules v rs k
with_nothing_noted g v rs H k e kept = (kept, none_committed rs, all_may_read rs (2 ^ 32 - 1) (let l = kept.few in omega (arith, l)), none_unready rs, none_known g.rules v rs k e)

-- What is true of the updates is true of a list of the same ones.
pub as_before : (g : Ground) (v : Kept) (rs rs' : List QueuedUpdate) (H : List PlainEntry) (least most unready : ℕ) (k : Known) → rs' ≡ rs
    → IsKept g v rs H × CommitsAtLeast rs least × ReadsAtMost rs most × UnreadyUpTo rs unready × IsKnown g.rules v rs k
    → IsKept g v rs' H × CommitsAtLeast rs' least × ReadsAtMost rs' most × UnreadyUpTo rs' unready × IsKnown g.rules v rs' k
as_before g v rs rs' H least most unready k e h =
    subst (λ (xs : List QueuedUpdate). IsKept g v xs H × CommitsAtLeast xs least × ReadsAtMost xs most × UnreadyUpTo xs unready × IsKnown g.rules v xs k) (sym e) h

-- Besides, what it is over came of its session.
pub with_origin : {A B C D E F : Type 0} (x : A × B × C × D × E) (came : F) → A × B × C × D × E × F
with_origin x came = (x.0, x.1, x.2, x.3, x.4, came)
