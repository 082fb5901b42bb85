-- What is committed stays so below the update of an event, and so does what is unready.
use Rattle.std.proofs.Common.{◌≡◌, ◌∙◌, ap, refl, sym, subst, ℕ, zero, suc, ◌≤◌, ◌+◌, Bool, true, false, Option, List, [], ◌∷◌, ◌++◌, map, length, take, drop, arith, add-one}
use Rattle.std.specs.Prelude.{if◌then◌else◌}
use Rattle.std.proofs.Math.ListN.{set}
use Rattle.std.proofs.lemmas.List.{map-set}
use Rattle.def_machine.specs.Machine.{Machine}
use Rattle.def_machine.specs.Settle.{restart}
use Rattle.def_machine.specs.Updates.{Update, committed, is_over}
use Rattle.chase_update.specs.Courses.{State as ProgramState}
use Rattle.core_queue.specs.Queues.{update_of, updates_of}
use Rattle.core_queue.specs.Renewals.{HaveRestarted}
use Rattle.core_queue.specs.Order.{AreUnready, CommitsAtLeast, UnreadyUpTo}
use Rattle.core_queue.specs.declared.updates.QueuedUpdate.{QueuedUpdate}
use Rattle.def_steps.specs.Chase.{caused_chase}
use Rattle.core_engine.specs.Follows.{AreSame, KeepsCommitted, KeepsUnready}
use Rattle.core_engine.proofs.Following.{marks_for, marked_so}
use Rattle.core_engine.proofs.Small.{front}

-- With another update at the place, and whatever follows it.
placed : (M : Machine) (us : List (Update M)) (k c : ℕ) (v : Update M) (ws : List (Update M)) → c ≤ k → c ≤ committed M us → c ≤ committed M (take (suc k) (set us k v) ++ ws)
placed M us k zero v ws l h = omega arith
placed M [] k (suc c) v ws l h = absurd (omega (arith, h))
placed M (u ∷ us) zero (suc c) v ws l h = absurd (omega (arith, l))
placed M (u ∷ us) (suc k) (suc c) v ws l h = by (is_over M u) h (λ a. placed M us k c v ws (omega (arith, l)) a)
  where
    by : (b : Bool) → suc c ≤ (if b then suc (committed M us) else 0) → (c ≤ committed M us → c ≤ committed M (take (suc k) (set us k v) ++ ws)) → suc c ≤ (if b then suc (committed M (take (suc k) (set us k v) ++ ws)) else 0)
    by true a rest = let less : c ≤ committed M us = omega (arith, a) in let more = rest less in omega (arith, more)
    by false a rest = absurd (omega (arith, a))

pub committed_kept : (rs rs' : List QueuedUpdate) (k : ℕ) (r' : QueuedUpdate) (fs : List (Option ProgramState)) → HaveRestarted (k + 1) fs (set rs k r') rs' → KeepsCommitted k rs rs'
committed_kept rs rs' k r' fs restarts c l least ms B =
    let M = caused_chase ms B in
    let xs = marks_for ms B fs in
    let ws = restart M (suc (k + 1)) xs (drop (k + 1) (updates_of ms B (set rs k r'))) in
    let is : updates_of ms B rs' ≡ take (suc k) (set (updates_of ms B rs) k (update_of ms B r')) ++ ws =
    restarts ms B xs (marked_so ms B fs) ∙ (λ i. take (add-one k i) (map-set (update_of ms B) rs k r' i) ++ ws) in
    subst (λ (us : List (Update M)). c ≤ committed M us) (sym is) (placed M (updates_of ms B rs) k c (update_of ms B r') ws l (least ms B))

-- The same of what is unready.
unready_placed : (M : Machine) (us : List (Update M)) (k n : ℕ) (v : Update M) (ws : List (Update M)) → n ≤ k → AreUnready M n us → AreUnready M n (take (suc k) (set us k v) ++ ws)
unready_placed M us k zero v ws l h = tt
unready_placed M [] k (suc n) v ws l h = absurd h
unready_placed M (u ∷ us) zero (suc n) v ws l h = absurd (omega (arith, l))
unready_placed M (u ∷ us) (suc k) (suc n) v ws l h = (h.0, unready_placed M us k n v ws (omega (arith, l)) h.1)

pub unready_kept : (rs rs' : List QueuedUpdate) (k : ℕ) (r' : QueuedUpdate) (fs : List (Option ProgramState)) → HaveRestarted (k + 1) fs (set rs k r') rs' → KeepsUnready k rs rs'
unready_kept rs rs' k r' fs restarts n l h ms B =
    let M = caused_chase ms B in
    let xs = marks_for ms B fs in
    let ws = restart M (suc (k + 1)) xs (drop (k + 1) (updates_of ms B (set rs k r'))) in
    let is : updates_of ms B rs' ≡ take (suc k) (set (updates_of ms B rs) k (update_of ms B r')) ++ ws =
    restarts ms B xs (marked_so ms B fs) ∙ (λ i. take (add-one k i) (map-set (update_of ms B) rs k r' i) ++ ws) in
    subst (λ (us : List (Update M)). AreUnready M n us) (sym is) (unready_placed M (updates_of ms B rs) k n (update_of ms B r') ws l (h ms B))

fewer : (M : Machine) (us : List (Update M)) (n m : ℕ) → m ≤ n → AreUnready M n us → AreUnready M m us
fewer M us n zero l h = tt
fewer M us zero (suc m) l h = absurd (omega (arith, l))
fewer M [] (suc n) (suc m) l h = absurd h
fewer M (u ∷ us) (suc n) (suc m) l h = (h.0, fewer M us n m (omega (arith, l)) h.1)

pub fewer_unready : (rs : List QueuedUpdate) (n m : ℕ) → m ≤ n → UnreadyUpTo rs n → UnreadyUpTo rs m
fewer_unready rs n m l h ms B = fewer (caused_chase ms B) (updates_of ms B rs) n m l (h ms B)

pub same_unready : (rs rs' : List QueuedUpdate) (n : ℕ) → AreSame rs rs' → UnreadyUpTo rs n → UnreadyUpTo rs' n
same_unready rs rs' n same h ms B = subst (λ (us : List (Update (caused_chase ms B))). AreUnready (caused_chase ms B) n us) (sym (same.updates ms B)) (h ms B)

pub fewer_committed : (rs : List QueuedUpdate) (c d : ℕ) → d ≤ c → CommitsAtLeast rs c → CommitsAtLeast rs d
fewer_committed rs c d l least ms B = let h = least ms B in omega (arith, l, h)

pub same_committed : (rs rs' : List QueuedUpdate) (c : ℕ) → AreSame rs rs' → CommitsAtLeast rs c → CommitsAtLeast rs' c
same_committed rs rs' c same least ms B = subst (λ (us : List (Update (caused_chase ms B))). c ≤ committed (caused_chase ms B) us) (sym (same.updates ms B)) (least ms B)

pub least_ok : (qs ys : List QueuedUpdate) (n c : ℕ) → length qs ≡ n → CommitsAtLeast qs c → CommitsAtLeast (take n (qs ++ ys)) c
least_ok qs ys n c l h = subst (λ (xs : List QueuedUpdate). CommitsAtLeast xs c) (sym (front qs ys n l)) h

pub unready_ok : (qs ys : List QueuedUpdate) (n k : ℕ) → length qs ≡ n → UnreadyUpTo qs k → UnreadyUpTo (take n (qs ++ ys)) k
unready_ok qs ys n k l h = subst (λ (xs : List QueuedUpdate). UnreadyUpTo xs k) (sym (front qs ys n l)) h
