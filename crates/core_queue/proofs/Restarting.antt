-- Restarts one after the other, over the queued updates of a queue.
use Rattle.std.proofs.Common.{◌≡◌, ◌∙◌, ap, sym, refl, subst, ℕ, suc, zero, ◌<◌, ◌+◌, Bool, Option, List, [], ◌∷◌, ◌++◌, map, length, get_or, take, drop, arith}
use Rattle.std.specs.Prelude.{if◌then◌else◌, is_some}
use Rattle.std.proofs.Math.ListN.{set}
use Rattle.std.proofs.lemmas.List.{map-set, get_or-map, length-map, take-append-drop}
use Rattle.def_machine.specs.Machine.{Machine}
use Rattle.def_machine.specs.Updates.{Update}
use Rattle.def_machine.specs.Cascade.{Cause, begun_again}
use Rattle.def_machine.specs.Settle.{restart}
use Rattle.def_chase.specs.Mappings.{Rule}
use Rattle.chase_update.specs.Courses.{State}
use Rattle.def_steps.specs.Chase.{caused_chase}
use Rattle.core_queue.specs.Queues.{update_of, updates_of, StandsAt, AreFrom}
use Rattle.core_queue.specs.Events.{KeepsPlace}
use Rattle.core_queue.specs.Renewals.{AreFresh, HasRestartedIf}
use Rattle.core_queue.specs.declared.updates.QueuedUpdate.{QueuedUpdate}

-- The updates, of which those with a mark are restarted; the first is update n.
abbrev pub restart_by : (M : Machine) → ℕ → List Bool → List (Update M) → List (Update M)
restart_by M n bs [] = []
restart_by M n [] (u ∷ us) = u ∷ us
restart_by M n (b ∷ bs) (u ∷ us) = (if b then begun_again M n u else u) ∷ restart_by M (suc n) bs us

pub restart_is : (M : Machine) (n : ℕ) (xs : List (Option (Cause M))) (us : List (Update M)) → restart M n xs us ≡ restart_by M n (map is_some xs) us
restart_is M n xs [] = refl
restart_is M n [] (u ∷ us) = refl
restart_is M n (x ∷ xs) (u ∷ us) = λ i. (if is_some x then begun_again M n u else u) ∷ restart_is M (suc n) xs us i

-- Without marks nothing is.
pub none_restart : (M : Machine) (n : ℕ) (us : List (Update M)) → restart_by M n [] us ≡ us
none_restart M n [] = refl
none_restart M n (u ∷ us) = refl

turn : (M : Machine) (us : List (Update M)) (k n : ℕ) (v : Update M) (b : Bool) (bs : List Bool) (u : Update M) → k < length us → get_or us k u ≡ u → v ≡ (if b then begun_again M n u else u)
    → take (suc k) (set us k v) ++ restart_by M (suc n) bs (drop (suc k) (set us k v)) ≡ take k us ++ restart_by M n (b ∷ bs) (drop k us)
turn M [] k n v b bs u h e r = absurd (omega (arith, h))
turn M (x ∷ us) zero n v b bs u h e r = λ j. (r ∙ (λ i. if b then begun_again M n (sym e i) else sym e i)) j ∷ restart_by M (suc n) bs us
turn M (x ∷ us) (suc k) n v b bs u h e r = let l : k < length us = omega (arith, h) in λ j. x ∷ turn M us k n v b bs u l e r j

-- ---- places

-- The queued update at a place stands there.
pub stands_there : (rs : List QueuedUpdate) (n k : ℕ) (r : QueuedUpdate) → AreFrom n rs → k < length rs → get_or rs k r ≡ r → StandsAt (n + k) r
stands_there [] n k r a h e = absurd (omega (arith, h))
stands_there (x ∷ rs) n zero r a h e = let same : n ≡ n + 0 = omega arith in subst (λ (m : ℕ). StandsAt m r) same (subst (λ (y : QueuedUpdate). StandsAt n y) e a.0)
stands_there (x ∷ rs) n (suc k) r a h e =
    let l : k < length rs = omega (arith, h) in
    let same : suc n + k ≡ n + suc k = omega arith in subst (λ (m : ℕ). StandsAt m r) same (stands_there rs (suc n) k r a.1 l e)

-- A queued update that keeps its place can be put there.
pub put_there : (rs : List QueuedUpdate) (n k : ℕ) (r v : QueuedUpdate) → AreFrom n rs → k < length rs → get_or rs k r ≡ r → KeepsPlace r v → AreFrom n (set rs k v)
put_there [] n k r v a h e f = absurd (omega (arith, h))
put_there (x ∷ rs) n zero r v a h e f = (f n (subst (λ (y : QueuedUpdate). StandsAt n y) e a.0), a.1)
put_there (x ∷ rs) n (suc k) r v a h e f = let l : k < length rs = omega (arith, h) in (a.0, put_there rs (suc n) k r v a.1 l e f)

-- ---- fresh attempts

-- There is a queued update for each.
pub fresh_within : (rs : List QueuedUpdate) (k : ℕ) (f : Option State) (fs : List (Option State)) → AreFresh (drop k rs) (f ∷ fs) → k < length rs
fresh_within [] zero f fs h = absurd h
fresh_within [] (suc k) f fs h = absurd h
fresh_within (x ∷ rs) zero f fs h = omega arith
fresh_within (x ∷ rs) (suc k) f fs h = let l : k < length rs = fresh_within rs k f fs h in omega (arith, l)

-- The others are those of the queued updates after it.
pub fresh_rest : (rs : List QueuedUpdate) (k : ℕ) (f : Option State) (fs : List (Option State)) (v : QueuedUpdate) → AreFresh (drop k rs) (f ∷ fs) → AreFresh (drop (suc k) (set rs k v)) fs
fresh_rest [] zero f fs v h = absurd h
fresh_rest [] (suc k) f fs v h = absurd h
fresh_rest (x ∷ rs) zero f fs v h = h.1
fresh_rest (x ∷ rs) (suc k) f fs v h = fresh_rest rs k f fs v h

-- ---- one turn

-- The queued update at place k begins its next attempt, if there is one.
pub turned : (ms : List Rule) (B : ℕ) (rs : List QueuedUpdate) (k m : ℕ) (r v : QueuedUpdate) (f : Option State) (bs : List Bool) → AreFrom 1 rs → k < length rs → get_or rs k r ≡ r → HasRestartedIf f r v → m ≡ suc k
    → take m (updates_of ms B (set rs k v)) ++ restart_by (caused_chase ms B) (suc m) bs (drop m (updates_of ms B (set rs k v)))
    ≡ take k (updates_of ms B rs) ++ restart_by (caused_chase ms B) (suc k) (is_some f ∷ bs) (drop k (updates_of ms B rs))
turned ms B rs k m r v f bs a h e g q =
    let M = caused_chase ms B in
    let u = update_of ms B r in
    let l : k < length (updates_of ms B rs) = simp length-map h in
    let number = (stands_there rs 1 k r a h e).number in
    let same : 1 + k ≡ suc k = omega arith in
    let made : update_of ms B v ≡ (if is_some f then begun_again M (suc k) u else u) = g ms B ∙ ap (λ (n : ℕ). if is_some f then begun_again M n u else u) (number ∙ same) in
    (λ i. take (q i) (map-set (update_of ms B) rs k v i) ++ restart_by M (suc (q i)) bs (drop (q i) (map-set (update_of ms B) rs k v i)))
    ∙ turn M (updates_of ms B rs) k (suc k) (update_of ms B v) (is_some f) bs u l (get_or-map (update_of ms B) rs k r u h ∙ ap (update_of ms B) e) made

-- The queued updates after those that were restarted stay as they are.
pub restarted : (ms : List Rule) (B : ℕ) (us all : List (Update (caused_chase ms B))) (k n : ℕ) (xs : List (Option (Cause (caused_chase ms B)))) (fs gs : List (Option State)) → gs ≡ [] → map is_some xs ≡ map is_some fs
    → take k us ++ restart_by (caused_chase ms B) (suc k) (map is_some gs) (drop k us) ≡ take n all ++ restart_by (caused_chase ms B) (suc n) (map is_some fs) (drop n all)
    → us ≡ take n all ++ restart (caused_chase ms B) (suc n) xs (drop n all)
restarted ms B us all k n xs fs gs e f h =
    let M = caused_chase ms B in
    sym (take-append-drop k us)
    ∙ (ap (λ (vs : List (Update M)). take k us ++ vs) (sym (none_restart M (suc k) (drop k us)))
    ∙ (ap (λ (ys : List (Option State)). take k us ++ restart_by M (suc k) (map is_some ys) (drop k us)) (sym e)
    ∙ (h
    ∙ (ap (λ (bs : List Bool). take n all ++ restart_by M (suc n) bs (drop n all)) (sym f)
    ∙ ap (λ (vs : List (Update M)). take n all ++ vs) (sym (restart_is M (suc n) xs (drop n all)))))))
