-- All that is told of a queue.
use Rattle.std.proofs.Common.{◌≡◌, ◌∙◌, ap, sym, refl, ℕ, suc, ◌≤◌, ◌<◌, ◌+◌, ◌-◌, ◌^◌, Bool, true, false, List, [], ◌∷◌, map, length, add-one, arith, Fits, w32}
use Rattle.std.specs.Prelude.{if◌then◌else◌, Result, Ok, Err, IfOk}
use Rattle.base_types.specs.Listed.{Listed}
use Rattle.base_types.specs.declared.tuples.Tuple.{Tuple}
use Rattle.def_machine.specs.Machine.{Machine}
use Rattle.def_machine.specs.Updates.{Update, is_over, committed, below}
use Rattle.def_chase.specs.Mappings.{Rule}
use Rattle.def_chase.specs.Values.{Fact, outer}
use Rattle.def_steps.specs.Chase.{caused, caused_chase}
use Rattle.def_steps.specs.Serial.{answered}
use Rattle.chase_update.specs.declared.results.SessionResult.{SessionResult}
use Rattle.core_queue.specs.Queues.{updates_of}
use Rattle.core_queue.specs.Order.{HasCommitted}
use Rattle.core_queue.specs.declared.updates.QueuedUpdate.{QueuedUpdate}
use Rattle.set_versions.specs.Standing.{Kept, seen}
use Rattle.set_versions.proofs.Numbered.{below_is_seen}
use Rattle.core_result.specs.Told.{AreFinishes, IsStop, AreAnswered, AreLeft, AreVersionsOf, Tells}

-- at most all are committed
most : (M : Machine) (us : List (Update M)) → committed M us ≤ length us
most M [] = omega arith
most M (u ∷ us) = by (is_over M u) (committed M us) (length us) (most M us)
  where
    by : (b : Bool) (c n : ℕ) → c ≤ n → (if b then suc c else 0) ≤ suc n
    by true c n h = omega (arith, h)
    by false c n h = omega arith

same_length : {A B : Type 0} (f : A → B) (xs : List A) → length (map f xs) ≡ length xs
same_length f [] = refl
same_length f (x ∷ xs) = ap suc (same_length f xs)

pub one_more_fits : (rs : List QueuedUpdate) (c : ℕ) → length rs < 2 ^ 32 - 1 → HasCommitted rs c → Fits w32 (c + 1)
one_more_fits rs c few h =
    let low : c ≤ length (updates_of [] 0 rs) = omega (arith, h [] 0, most (caused_chase [] 0) (updates_of [] 0 rs)) in
    omega (arith, low, same_length (Rattle.core_queue.specs.Queues.update_of [] 0) rs, few)

-- the repository that an update after the committed ones sees
left_at : (ts : Listed Tuple) (rs : List QueuedUpdate) (v : Kept) (c : ℕ) → HasCommitted rs c → AreAnswered (seen (c + 1) v) ts
    → (ms : List Rule) (B : ℕ) (D : List Fact) → AreVersionsOf ms B D rs v → AreLeft ms B D rs ts
left_at ts rs v c count told ms B D versions =
    let us : List (Update (caused_chase ms B)) = updates_of ms B rs in
    let left : seen (c + 1) v ≡ below (caused_chase ms B) D us (committed (caused_chase ms B) us) =
    ap (λ (k : ℕ). seen k v) (add-one c) ∙ below_is_seen caused ms B v D us versions.sorted versions.stand c
    ∙ ap (below (caused_chase ms B) D us) (count ms B) in
    told ∙ ap (λ (E : List Fact). map outer (answered E)) left

pub left_is : {E : Type 0} (res : Result (Listed Tuple) E) (rs : List QueuedUpdate) (v : Kept) (c : ℕ) → HasCommitted rs c → IfOk res (AreAnswered (seen (c + 1) v))
    → IfOk res (λ ts. (ms : List Rule) (B : ℕ) (D : List Fact) → AreVersionsOf ms B D rs v → AreLeft ms B D rs ts)
left_is (Ok ts) rs v c count told = left_at ts rs v c count told
left_is (Err e) rs v c count told = tt

pub told_is : (rs : List QueuedUpdate) (v : Kept) (r : SessionResult) → AreFinishes rs r.finishes → IsStop rs r.stop → ((ms : List Rule) (B : ℕ) (D : List Fact) → AreVersionsOf ms B D rs v → AreLeft ms B D rs r.repository)
    → (ms : List Rule) (B : ℕ) (D : List Fact) → AreVersionsOf ms B D rs v → Tells ms B D rs r
told_is rs v r finishes stop left ms B D versions S base =
    let us : List (Update (caused_chase ms B)) = updates_of ms B rs in
    let tuples = left ms B D versions ∙ ap (λ (E : List Fact). map outer (answered (below (caused_chase ms B) E us (committed (caused_chase ms B) us)))) (sym base) in
    λ i. record { finishes = finishes ms B i; stop = stop ms B i; repository = tuples i }
