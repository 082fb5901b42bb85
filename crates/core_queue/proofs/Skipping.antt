-- How far up the updates are unready.
use Rattle.std.proofs.Common.{◌≡◌, ◌∙◌, ap, refl, sym, subst, ℕ, zero, suc, ◌<◌, ◌≤◌, ◌+◌, Bool, true, false, not, ◌&&◌, Option, Some, None, List, [], ◌∷◌, length, get_or, drop, arith}
use Rattle.std.specs.Prelude.{if◌then◌else◌, is_some}
use Rattle.std.proofs.lemmas.Bool.{both_ways}
use Rattle.std.proofs.lemmas.List.{get_or-map, length-map}
use Rattle.std.proofs.lemmas.Option.{none-some}
use Rattle.std.specs.Option.{option_map}
use Rattle.def_machine.proofs.Standing.{ready_parts}
use Rattle.def_machine.specs.Cascade.{has_number}
use Rattle.def_machine.specs.Machine.{Machine}
use Rattle.def_machine.specs.Standings.{Lack, is_ready, lack, lowest_that, standing}
use Rattle.def_machine.specs.Updates.{Settings, Update}
use Rattle.chase_update.specs.Results.{lack_of}
use Rattle.chase_update.specs.declared.results.Lack.{Lack as LackOfProgram}
use Rattle.def_steps.specs.Chase.{caused_chase}
use Rattle.core_queue.specs.Queues.{AreFrom, update_of, updates_of}
use Rattle.core_queue.specs.Programs.{IsBetween}
use Rattle.core_queue.specs.Updates.{CannotStep, IsOver, IsUnready}
use Rattle.core_queue.specs.Order.{AreUnready, UnreadyUpTo}
use Rattle.core_queue.specs.Wants.{HasLack}
use Rattle.core_queue.specs.declared.updates.QueuedUpdate.{QueuedUpdate}
use Rattle.core_queue.proofs.Walking.{IsFirst, besides_test, dropped, from_after, ready_fails, stands_here}

-- What is over is unready.
pub over_unready : (r : QueuedUpdate) (b : Bool) → IsOver r b → b ≡ true → IsUnready r
over_unready r b t e ms B s c n = ready_fails (caused_chase ms B) s c n (update_of ms B r) (sym (t ms B) ∙ e)

lack_fails : (M : Machine) (s : Settings) (c n : ℕ) (u : Update M) (x : Lack) → lack M u.answers u.state ≡ Some x → is_ready (standing M s c n u) ≡ false
lack_fails M s c n u x e = by (is_ready (standing M s c n u)) refl
  where
    by : (b : Bool) → is_ready (standing M s c n u) ≡ b → b ≡ false
    by true f = absurd (none-some _ (sym (ready_parts M s c n u f).1 ∙ e))
    by false f = refl

-- So is what lacks something at its question.
pub lacking_unready : (r : QueuedUpdate) (l : Option LackOfProgram) → HasLack r (option_map lack_of l) → is_some l ≡ true → IsUnready r
lacking_unready r None t e = absurd (both_ways _ refl e)
lacking_unready r (Some x) t e = λ ms B s c n. lack_fails (caused_chase ms B) s c n (update_of ms B r) (lack_of x) (sym (t ms B))

longer : (M : Machine) (n : ℕ) (us : List (Update M)) (u : Update M) → n < length us → get_or us n u ≡ u → CannotStep M u → AreUnready M n us → AreUnready M (suc n) us
longer M n [] u l at fails h = absurd (omega (arith, l))
longer M zero (v ∷ us) u l at fails h = (subst (λ (w : Update M). CannotStep M w) (sym at) fails, tt)
longer M (suc n) (v ∷ us) u l at fails h = (h.0, longer M n us u (omega (arith, l)) at fails h.1)

-- The next is unready too, so one more is.
pub one_more_unready : (rs : List QueuedUpdate) (n k : ℕ) (r : QueuedUpdate) → k ≡ suc n → n < length rs → get_or rs n r ≡ r → IsUnready r → UnreadyUpTo rs n → UnreadyUpTo rs k
one_more_unready rs n k r e l at fails h ms B =
    let M = caused_chase ms B in
    let m : n < length (updates_of ms B rs) = simp length-map l in
    let here : get_or (updates_of ms B rs) n (update_of ms B r) ≡ update_of ms B r = get_or-map (update_of ms B) rs n r (update_of ms B r) l ∙ ap (update_of ms B) at in
    subst (λ (i : ℕ). AreUnready M i (updates_of ms B rs)) (sym e) (longer M n (updates_of ms B rs) (update_of ms B r) m here (fails ms B) (h ms B))

-- The queued update at the place stands between two steps.
pub between_here : (rs : List QueuedUpdate) (i : ℕ) (r : QueuedUpdate) → i < length rs → r ≡ get_or rs i r → AreFrom 1 rs → IsBetween r.program
between_here rs i r l is from = let m : i ≤ length rs = omega (arith, l) in (stands_here rs i (i + 1) r l is (from_after rs 1 i m from)).between

-- Those after the first are those from the next number on.
pub past_from : (rs rest : List QueuedUpdate) (k : ℕ) → k ≤ length rs → rest ≡ drop k rs → AreFrom 1 rs → AreFrom (suc k) rest
past_from rs rest k l e from =
    let one : k + 1 ≡ suc k = omega arith in
    subst (λ (xs : List QueuedUpdate). AreFrom (suc k) xs) (sym e) (subst (λ (m : ℕ). AreFrom m (drop k rs)) one (from_after rs 1 k l from))

there : (M : Machine) (n : ℕ) (us : List (Update M)) → AreUnready M n us → n ≤ length us
there M zero us h = omega arith
there M (suc n) [] h = absurd h
there M (suc n) (u ∷ us) h = let l = there M n us h.1 in omega (arith, l)

pub unready_there : (rs : List QueuedUpdate) (n : ℕ) → UnreadyUpTo rs n → n ≤ length rs
unready_there rs n h = let l = there (caused_chase [] 0) n (updates_of [] 0 rs) (h [] 0) in let same = length-map rs (update_of [] 0) in omega (arith, l, same)

pub none_unready : (rs : List QueuedUpdate) → UnreadyUpTo rs 0
none_unready rs ms B = tt

-- The first that passes a test which fails for what cannot step comes after those that are unready.
skipped : (M : Machine) (p : ℕ → Update M → Bool) → ((n : ℕ) (u : Update M) → CannotStep M u → p n u ≡ false) → (us : List (Update M)) (n c : ℕ) → AreUnready M c us
    → lowest_that {M = M} p n us ≡ lowest_that {M = M} p (n + c) (drop c us)
skipped M p fails us n zero h = let same : n ≡ n + 0 = omega arith in ap (λ (m : ℕ). lowest_that {M = M} p m us) same
skipped M p fails [] n (suc c) h = absurd h
skipped M p fails (u ∷ us) n (suc c) h =
    let same : suc n + c ≡ n + suc c = omega arith in
    ap (λ (b : Bool). if b then Some n else lowest_that {M = M} p (suc n) us) (fails n u h.0) ∙ skipped M p fails us (suc n) c h.1 ∙ ap (λ (m : ℕ). lowest_that {M = M} p m (drop c us)) same

pub besides_past : (ns : List ℕ) (s : Settings) (c : ℕ) (rs : List QueuedUpdate) (k : ℕ) (o : Option ℕ) → UnreadyUpTo rs k → IsFirst (besides_test ns s c) (suc k) (drop k rs) o → IsFirst (besides_test ns s c) 1 rs o
besides_past ns s c rs k o h first ms B =
    let M = caused_chase ms B in
    let p : ℕ → Update M → Bool = besides_test ns s c ms B in
    let one : suc k ≡ 1 + k = omega arith in
    first ms B
    ∙ ap (λ (us : List (Update M)). lowest_that {M = M} p (suc k) us) (dropped (update_of ms B) rs k)
    ∙ ap (λ (m : ℕ). lowest_that {M = M} p m (drop k (updates_of ms B rs))) one
    ∙ sym (skipped M p (λ n u fails. ap (λ (b : Bool). b && not (has_number ns n)) (fails s c n)) (updates_of ms B rs) 1 k (h ms B))
