-- Walks over a queue, update by update.
use Rattle.std.proofs.Common.{◌≡◌, ◌∙◌, ap, refl, sym, subst, ℕ, zero, suc, [], map, ◌&&◌, not, ◌≤◌, ◌<◌, ◌+◌, Bool, true, false, Option, Some, None, List, ◌∷◌, length, get_or, drop, arith}
use Rattle.std.specs.Prelude.{if◌then◌else◌}
use Rattle.std.proofs.lemmas.Bool.{both_ways, eq-eqb, ne_eqb}
use Rattle.std.proofs.lemmas.List.{drop_more, drop_all}
use Rattle.std.proofs.lemmas.Option.{same_Some}
use Rattle.def_machine.specs.Machine.{Machine}
use Rattle.def_machine.specs.Cascade.{has_number}
use Rattle.def_machine.specs.Updates.{Settings, Update, committed, is_over}
use Rattle.def_machine.specs.Standings.{is_deliverable, is_nil, is_pending, is_ready, lowest_that, standing}
use Rattle.def_machine.proofs.Standing.{not_over, pending_parts, ready_parts}
use Rattle.def_chase.specs.Mappings.{Rule}
use Rattle.def_chase.proofs.Bools.{none_some}
use Rattle.def_steps.specs.Chase.{caused_chase}
use Rattle.core_queue.specs.Queues.{update_of, updates_of, StandsAt, AreFrom}
use Rattle.core_queue.specs.Updates.{IsOver}
use Rattle.core_queue.specs.Order.{CommitsAtLeast, CommitsOn, HasCommitted, IsNextDeliverable, IsNextOf, only}
use Rattle.core_queue.specs.declared.updates.QueuedUpdate.{QueuedUpdate}

-- What is left of a queue is the queued update at the place, and what is left after it.
left_of : (rs : List QueuedUpdate) (i : ℕ) (r : QueuedUpdate) → i < length rs → r ≡ get_or rs i r → drop i rs ≡ r ∷ drop (i + 1) rs
left_of rs i r h e = drop_more rs i r h ∙ ap (λ (x : QueuedUpdate). x ∷ drop (i + 1) rs) (sym e)

-- The queued update at the place stands there.
pub stands_here : (rs : List QueuedUpdate) (i n : ℕ) (r : QueuedUpdate) → i < length rs → r ≡ get_or rs i r → AreFrom n (drop i rs) → StandsAt n r
stands_here rs i n r h e a =
    let all : AreFrom n (r ∷ drop (i + 1) rs) = subst (AreFrom n) (left_of rs i r h e) a in all.0

-- Those after it have the numbers that follow.
pub stand_after : (rs : List QueuedUpdate) (i n m : ℕ) (r : QueuedUpdate) → i < length rs → r ≡ get_or rs i r → m ≡ suc n → AreFrom n (drop i rs) → AreFrom m (drop (i + 1) rs)
stand_after rs i n m r h e q a =
    let all : AreFrom n (r ∷ drop (i + 1) rs) = subst (AreFrom n) (left_of rs i r h e) a in
    subst (λ (k : ℕ). AreFrom k (drop (i + 1) rs)) (sym q) all.1

-- ---- the first that passes a test

-- A test of updates by number, for the machine of any mappings and any budget.
abbrev pub Test : Type 0
Test = (ms : List Rule) (B : ℕ) → ℕ → Update (caused_chase ms B) → Bool

abbrev pub IsFirst : Test → ℕ → List QueuedUpdate → Option ℕ → Type 0
IsFirst p n rs o = (ms : List Rule) (B : ℕ) → o ≡ lowest_that {M = caused_chase ms B} (p ms B) n (updates_of ms B rs)

abbrev pub Tells : Test → ℕ → QueuedUpdate → Bool → Type 0
Tells p k r b = (ms : List Rule) (B : ℕ) → b ≡ p ms B k (update_of ms B r)

-- The queued update at the place passes it.
pub found : (p : Test) (rs : List QueuedUpdate) (i n k : ℕ) (r : QueuedUpdate) (b : Bool) → i < length rs → r ≡ get_or rs i r → AreFrom n (drop i rs) → k ≡ r.program.attempt.number → Tells p k r b → b ≡ true → IsFirst p n (drop i rs) (Some k)
found p rs i n k r b h e a q t f = λ ms B.
    let M = caused_chase ms B in
    let number : k ≡ n = q ∙ (stands_here rs i n r h e a).number in
    let passes : true ≡ p ms B n (update_of ms B r) = sym f ∙ (t ms B ∙ ap (λ (m : ℕ). p ms B m (update_of ms B r)) number) in
    ap Some number
    ∙ (ap (λ (x : Bool). if x then Some n else lowest_that {M = M} (p ms B) (suc n) (updates_of ms B (drop (i + 1) rs))) passes
    ∙ sym (ap (λ (xs : List QueuedUpdate). lowest_that {M = M} (p ms B) n (updates_of ms B xs)) (left_of rs i r h e)))

-- The queued update at the place does not.
pub passed : (p : Test) (rs : List QueuedUpdate) (i n m k : ℕ) (r : QueuedUpdate) (b : Bool) (o : Option ℕ) → i < length rs → r ≡ get_or rs i r → AreFrom n (drop i rs) → k ≡ r.program.attempt.number → Tells p k r b → b ≡ false → m ≡ suc n
    → IsFirst p m (drop (i + 1) rs) o → IsFirst p n (drop i rs) o
passed p rs i n m k r b o h e a q t f j first = λ ms B.
    let M = caused_chase ms B in
    let number : k ≡ n = q ∙ (stands_here rs i n r h e a).number in
    let fails : false ≡ p ms B n (update_of ms B r) = sym f ∙ (t ms B ∙ ap (λ (m : ℕ). p ms B m (update_of ms B r)) number) in
    first ms B
    ∙ (ap (λ (x : ℕ). lowest_that {M = M} (p ms B) x (updates_of ms B (drop (i + 1) rs))) j
    ∙ (ap (λ (x : Bool). if x then Some n else lowest_that {M = M} (p ms B) (suc n) (updates_of ms B (drop (i + 1) rs))) fails
    ∙ sym (ap (λ (xs : List QueuedUpdate). lowest_that {M = M} (p ms B) n (updates_of ms B xs)) (left_of rs i r h e))))

-- No queued update is left.
pub ended : (p : Test) (rs : List QueuedUpdate) (i n : ℕ) → length rs ≤ i → IsFirst p n (drop i rs) None
ended p rs i n h = λ ms B. sym (ap (λ (xs : List QueuedUpdate). lowest_that {M = caused_chase ms B} (p ms B) n (updates_of ms B xs)) (drop_all i rs h))

-- The least number that passes is not below the first.
least_number : (M : Machine) (p : ℕ → Update M → Bool) (n k : ℕ) (us : List (Update M)) → lowest_that {M = M} p n us ≡ Some k → n ≤ k
least_number M p n k [] e = absurd (none_some k e)
least_number M p n k (u ∷ us) e = by (p n u) e (least_number M p (suc n) k us)
  where
    by : (b : Bool) → (if b then Some n else lowest_that {M = M} p (suc n) us) ≡ Some k → (lowest_that {M = M} p (suc n) us ≡ Some k → suc n ≤ k) → n ≤ k
    by true f rest = let same : n ≡ k = same_Some n k f in omega (arith, same)
    by false f rest = let less = rest f in omega (arith, less)

-- Of the numbers from the first on, only the first is asked for.
pub first_only : (M : Machine) (p : ℕ → Update M → Bool) (n : ℕ) (u : Update M) (us : List (Update M)) (b : Bool) → b ≡ p n u → (if b then Some n else None) ≡ only n (lowest_that {M = M} p n (u ∷ us))
first_only M p n u us b e = by b ∙ ap (λ (x : Bool). only n (if x then Some n else lowest_that {M = M} p (suc n) us)) e
  where
    later : (o : Option ℕ) → lowest_that {M = M} p (suc n) us ≡ o → None ≡ only n o
    later None f = refl
    later (Some k) f =
        let less = least_number M p (suc n) k us f in
        ap (λ (x : Bool). if x then Some k else None) (sym (ne_eqb k n (λ q. omega (arith, q, less))))

    by : (x : Bool) → (if x then Some n else None) ≡ only n (if x then Some n else lowest_that {M = M} p (suc n) us)
    by true = ap (λ (x : Bool). if x then Some n else None) (sym (eq-eqb n n refl))
    by false = later (lowest_that {M = M} p (suc n) us) refl

-- Of those after the committed ones only the first is asked for: its number is told where it passes.
pub next_of : (p : Test) (rs : List QueuedUpdate) (c k : ℕ) (r : QueuedUpdate) (b : Bool) → 0 < length rs → r ≡ get_or rs 0 r → AreFrom (suc c) rs → k ≡ r.program.attempt.number → Tells p k r b
    → (o : Option ℕ) → o ≡ (if b then Some k else None) → (ms : List Rule) (B : ℕ) → o ≡ only (suc c) (lowest_that {M = caused_chase ms B} (p ms B) (suc c) (updates_of ms B rs))
next_of p rs c k r b h e a q t o f ms B =
    let M = caused_chase ms B in
    let number : k ≡ suc c = q ∙ (stands_here rs 0 (suc c) r h e a).number in
    let told : b ≡ p ms B (suc c) (update_of ms B r) = t ms B ∙ ap (λ (m : ℕ). p ms B m (update_of ms B r)) number in
    f ∙ ap (λ (m : ℕ). if b then Some m else None) number
    ∙ first_only M (p ms B) (suc c) (update_of ms B r) (updates_of ms B (drop 1 rs)) b told
    ∙ sym (ap (λ (xs : List QueuedUpdate). only (suc c) (lowest_that {M = M} (p ms B) (suc c) (updates_of ms B xs))) (left_of rs 0 r h e))

-- ---- how many are committed

counted : (ms : List Rule) (B : ℕ) (rs : List QueuedUpdate) (i : ℕ) (r : QueuedUpdate) (b : Bool) → i < length rs → r ≡ get_or rs i r → IsOver r b
    → committed (caused_chase ms B) (updates_of ms B (drop i rs)) ≡ (if b then suc (committed (caused_chase ms B) (updates_of ms B (drop (i + 1) rs))) else 0)
counted ms B rs i r b h e t =
    ap (λ (xs : List QueuedUpdate). committed (caused_chase ms B) (updates_of ms B xs)) (left_of rs i r h e)
    ∙ ap (λ (x : Bool). if x then suc (committed (caused_chase ms B) (updates_of ms B (drop (i + 1) rs))) else 0) (sym (t ms B))

-- The queued update at the place is over.
pub one_more : (ms : List Rule) (B : ℕ) (rs : List QueuedUpdate) (i c k all : ℕ) (r : QueuedUpdate) (b : Bool) → i < length rs → r ≡ get_or rs i r → AreFrom (suc c) (drop i rs) → k ≡ r.program.attempt.number → IsOver r b → b ≡ true
    → c + committed (caused_chase ms B) (updates_of ms B (drop i rs)) ≡ all → k + committed (caused_chase ms B) (updates_of ms B (drop (i + 1) rs)) ≡ all
one_more ms B rs i c k all r b h e a q t f g =
    let more = committed (caused_chase ms B) (updates_of ms B (drop (i + 1) rs)) in
    let number : k ≡ suc c = q ∙ (stands_here rs i (suc c) r h e a).number in
    let here : committed (caused_chase ms B) (updates_of ms B (drop i rs)) ≡ suc more = counted ms B rs i r b h e t ∙ ap (λ (x : Bool). if x then suc more else 0) f in
    omega (arith, number, here, g)

-- It is not.
pub no_more : (ms : List Rule) (B : ℕ) (rs : List QueuedUpdate) (i c all : ℕ) (r : QueuedUpdate) (b : Bool) → i < length rs → r ≡ get_or rs i r → IsOver r b → b ≡ false
    → c + committed (caused_chase ms B) (updates_of ms B (drop i rs)) ≡ all → c ≡ all
no_more ms B rs i c all r b h e t f g =
    let more = committed (caused_chase ms B) (updates_of ms B (drop (i + 1) rs)) in
    let here : committed (caused_chase ms B) (updates_of ms B (drop i rs)) ≡ 0 = counted ms B rs i r b h e t ∙ ap (λ (x : Bool). if x then suc more else 0) f in
    omega (arith, here, g)

-- None is left.
pub all_over : (ms : List Rule) (B : ℕ) (rs : List QueuedUpdate) (i c all : ℕ) → length rs ≤ i → c + committed (caused_chase ms B) (updates_of ms B (drop i rs)) ≡ all → c ≡ all
all_over ms B rs i c all h g =
    let here : committed (caused_chase ms B) (updates_of ms B (drop i rs)) ≡ 0 = ap (λ (xs : List QueuedUpdate). committed (caused_chase ms B) (updates_of ms B xs)) (drop_all i rs h) in
    omega (arith, here, g)

-- ---- after those that are committed

pub dropped : {X Y : Type 0} (f : X → Y) (xs : List X) (k : ℕ) → map f (drop k xs) ≡ drop k (map f xs)
dropped f [] zero = refl
dropped f [] (suc k) = refl
dropped f (x ∷ xs) zero = refl
dropped f (x ∷ xs) (suc k) = dropped f xs k

-- There are as many as are committed.
many : (M : Machine) (us : List (Update M)) → committed M us ≤ length us
many M [] = omega arith
many M (u ∷ us) = by (is_over M u) (many M us)
  where
    by : (b : Bool) → committed M us ≤ length us → (if b then suc (committed M us) else 0) ≤ suc (length us)
    by true h = omega (arith, h)
    by false h = omega arith

mapped : {X Y : Type 0} (f : X → Y) (xs : List X) → length (map f xs) ≡ length xs
mapped f [] = refl
mapped f (x ∷ xs) = ap suc (mapped f xs)

pub long_enough : (rs : List QueuedUpdate) (c : ℕ) → CommitsAtLeast rs c → c ≤ length rs
long_enough rs c h = let all = many (caused_chase [] 0) (updates_of [] 0 rs) in let same = mapped (update_of [] 0) rs in let least = h [] 0 in omega (arith, all, same, least)

-- Those after the first c are numbered on from there.
pub from_after : (rs : List QueuedUpdate) (n c : ℕ) → c ≤ length rs → AreFrom n rs → AreFrom (c + n) (drop c rs)
from_after rs n zero h a = let same : n ≡ 0 + n = omega arith in subst (λ (m : ℕ). AreFrom m rs) same a
from_after [] n (suc c) h a = absurd (omega (arith, h))
from_after (r ∷ rs) n (suc c) h a =
    let l : c ≤ length rs = omega (arith, h) in
    let same : c + suc n ≡ suc c + n = omega arith in subst (λ (m : ℕ). AreFrom m (drop c rs)) same (from_after rs (suc n) c l a.1)

pub rest_from : (rs rest : List QueuedUpdate) (c : ℕ) → CommitsAtLeast rs c → AreFrom 1 rs → rest ≡ drop c rs → AreFrom (suc c) rest
rest_from rs rest c h a e =
    let one : c + 1 ≡ suc c = omega arith in
    subst (λ (xs : List QueuedUpdate). AreFrom (suc c) xs) (sym e) (subst (λ (m : ℕ). AreFrom m (drop c rs)) one (from_after rs 1 c (long_enough rs c h) a))

-- What is committed are the first, and what of the others is.
split : (M : Machine) (us : List (Update M)) (c : ℕ) → c ≤ committed M us → c + committed M (drop c us) ≡ committed M us
split M us zero h = omega arith
split M [] (suc c) h = absurd (omega (arith, h))
split M (u ∷ us) (suc c) h = by (is_over M u) h (split M us c)
  where
    by : (b : Bool) → suc c ≤ (if b then suc (committed M us) else 0) → (c ≤ committed M us → c + committed M (drop c us) ≡ committed M us) → suc c + committed M (drop c us) ≡ (if b then suc (committed M us) else 0)
    by true l rest = let less : c ≤ committed M us = omega (arith, l) in let same = rest less in omega (arith, same)
    by false l rest = absurd (omega (arith, l))

pub counted_after : (rs rest : List QueuedUpdate) (c k : ℕ) → CommitsAtLeast rs c → rest ≡ drop c rs → CommitsOn c rest k → HasCommitted rs k
counted_after rs rest c k h e on ms B =
    let M = caused_chase ms B in
    on ms B ∙ ap (λ (xs : List QueuedUpdate). c + committed M (updates_of ms B xs)) e ∙ ap (λ (us : List (Update M)). c + committed M us) (dropped (update_of ms B) rs c) ∙ split M (updates_of ms B rs) c (h ms B)

pub none_committed : (rs : List QueuedUpdate) → CommitsAtLeast rs 0
none_committed rs ms B = omega arith

pub commits_so : (rs : List QueuedUpdate) (c : ℕ) → HasCommitted rs c → CommitsAtLeast rs c
commits_so rs c h ms B = let same = h ms B in omega (arith, same)

-- Where a test fails for all that are over, the first that passes it comes after those that are committed.
skipped : (M : Machine) (p : ℕ → Update M → Bool) → ((n : ℕ) (u : Update M) → is_over M u ≡ true → p n u ≡ false) → (us : List (Update M)) (n c : ℕ) → c ≤ committed M us
    → lowest_that {M = M} p n us ≡ lowest_that {M = M} p (n + c) (drop c us)
skipped M p over us n zero h = let same : n ≡ n + 0 = omega arith in ap (λ (m : ℕ). lowest_that {M = M} p m us) same
skipped M p over [] n (suc c) h = absurd (omega (arith, h))
skipped M p over (u ∷ us) n (suc c) h = by (is_over M u) refl h (skipped M p over us (suc n) c)
  where
    by : (b : Bool) → is_over M u ≡ b → suc c ≤ (if b then suc (committed M us) else 0) → (c ≤ committed M us → lowest_that {M = M} p (suc n) us ≡ lowest_that {M = M} p (suc n + c) (drop c us))
        → lowest_that {M = M} p n (u ∷ us) ≡ lowest_that {M = M} p (n + suc c) (drop c us)
    by true e l rest =
        let less : c ≤ committed M us = omega (arith, l) in
        let same : suc n + c ≡ n + suc c = omega arith in
        ap (λ (b : Bool). if b then Some n else lowest_that {M = M} p (suc n) us) (over n u e) ∙ rest less ∙ ap (λ (m : ℕ). lowest_that {M = M} p m (drop c us)) same
    by false e l rest = absurd (omega (arith, l))

-- The test fails for all that are over.
abbrev pub FailsOver : Test → Type 0
FailsOver p = (ms : List Rule) (B n : ℕ) (u : Update (caused_chase ms B)) → is_over (caused_chase ms B) u ≡ true → p ms B n u ≡ false

-- The first that passes it is the same over all, and over those after the committed ones.
pub same_after : (p : Test) → FailsOver p → (rs rest : List QueuedUpdate) (c : ℕ) → CommitsAtLeast rs c → rest ≡ drop c rs → (ms : List Rule) (B : ℕ)
    → lowest_that {M = caused_chase ms B} (p ms B) (suc c) (updates_of ms B rest) ≡ lowest_that {M = caused_chase ms B} (p ms B) 1 (updates_of ms B rs)
same_after p over rs rest c h e ms B =
    let M = caused_chase ms B in
    let one : suc c ≡ 1 + c = omega arith in
    ap (λ (xs : List QueuedUpdate). lowest_that {M = M} (p ms B) (suc c) (updates_of ms B xs)) e
    ∙ ap (λ (us : List (Update M)). lowest_that {M = M} (p ms B) (suc c) us) (dropped (update_of ms B) rs c)
    ∙ ap (λ (m : ℕ). lowest_that {M = M} (p ms B) m (drop c (updates_of ms B rs))) one
    ∙ sym (skipped M (p ms B) (over ms B) (updates_of ms B rs) 1 c (h ms B))

pub first_after : (p : Test) → FailsOver p → (rs rest : List QueuedUpdate) (c : ℕ) (o : Option ℕ) → CommitsAtLeast rs c → rest ≡ drop c rs → IsFirst p (suc c) rest o → IsFirst p 1 rs o
first_after p over rs rest c o h e first ms B = first ms B ∙ same_after p over rs rest c h e ms B

-- What is over is neither ready nor deliverable.
pub ready_fails : (M : Machine) (s : Settings) (c n : ℕ) (u : Update M) → is_over M u ≡ true → is_ready (standing M s c n u) ≡ false
ready_fails M s c n u e = by (is_ready (standing M s c n u)) refl
  where
    by : (b : Bool) → is_ready (standing M s c n u) ≡ b → b ≡ false
    by true f = absurd (both_ways _ (not_over M s c n u (ready_parts M s c n u f).0) e)
    by false f = refl

pub deliverable_fails : (M : Machine) (s : Settings) (c n : ℕ) (u : Update M) → is_over M u ≡ true → is_deliverable M s c n u ≡ false
deliverable_fails M s c n u e = by (is_pending (standing M s c n u)) refl
  where
    by : (b : Bool) → is_pending (standing M s c n u) ≡ b → (b && not (is_nil u.inbox)) ≡ false
    by true f = absurd (both_ways _ (not_over M s c n u (pending_parts M s c n u f).0) e)
    by false f = refl

abbrev pub ready_test : Settings → ℕ → Test
ready_test s c ms B i u = is_ready (standing (caused_chase ms B) s c i u)

abbrev pub deliverable_test : Settings → ℕ → Test
deliverable_test s c ms B i u = is_deliverable (caused_chase ms B) s c i u

abbrev pub besides_test : List ℕ → Settings → ℕ → Test
besides_test ns s c ms B i u = is_ready (standing (caused_chase ms B) s c i u) && not (has_number ns i)

pub ready_after : (s : Settings) (rs rest : List QueuedUpdate) (c : ℕ) (o : Option ℕ) → HasCommitted rs c → rest ≡ drop c rs → IsFirst (ready_test s c) (suc c) rest o → IsFirst (ready_test s c) 1 rs o
ready_after s rs rest c o h e first = first_after (ready_test s c) (λ ms B n u. ready_fails (caused_chase ms B) s c n u) rs rest c o (commits_so rs c h) e first

pub deliverable_after : (s : Settings) (rs rest : List QueuedUpdate) (c : ℕ) (o : Option ℕ) → HasCommitted rs c → rest ≡ drop c rs → IsFirst (deliverable_test s c) (suc c) rest o → IsFirst (deliverable_test s c) 1 rs o
deliverable_after s rs rest c o h e first = first_after (deliverable_test s c) (λ ms B n u. deliverable_fails (caused_chase ms B) s c n u) rs rest c o (commits_so rs c h) e first

-- The first after those that are committed is told, where it is deliverable.
pub next_after : (s : Settings) (rs rest : List QueuedUpdate) (c : ℕ) (o : Option ℕ) → HasCommitted rs c → rest ≡ drop c rs → IsNextOf s c rest o → IsNextDeliverable s rs o
next_after s rs rest c o h e next ms B =
    let M = caused_chase ms B in
    next ms B
    ∙ ap (only (suc c)) (same_after (deliverable_test s c) (λ ms B n u. deliverable_fails (caused_chase ms B) s c n u) rs rest c (commits_so rs c h) e ms B)
    ∙ ap (λ (k : ℕ). only (suc k) (lowest_that {M = M} (λ i u. is_deliverable M s k i u) 1 (updates_of ms B rs))) (h ms B)

-- The next place and the next number.
pub next_number : (i c : ℕ) → i + 1 + suc c ≡ suc (i + suc c)
next_number i c = omega arith

pub first_number : (c : ℕ) → suc c ≡ 0 + suc c
first_number c = omega arith
