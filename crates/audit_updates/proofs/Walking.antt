-- Walks over audited updates, one after the other.
use Rattle.std.proofs.Common.{◌≡◌, ◌∙◌, ap, sym, subst, ℕ, suc, ◌≤◌, ◌<◌, ◌+◌, Bool, true, false, Option, Some, None, List, ◌∷◌, length, get_or, drop, arith}
use Rattle.std.specs.Prelude.{if◌then◌else◌}
use Rattle.std.proofs.lemmas.List.{drop_more, drop_all}
use Rattle.def_machine.specs.Updates.{Update, committed}
use Rattle.def_machine.specs.Standings.{lowest_that}
use Rattle.def_chase.specs.Mappings.{Rule}
use Rattle.def_steps.specs.Chase.{caused_chase}
use Rattle.audit_updates.specs.Updates.{update_of, updates_of, StandsAt, AreFrom}
use Rattle.audit_updates.specs.Standings.{IsOver}
use Rattle.audit_updates.specs.declared.updates.AuditedUpdate.{AuditedUpdate}

-- What is left of audited updates is the audited update at the place, and what is left after it.
left_of : (rs : List AuditedUpdate) (i : ℕ) (r : AuditedUpdate) → i < length rs → r ≡ get_or rs i r → drop i rs ≡ r ∷ drop (i + 1) rs
left_of rs i r h e = drop_more rs i r h ∙ ap (λ (x : AuditedUpdate). x ∷ drop (i + 1) rs) (sym e)

-- The audited update at the place stands there.
pub stands_here : (rs : List AuditedUpdate) (i n : ℕ) (r : AuditedUpdate) → i < length rs → r ≡ get_or rs i r → AreFrom n (drop i rs) → StandsAt n r
stands_here rs i n r h e a =
    let all : AreFrom n (r ∷ drop (i + 1) rs) = subst (AreFrom n) (left_of rs i r h e) a in all.0

-- Those after it have the numbers that follow.
pub stand_after : (rs : List AuditedUpdate) (i n m : ℕ) (r : AuditedUpdate) → i < length rs → r ≡ get_or rs i r → m ≡ suc n → AreFrom n (drop i rs) → AreFrom m (drop (i + 1) rs)
stand_after rs i n m r h e q a =
    let all : AreFrom n (r ∷ drop (i + 1) rs) = subst (AreFrom n) (left_of rs i r h e) a in
    subst (λ (k : ℕ). AreFrom k (drop (i + 1) rs)) (sym q) all.1

-- ---- the first that passes a test

-- A test of updates by number, for the machine of any mappings and any budget.
abbrev pub Test : Type 0
Test = (ms : List Rule) (B : ℕ) → ℕ → Update (caused_chase ms B) → Bool

abbrev pub IsFirst : Test → ℕ → List AuditedUpdate → Option ℕ → Type 0
IsFirst p n rs o = (ms : List Rule) (B : ℕ) → o ≡ lowest_that {M = caused_chase ms B} (p ms B) n (updates_of ms B rs)

abbrev pub Tells : Test → ℕ → AuditedUpdate → Bool → Type 0
Tells p k r b = (ms : List Rule) (B : ℕ) → b ≡ p ms B k (update_of ms B r)

-- The audited update at the place passes it.
pub found : (p : Test) (rs : List AuditedUpdate) (i n k : ℕ) (r : AuditedUpdate) (b : Bool) → i < length rs → r ≡ get_or rs i r → AreFrom n (drop i rs) → k ≡ r.program.attempt.number → Tells p k r b → b ≡ true → IsFirst p n (drop i rs) (Some k)
found p rs i n k r b h e a q t f = λ ms B.
    let M = caused_chase ms B in
    let number : k ≡ n = q ∙ (stands_here rs i n r h e a).number in
    let passes : true ≡ p ms B n (update_of ms B r) = sym f ∙ (t ms B ∙ ap (λ (m : ℕ). p ms B m (update_of ms B r)) number) in
    ap Some number
    ∙ (ap (λ (x : Bool). if x then Some n else lowest_that {M = M} (p ms B) (suc n) (updates_of ms B (drop (i + 1) rs))) passes
    ∙ sym (ap (λ (xs : List AuditedUpdate). lowest_that {M = M} (p ms B) n (updates_of ms B xs)) (left_of rs i r h e)))

-- The audited update at the place does not.
pub passed : (p : Test) (rs : List AuditedUpdate) (i n m k : ℕ) (r : AuditedUpdate) (b : Bool) (o : Option ℕ) → i < length rs → r ≡ get_or rs i r → AreFrom n (drop i rs) → k ≡ r.program.attempt.number → Tells p k r b → b ≡ false → m ≡ suc n
    → IsFirst p m (drop (i + 1) rs) o → IsFirst p n (drop i rs) o
passed p rs i n m k r b o h e a q t f j first = λ ms B.
    let M = caused_chase ms B in
    let number : k ≡ n = q ∙ (stands_here rs i n r h e a).number in
    let fails : false ≡ p ms B n (update_of ms B r) = sym f ∙ (t ms B ∙ ap (λ (m : ℕ). p ms B m (update_of ms B r)) number) in
    first ms B
    ∙ (ap (λ (x : ℕ). lowest_that {M = M} (p ms B) x (updates_of ms B (drop (i + 1) rs))) j
    ∙ (ap (λ (x : Bool). if x then Some n else lowest_that {M = M} (p ms B) (suc n) (updates_of ms B (drop (i + 1) rs))) fails
    ∙ sym (ap (λ (xs : List AuditedUpdate). lowest_that {M = M} (p ms B) n (updates_of ms B xs)) (left_of rs i r h e))))

-- No audited update is left.
pub ended : (p : Test) (rs : List AuditedUpdate) (i n : ℕ) → length rs ≤ i → IsFirst p n (drop i rs) None
ended p rs i n h = λ ms B. sym (ap (λ (xs : List AuditedUpdate). lowest_that {M = caused_chase ms B} (p ms B) n (updates_of ms B xs)) (drop_all i rs h))

-- ---- how many are committed

counted : (ms : List Rule) (B : ℕ) (rs : List AuditedUpdate) (i : ℕ) (r : AuditedUpdate) (b : Bool) → i < length rs → r ≡ get_or rs i r → IsOver r b
    → committed (caused_chase ms B) (updates_of ms B (drop i rs)) ≡ (if b then suc (committed (caused_chase ms B) (updates_of ms B (drop (i + 1) rs))) else 0)
counted ms B rs i r b h e t =
    ap (λ (xs : List AuditedUpdate). committed (caused_chase ms B) (updates_of ms B xs)) (left_of rs i r h e)
    ∙ ap (λ (x : Bool). if x then suc (committed (caused_chase ms B) (updates_of ms B (drop (i + 1) rs))) else 0) (sym (t ms B))

-- The audited update at the place is over.
pub one_more : (ms : List Rule) (B : ℕ) (rs : List AuditedUpdate) (i c k all : ℕ) (r : AuditedUpdate) (b : Bool) → i < length rs → r ≡ get_or rs i r → AreFrom (suc c) (drop i rs) → k ≡ r.program.attempt.number → IsOver r b → b ≡ true
    → c + committed (caused_chase ms B) (updates_of ms B (drop i rs)) ≡ all → k + committed (caused_chase ms B) (updates_of ms B (drop (i + 1) rs)) ≡ all
one_more ms B rs i c k all r b h e a q t f g =
    let more = committed (caused_chase ms B) (updates_of ms B (drop (i + 1) rs)) in
    let number : k ≡ suc c = q ∙ (stands_here rs i (suc c) r h e a).number in
    let here : committed (caused_chase ms B) (updates_of ms B (drop i rs)) ≡ suc more = counted ms B rs i r b h e t ∙ ap (λ (x : Bool). if x then suc more else 0) f in
    omega (arith, number, here, g)

-- It is not.
pub no_more : (ms : List Rule) (B : ℕ) (rs : List AuditedUpdate) (i c all : ℕ) (r : AuditedUpdate) (b : Bool) → i < length rs → r ≡ get_or rs i r → IsOver r b → b ≡ false
    → c + committed (caused_chase ms B) (updates_of ms B (drop i rs)) ≡ all → c ≡ all
no_more ms B rs i c all r b h e t f g =
    let more = committed (caused_chase ms B) (updates_of ms B (drop (i + 1) rs)) in
    let here : committed (caused_chase ms B) (updates_of ms B (drop i rs)) ≡ 0 = counted ms B rs i r b h e t ∙ ap (λ (x : Bool). if x then suc more else 0) f in
    omega (arith, here, g)

-- None is left.
pub all_over : (ms : List Rule) (B : ℕ) (rs : List AuditedUpdate) (i c all : ℕ) → length rs ≤ i → c + committed (caused_chase ms B) (updates_of ms B (drop i rs)) ≡ all → c ≡ all
all_over ms B rs i c all h g =
    let here : committed (caused_chase ms B) (updates_of ms B (drop i rs)) ≡ 0 = ap (λ (xs : List AuditedUpdate). committed (caused_chase ms B) (updates_of ms B xs)) (drop_all i rs h) in
    omega (arith, here, g)
