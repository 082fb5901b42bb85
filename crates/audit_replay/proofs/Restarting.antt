-- Restarts one after the other, update by update, and what stands at a place.
use Rattle.std.proofs.Common.{◌≡◌, ◌∙◌, ap, sym, refl, subst, ℕ, suc, zero, ◌<◌, ◌≤◌, ◌+◌, Bool, true, List, [], ◌∷◌, ◌++◌, length, get_or, take, drop, arith}
use Rattle.std.specs.Prelude.{if◌then◌else◌, Some, slice_get, option_map}
use Rattle.std.proofs.Math.ListN.{set}
use Rattle.std.proofs.lemmas.List.{map-set, get_or-map, length-map}
use Rattle.std.proofs.lemmas.Option.{same_Some, none-some, slice_get-map}
use Rattle.core_entries.specs.declared.causes.Cause.{Cause as CauseOfProgram}
use Rattle.def_machine.specs.Machine.{Machine}
use Rattle.def_machine.specs.Updates.{Update}
use Rattle.def_machine.specs.Cascade.{begun_again, has_number, restarted}
use Rattle.def_chase.specs.Mappings.{Rule}
use Rattle.def_steps.specs.Chase.{caused_chase}
use Rattle.audit_updates.specs.Updates.{update_of, updates_of, StandsAt, AreFrom}
use Rattle.chase_update.specs.Courses.{State}
use Rattle.audit_updates.specs.Events.{IsSame, KeepsPlace}
use Rattle.audit_updates.specs.Renewals.{HasOneMore, HasRestarted}
use Rattle.audit_updates.specs.declared.updates.AuditedUpdate.{AuditedUpdate}
use Rattle.audit_replay.specs.Causes.{readers_in}
use Rattle.audit_replay.specs.Places.{AreBetween}
use Rattle.audit_replay.specs.Restarts.{AllHaveOneMore, HasRestartedIf, HaveRestarted}
use Rattle.audit_replay.proofs.Leftover.{next_left}

-- ---- places

-- What stands at a place.
pub there_is : {A : Type 0} (xs : List A) (k : ℕ) (x : A) → k < length xs → x ≡ get_or xs k x → slice_get xs k ≡ Some x
there_is [] k x l e = absurd (omega (arith, l))
there_is (y ∷ xs) zero x l e = ap (λ z. Some z) (sym e)
there_is (y ∷ xs) (suc k) x l e = there_is xs k x (omega (arith, l)) e

pub within : {A : Type 0} (xs : List A) (k : ℕ) (x : A) → slice_get xs k ≡ Some x → k < length xs
within [] k x e = absurd (none-some x e)
within (y ∷ xs) zero x e = omega arith
within (y ∷ xs) (suc k) x e = omega (arith, within xs k x e)

pub stands_at : (rs : List AuditedUpdate) (n k : ℕ) (r : AuditedUpdate) → AreFrom n rs → slice_get rs k ≡ Some r → StandsAt (n + k) r
stands_at [] n k r a e = absurd (none-some r e)
stands_at (x ∷ rs) n zero r a e = let same : n ≡ n + 0 = omega arith in subst (λ (m : ℕ). StandsAt m r) same (subst (λ (y : AuditedUpdate). StandsAt n y) (same_Some x r e) a.0)
stands_at (x ∷ rs) n (suc k) r a e = let same : suc n + k ≡ n + suc k = omega arith in subst (λ (m : ℕ). StandsAt m r) same (stands_at rs (suc n) k r a.1 e)

-- The audited update at a place of all of them stands there.
pub stands_placed : (rs : List AuditedUpdate) (k : ℕ) (r : AuditedUpdate) → AreFrom 1 rs → k < length rs → r ≡ get_or rs k r → StandsAt (suc k) r
stands_placed rs k r a l e = let one : 1 + k ≡ suc k = omega arith in subst (λ (n : ℕ). StandsAt n r) one (stands_at rs 1 k r a (there_is rs k r l e))

pub from_on : (rs : List AuditedUpdate) (n k m : ℕ) → m ≡ n + k → AreFrom n rs → AreFrom m (drop k rs)
from_on rs n zero m e a = let same : n ≡ m = omega (arith, e) in subst (λ (i : ℕ). AreFrom i rs) same a
from_on [] n (suc k) m e a = tt
from_on (r ∷ rs) n (suc k) m e a = from_on rs (suc n) k m (omega (arith, e)) a.1

pub all_between : (n : ℕ) (rs : List AuditedUpdate) → AreFrom n rs → AreBetween rs
all_between n [] a = tt
all_between n (r ∷ rs) a = (a.0.between, all_between (suc n) rs a.1)

put_there : (rs : List AuditedUpdate) (n k : ℕ) (r v : AuditedUpdate) → AreFrom n rs → k < length rs → r ≡ get_or rs k r → KeepsPlace r v → AreFrom n (set rs k v)
put_there [] n k r v a h e f = absurd (omega (arith, h))
put_there (x ∷ rs) n zero r v a h e f = (f n (subst (λ (y : AuditedUpdate). StandsAt n y) (sym e) a.0), a.1)
put_there (x ∷ rs) n (suc k) r v a h e f = let l : k < length rs = omega (arith, h) in (a.0, put_there rs (suc n) k r v a.1 l e f)

-- An audited update that keeps its place can be put there.
pub put_with : (rs : List AuditedUpdate) (k : ℕ) (r v : AuditedUpdate) → AreFrom 1 rs → k < length rs → r ≡ get_or rs k r → KeepsPlace (get_or rs k r) v → AreFrom 1 (set rs k v)
put_with rs k r v a l e f = put_there rs 1 k r v a l e (subst (λ (q : AuditedUpdate). KeepsPlace q v) (sym e) f)

-- An audited update that stands for the same update, at the same moment, keeps its place.
pub same_place : (r v : AuditedUpdate) → IsSame r v → KeepsPlace r v
same_place r v same n at = record { number = ap (λ (s : State). s.attempt.number) same.0 ∙ at.number; between = ap (λ (s : State). s.reading) same.0 ∙ at.between }

past_set : {A : Type 0} (xs : List A) (k : ℕ) (y : A) → drop (suc k) (set xs k y) ≡ drop (suc k) xs
past_set [] k y = refl
past_set (x ∷ xs) zero y = refl
past_set (x ∷ xs) (suc k) y = past_set xs k y

pub dropped_set : {A : Type 0} (xs : List A) (k : ℕ) (y : A) → drop (k + 1) (set xs k y) ≡ drop (suc k) xs
dropped_set xs k y = let one : k + 1 ≡ suc k = omega arith in ap (λ n. drop n (set xs k y)) one ∙ past_set xs k y

taken_set : {A : Type 0} (xs : List A) (k : ℕ) (y : A) → k < length xs → take (suc k) (set xs k y) ≡ take k xs ++ y ∷ []
taken_set [] k y l = absurd (omega (arith, l))
taken_set (x ∷ xs) zero y l = refl
taken_set (x ∷ xs) (suc k) y l = ap (λ zs. x ∷ zs) (taken_set xs k y (omega (arith, l)))

regroup : {A : Type 0} (xs : List A) (x : A) (ys : List A) → (xs ++ x ∷ []) ++ ys ≡ xs ++ x ∷ ys
regroup [] x ys = refl
regroup (z ∷ xs) x ys = ap (λ zs. z ∷ zs) (regroup xs x ys)

pub set_long : {A : Type 0} (xs : List A) (k : ℕ) (y : A) → length (set xs k y) ≡ length xs
set_long [] k y = refl
set_long (x ∷ xs) zero y = refl
set_long (x ∷ xs) (suc k) y = ap suc (set_long xs k y)

-- What was put at a place stands there.
pub set_there : {A : Type 0} (xs : List A) (k : ℕ) (y : A) → k < length xs → slice_get (set xs k y) k ≡ Some y
set_there [] k y l = absurd (omega (arith, l))
set_there (x ∷ xs) zero y l = refl
set_there (x ∷ xs) (suc k) y l = set_there xs k y (omega (arith, l))

pub set_is : {A : Type 0} (xs : List A) (k : ℕ) (y : A) → k < length xs → set xs k y ≡ take k xs ++ y ∷ drop (suc k) xs
set_is [] k y l = absurd (omega (arith, l))
set_is (x ∷ xs) zero y l = refl
set_is (x ∷ xs) (suc k) y l = ap (λ zs. x ∷ zs) (set_is xs k y (omega (arith, l)))

-- ---- further attempts

pub more_above : (rs : List AuditedUpdate) (k : ℕ) → AllHaveOneMore rs → AllHaveOneMore (drop k rs)
more_above rs zero a = a
more_above [] (suc k) a = tt
more_above (r ∷ rs) (suc k) a = more_above rs k a.1

-- Of the audited update at the place.
pub more_there : (rs : List AuditedUpdate) (k : ℕ) (r : AuditedUpdate) → k < length rs → r ≡ get_or rs k r → AllHaveOneMore (drop k rs) → HasOneMore (get_or rs k r)
more_there rs k r l e a = subst HasOneMore e (subst AllHaveOneMore (next_left rs k r l e) a).0

-- And of those after it, whatever was put there.
pub more_after : (rs : List AuditedUpdate) (k : ℕ) (r v : AuditedUpdate) → k < length rs → r ≡ get_or rs k r → AllHaveOneMore (drop k rs) → AllHaveOneMore (drop (k + 1) (set rs k v))
more_after rs k r v l e a =
    let one : k + 1 ≡ suc k = omega arith in
    subst AllHaveOneMore (ap (λ n. drop n rs) one ∙ sym (dropped_set rs k v)) (subst AllHaveOneMore (next_left rs k r l e) a).1

-- ---- one turn

turn : (M : Machine) (us : List (Update M)) (k n : ℕ) (v : Update M) (ns : List ℕ) (u : Update M) → k < length us → get_or us k u ≡ u → v ≡ (if has_number ns n then begun_again M n u else u)
    → take (suc k) (set us k v) ++ restarted M ns (suc n) (drop (suc k) (set us k v)) ≡ take k us ++ restarted M ns n (drop k us)
turn M [] k n v ns u h e r = absurd (omega (arith, h))
turn M (x ∷ us) zero n v ns u h e r = λ j. (r ∙ (λ i. if has_number ns n then begun_again M n (sym e i) else sym e i)) j ∷ restarted M ns (suc n) us
turn M (x ∷ us) (suc k) n v ns u h e r = let l : k < length us = omega (arith, h) in λ j. x ∷ turn M us k n v ns u l e r j

-- What is restarted from the place on, once the audited update there has its say.
pub turned : (ms : List Rule) (B : ℕ) (rs : List AuditedUpdate) (k : ℕ) (r v : AuditedUpdate) (causes : List CauseOfProgram) → AreFrom 1 rs → k < length rs → r ≡ get_or rs k r → HasRestartedIf causes (get_or rs k r) v
    → take (k + 1) (updates_of ms B (set rs k v)) ++ restarted (caused_chase ms B) (readers_in causes) (suc (k + 1)) (drop (k + 1) (updates_of ms B (set rs k v)))
    ≡ take k (updates_of ms B rs) ++ restarted (caused_chase ms B) (readers_in causes) (suc k) (drop k (updates_of ms B rs))
turned ms B rs k r v causes a h e g =
    let M = caused_chase ms B in
    let u = update_of ms B r in
    let ns = readers_in causes in
    let l : k < length (updates_of ms B rs) = simp length-map h in
    let q : k + 1 ≡ suc k = omega arith in
    let number : r.program.attempt.number ≡ suc k = (stands_placed rs k r a h e).number in
    let made : update_of ms B v ≡ (if has_number ns (suc k) then begun_again M (suc k) u else u) = subst (λ (y : AuditedUpdate). HasRestartedIf causes y v) (sym e) g ms B ∙ ap (λ (n : ℕ). if has_number ns n then begun_again M n u else u) number in
    (λ i. take (q i) (map-set (update_of ms B) rs k v i) ++ restarted M ns (suc (q i)) (drop (q i) (map-set (update_of ms B) rs k v i)))
    ∙ turn M (updates_of ms B rs) k (suc k) (update_of ms B v) ns u l (get_or-map (update_of ms B) rs k r u h ∙ ap (update_of ms B) (sym e)) made

-- None is left.
pub all_turned : (ms : List Rule) (B : ℕ) (rs : List AuditedUpdate) (k : ℕ) (ns : List ℕ) (all : List (Update (caused_chase ms B))) → length rs ≤ k
    → take k (updates_of ms B rs) ++ restarted (caused_chase ms B) ns (suc k) (drop k (updates_of ms B rs)) ≡ all → updates_of ms B rs ≡ all
all_turned ms B rs k ns all l e = sym (past (updates_of ms B rs) k (simp length-map l)) ∙ e
  where
    past : (us : List (Update (caused_chase ms B))) (n : ℕ) → length us ≤ n → take n us ++ restarted (caused_chase ms B) ns (suc k) (drop n us) ≡ us
    past [] zero h = refl
    past [] (suc n) h = refl
    past (u ∷ us) zero h = absurd (omega (arith, h))
    past (u ∷ us) (suc n) h = ap (λ vs. u ∷ vs) (past us n (omega (arith, h)))

-- ---- an event at a place

-- The update at the place is w now, and those above it have restarted that the causes are for.
pub restarted_after : (rs rs' : List AuditedUpdate) (k : ℕ) (causes : List CauseOfProgram) (q r' : AuditedUpdate) (ms : List Rule) (B : ℕ) (w : Update (caused_chase ms B)) → slice_get rs k ≡ Some q → update_of ms B r' ≡ w → HaveRestarted (k + 1) causes (set rs k r') rs'
    → updates_of ms B rs' ≡ take k (updates_of ms B rs) ++ w ∷ restarted (caused_chase ms B) (readers_in causes) (suc (suc k)) (drop (suc k) (updates_of ms B rs))
restarted_after rs rs' k causes q r' ms B w spot made restarts =
    let us : List (Update (caused_chase ms B)) = updates_of ms B rs in
    let ns = readers_in causes in
    let at_us : slice_get us k ≡ Some (update_of ms B q) = slice_get-map (update_of ms B) rs k ∙ ap (option_map (update_of ms B)) spot in
    let l : k < length us = within us k (update_of ms B q) at_us in
    let put : updates_of ms B (set rs k r') ≡ set us k w = map-set (update_of ms B) rs k r' ∙ ap (λ u. set us k u) made in
    let one : k + 1 ≡ suc k = omega arith in
    restarts ms B
    ∙ (λ t. take (one t) (put t) ++ restarted (caused_chase ms B) ns (suc (one t)) (drop (one t) (put t)))
    ∙ ap (λ ws. take (suc k) (set us k w) ++ restarted (caused_chase ms B) ns (suc (suc k)) ws) (past_set us k w)
    ∙ ap (λ ws. ws ++ restarted (caused_chase ms B) ns (suc (suc k)) (drop (suc k) us)) (taken_set us k w l)
    ∙ regroup (take k us) w (restarted (caused_chase ms B) ns (suc (suc k)) (drop (suc k) us))

-- ---- what lies above a place

pub above_numbers : (rs up : List AuditedUpdate) (k : ℕ) (r : AuditedUpdate) → AreFrom 1 rs → k < length rs → r ≡ get_or rs k r → up ≡ drop (suc k) rs → AreFrom (suc r.program.attempt.number) up
above_numbers rs up k r a l e u =
    let number : r.program.attempt.number ≡ suc k = (stands_placed rs k r a l e).number in
    let next : suc (suc k) ≡ 1 + suc k = omega arith in
    subst (λ (qs : List AuditedUpdate). AreFrom (suc r.program.attempt.number) qs) (sym u) (from_on rs 1 (suc k) (suc r.program.attempt.number) (ap suc number ∙ next) a)

-- An update that a cause is for begins its next attempt.
pub restarted_if : (causes : List CauseOfProgram) (r r' : AuditedUpdate) (n : ℕ) (b : Bool) → n ≡ r.program.attempt.number → b ≡ has_number (readers_in causes) n → b ≡ true → HasRestarted r r' → HasRestartedIf causes r r'
restarted_if causes r r' n b e named t h ms B =
    h ms B ∙ ap (λ d. if d then begun_again (caused_chase ms B) r.program.attempt.number (update_of ms B r) else update_of ms B r) (sym t ∙ named ∙ ap (has_number (readers_in causes)) e)
