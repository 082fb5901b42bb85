-- What is asked at the place of an event's update, and what is put there.
use Rattle.std.proofs.Common.{◌≡◌, ◌∙◌, ap, refl, sym, subst, ℕ, zero, suc, ◌<◌, ◌≤◌, ◌+◌, Bool, true, false, Option, Some, List, [], ◌∷◌, ◌++◌, map, take, drop, length, get_or, arith, drop-cons}
use Rattle.std.proofs.Math.ListN.{set}
use Rattle.std.proofs.lemmas.List.{drop_all}
use Rattle.std.proofs.lemmas.Option.{same_Some, slice_get-map}
use Rattle.std.specs.Prelude.{Result, Ok, Err, IfOk, OnErr, OnOk, is_some, slice_get, option_map}
use Rattle.core_entries.specs.declared.causes.Cause.{Cause as CauseOfProgram}
use Rattle.def_machine.specs.Cascade.{Cause}
use Rattle.def_machine.specs.Settle.{restart}
use Rattle.def_machine.specs.Steps.{stepped}
use Rattle.def_machine.specs.Updates.{Settings, Update}
use Rattle.def_chase.specs.Mappings.{Rule}
use Rattle.chase_plan.specs.declared.plans.Plan.{Plan}
use Rattle.chase_update.specs.Courses.{State as ProgramState}
use Rattle.core_queue.specs.Events.{HasStepped, KeepsPlaceBy}
use Rattle.core_queue.specs.Programs.{IsBetween, IsPlanOf}
use Rattle.core_queue.specs.Queues.{update_of, updates_of, AreFrom}
use Rattle.core_queue.specs.Renewals.{AllHaveOneMore, AreFresh, HaveRestarted}
use Rattle.core_queue.specs.declared.updates.QueuedUpdate.{QueuedUpdate}
use Rattle.def_steps.specs.Chase.{caused_chase}
use Rattle.set_versions.specs.Standing.{Kept, Retracted}
use Rattle.base_types.specs.Meanings.{change_of}
use Rattle.base_types.specs.declared.updates.Write.{Write}
use Rattle.core_queue.specs.Updates.{HasTrail}
use Rattle.core_engine.specs.Aftermaths.{AllBetween, Cleared, ClearedIf}
use Rattle.core_engine.specs.Follows.{IsPlanFor, IsPlanAt, IsInstalled, IsPreparedAt}
use Rattle.core_engine.specs.Planned.{IsSomeThat}
use Rattle.core_engine.specs.Steps.{IsPrepared}
use Rattle.core_engine.specs.declared.stepping.Prepared.{Prepared}
use Rattle.core_queue.specs.Order.{HasCommitted}
use Rattle.core_engine.proofs.Delivering.{put_with}
use Rattle.core_engine.proofs.Following.{within, from_on, prepared_at}
use Rattle.core_engine.proofs.Telling.{there_is, number_there}

-- ---- results

pub if_ok : {A E : Type 0} (r : Result A E) (P Q : A → Type 0) → ((x : A) → P x → Q x) → IfOk r P → IfOk r Q
if_ok (Ok x) P Q f h = f x h
if_ok (Err e) P Q f h = tt

-- What comes of either side is true.
pub on_either : {A E : Type 0} (r : Result A E) (P Q R : Type 0) → (P → R) → (Q → R) → OnOk r P → OnErr r Q → R
on_either (Ok x) P Q R f g ok err = f ok
on_either (Err e) P Q R f g ok err = g err

-- ---- all of the updates above

pub all_between : (n : ℕ) (rs : List QueuedUpdate) → AreFrom n rs → AllBetween rs
all_between n [] a = tt
all_between n (r ∷ rs) a = (a.0.between, all_between (suc n) rs a.1)

pub more_above : (rs : List QueuedUpdate) (k : ℕ) → AllHaveOneMore rs → AllHaveOneMore (drop k rs)
more_above rs zero a = a
more_above [] (suc k) a = tt
more_above (r ∷ rs) (suc k) a = more_above rs k a.1

-- ---- trails that are taken back in turn

rest_is : {A : Type 0} (xs : List A) (k : ℕ) (x : A) → k < length xs → x ≡ get_or xs k x → drop k xs ≡ x ∷ drop (suc k) xs
rest_is xs k x l e = drop-cons xs k x l ∙ ap (λ y. y ∷ drop (suc k) xs) (sym e)

-- The trail of one update is taken back.
pub cleared_there : (b : Bool) (x : Option CauseOfProgram) (n : ℕ) (r : QueuedUpdate) (ws : List Write) (old new : Kept) → b ≡ is_some x → b ≡ true → n ≡ r.program.attempt.number → HasTrail r ws
    → Retracted n (map change_of ws) old new → ClearedIf (is_some x) r old new
cleared_there b x n r ws old new e t number trail_is taken =
    subst (λ (c : Bool). ClearedIf c r old new) (sym t ∙ e)
    (λ D before after stand was none others. subst (λ (m : ℕ). Retracted m (map change_of ws) old new) number taken D before after stand (was ∙ sym (trail_is [] 0)) none others)

pub cleared_not : (b : Bool) (x : Option CauseOfProgram) (r : QueuedUpdate) (old : Kept) → b ≡ is_some x → b ≡ false → ClearedIf (is_some x) r old old
cleared_not b x r old e t = subst (λ (c : Bool). ClearedIf c r old old) (sym t ∙ e) refl

pub next_between : (rs : List QueuedUpdate) (k : ℕ) (r : QueuedUpdate) → k < length rs → r ≡ get_or rs k r → AllBetween (drop k rs) → IsBetween r.program
next_between rs k r l e a = (subst AllBetween (rest_is rs k r l e) a).0

pub others_between : (rs : List QueuedUpdate) (k : ℕ) (r : QueuedUpdate) → k < length rs → r ≡ get_or rs k r → AllBetween (drop k rs) → AllBetween (drop (k + 1) rs)
others_between rs k r l e a =
    let one : suc k ≡ k + 1 = omega arith in
    subst (λ (m : ℕ). AllBetween (drop m rs)) one (subst AllBetween (rest_is rs k r l e) a).1

pub clear_one : (rs : List QueuedUpdate) (xs : List (Option CauseOfProgram)) (k : ℕ) (r : QueuedUpdate) (x : Option CauseOfProgram) (v mid w : Kept) → k < length rs → r ≡ get_or rs k r → k < length xs → x ≡ get_or xs k x
    → ClearedIf (is_some x) r v mid → Cleared (drop (k + 1) rs) (drop (k + 1) xs) mid w → Cleared (drop k rs) (drop k xs) v w
clear_one rs xs k r x v mid w l e m f c later =
    let one : k + 1 ≡ suc k = omega arith in
    let both : Cleared (r ∷ drop (suc k) rs) (x ∷ drop (suc k) xs) v w = (mid, c, subst (λ (n : ℕ). Cleared (drop n rs) (drop n xs) mid w) one later) in
    subst (λ (qs : List QueuedUpdate). Cleared qs (drop k xs) v w) (sym (rest_is rs k r l e))
    (subst (λ (ys : List (Option CauseOfProgram)). Cleared (r ∷ drop (suc k) rs) ys v w) (sym (rest_is xs k x m f)) both)

-- Where a cause was looked for in no more of them.
pub clear_rest : (rs : List QueuedUpdate) (xs : List (Option CauseOfProgram)) (k : ℕ) (v : Kept) → length xs ≤ k → Cleared (drop k rs) (drop k xs) v v
clear_rest rs xs k v l = subst (λ (ys : List (Option CauseOfProgram)). Cleared (drop k rs) ys v v) (sym (drop_all k xs l)) (none (drop k rs))
  where
    none : (qs : List QueuedUpdate) → Cleared qs [] v v
    none [] = refl
    none (q ∷ qs) = refl

-- ---- the step is put in place

plan_there : (rs : List QueuedUpdate) (k : ℕ) (r : QueuedUpdate) (plan : Plan) → slice_get rs k ≡ Some r → IsPlanAt k plan rs → IsPlanFor r plan
plan_there rs k r plan spot p = subst (λ (o : Option QueuedUpdate). IsSomeThat (λ (q : QueuedUpdate). IsPlanFor q plan) o) spot p

pub numbers_put : (rs : List QueuedUpdate) (k : ℕ) (plan : Plan) (r r' : QueuedUpdate) → AreFrom 1 rs → k < length rs → r ≡ get_or rs k r → IsPlanAt k plan rs → KeepsPlaceBy plan (get_or rs k r) r' → AreFrom 1 (set rs k r')
numbers_put rs k plan r r' a l e p keeps =
    let is : IsPlanFor (get_or rs k r) plan = subst (λ (q : QueuedUpdate). IsPlanFor q plan) e (plan_there rs k r plan (there_is rs k r l e) p) in
    put_with rs k r r' a l e (λ n s. keeps is.rules is.budget is.below n is.planned s)

past_set : {A : Type 0} (xs : List A) (k : ℕ) (y : A) → drop (suc k) (set xs k y) ≡ drop (suc k) xs
past_set [] k y = refl
past_set (x ∷ xs) zero y = refl
past_set (x ∷ xs) (suc k) y = past_set xs k y

pub dropped_set : {A : Type 0} (xs : List A) (k : ℕ) (y : A) → drop (k + 1) (set xs k y) ≡ drop (suc k) xs
dropped_set xs k y = let one : k + 1 ≡ suc k = omega arith in ap (λ n. drop n (set xs k y)) one ∙ past_set xs k y

taken_set : {A : Type 0} (xs : List A) (k : ℕ) (y : A) → k < length xs → take (suc k) (set xs k y) ≡ take k xs ++ y ∷ []
taken_set [] k y l = absurd (omega (arith, l))
taken_set (x ∷ xs) zero y l = refl
taken_set (x ∷ xs) (suc k) y l = ap (λ zs. x ∷ zs) (taken_set xs k y (omega (arith, l)))

mapped_set : {A B : Type 0} (f : A → B) (xs : List A) (k : ℕ) (y : A) → map f (set xs k y) ≡ set (map f xs) k (f y)
mapped_set f [] k y = refl
mapped_set f (x ∷ xs) zero y = refl
mapped_set f (x ∷ xs) (suc k) y = ap (λ zs. f x ∷ zs) (mapped_set f xs k y)

regroup : {A : Type 0} (xs : List A) (x : A) (ys : List A) → (xs ++ x ∷ []) ++ ys ≡ xs ++ x ∷ ys
regroup [] x ys = refl
regroup (z ∷ xs) x ys = ap (λ zs. z ∷ zs) (regroup xs x ys)

pub fresh_above : (rs : List QueuedUpdate) (k : ℕ) (r' : QueuedUpdate) (fs : List (Option ProgramState)) → AreFresh (drop (suc k) rs) fs → AreFresh (drop (k + 1) (set rs k r')) fs
fresh_above rs k r' fs a = subst (λ (qs : List QueuedUpdate). AreFresh qs fs) (sym (dropped_set rs k r')) a

-- The update at the place is w now, and those above it have restarted for which there is an attempt.
pub restarted_after : (rs rs' : List QueuedUpdate) (k : ℕ) (fs : List (Option ProgramState)) (q r' : QueuedUpdate) (ms : List Rule) (B : ℕ) (w : Update (caused_chase ms B)) (xs : List (Option (Cause (caused_chase ms B)))) → slice_get rs k ≡ Some q → update_of ms B r' ≡ w
    → HaveRestarted (k + 1) fs (set rs k r') rs' → map is_some xs ≡ map is_some fs
    → updates_of ms B rs' ≡ take k (updates_of ms B rs) ++ w ∷ restart (caused_chase ms B) (suc (suc k)) xs (drop (suc k) (updates_of ms B rs))
restarted_after rs rs' k fs q r' ms B w xs spot made restarts marks =
    let us : List (Update (caused_chase ms B)) = updates_of ms B rs in
    let at_us : slice_get us k ≡ Some (update_of ms B q) = slice_get-map (update_of ms B) rs k ∙ ap (option_map (update_of ms B)) spot in
    let l : k < length us = within us k (update_of ms B q) at_us in
    let put : updates_of ms B (set rs k r') ≡ set us k w = mapped_set (update_of ms B) rs k r' ∙ ap (λ u. set us k u) made in
    let one : k + 1 ≡ suc k = omega arith in
    restarts ms B xs marks
    ∙ (λ t. take (one t) (put t) ++ restart (caused_chase ms B) (suc (one t)) xs (drop (one t) (put t)))
    ∙ ap (λ ws. take (suc k) (set us k w) ++ restart (caused_chase ms B) (suc (suc k)) xs ws) (ap (λ n. drop n (set us k w)) (sym one) ∙ dropped_set us k w)
    ∙ ap (λ ws. ws ++ restart (caused_chase ms B) (suc (suc k)) xs (drop (suc k) us)) (taken_set us k w l)
    ∙ regroup (take k us) w (restart (caused_chase ms B) (suc (suc k)) xs (drop (suc k) us))

pub installed_is : (rs rs' : List QueuedUpdate) (k : ℕ) (plan : Plan) (fs : List (Option ProgramState)) (r r' : QueuedUpdate) → k < length rs → r ≡ get_or rs k r → HasStepped plan (get_or rs k r) r'
    → HaveRestarted (k + 1) fs (set rs k r') rs' → IsInstalled k plan fs rs rs'
installed_is rs rs' k plan fs r r' l e steps restarts ms B D q xs spot is marks =
    let there : get_or rs k r ≡ q = sym e ∙ same_Some r q (sym (there_is rs k r l e) ∙ spot) in
    restarted_after rs rs' k fs q r' ms B (stepped (caused_chase ms B) D (update_of ms B q)) xs spot
    (steps ms B D (subst (λ (p : QueuedUpdate). IsPlanOf ms B D p plan) (sym there) is) ∙ ap (λ (p : QueuedUpdate). stepped (caused_chase ms B) D (update_of ms B p)) there) restarts marks

-- ---- what lies above a place

pub above_numbers : (rs up : List QueuedUpdate) (k : ℕ) (r : QueuedUpdate) → AreFrom 1 rs → k < length rs → r ≡ get_or rs k r → up ≡ drop (suc k) rs → AreFrom (suc r.program.attempt.number) up
above_numbers rs up k r a l e u =
    let number : r.program.attempt.number ≡ suc k = number_there rs k r a l e in
    let next : suc (suc k) ≡ 1 + suc k = omega arith in
    subst (λ (qs : List QueuedUpdate). AreFrom (suc r.program.attempt.number) qs) (sym u) (from_on rs 1 (suc k) (suc r.program.attempt.number) (ap suc number ∙ next) a)

pub above_more : (rs up : List QueuedUpdate) (k : ℕ) → AllHaveOneMore rs → up ≡ drop (suc k) rs → AllHaveOneMore up
above_more rs up k a u = subst AllHaveOneMore (sym u) (more_above rs (suc k) a)

pub above_fresh : (rs up : List QueuedUpdate) (k : ℕ) (fs : List (Option ProgramState)) → up ≡ drop (suc k) rs → AreFresh up fs → AreFresh (drop (suc k) rs) fs
above_fresh rs up k fs u a = subst (λ (qs : List QueuedUpdate). AreFresh qs fs) u a

pub above_prepared : (ms : List Rule) (s : Settings) (c k : ℕ) (v v' : Kept) (rs up : List QueuedUpdate) (r : QueuedUpdate) (plan : Plan) (p : Prepared) → AreFrom 1 rs → k < length rs → r ≡ get_or rs k r → up ≡ drop (suc k) rs
    → HasCommitted rs c → IsPrepared ms s c v r up plan v' p → IsPreparedAt ms s k plan v rs v' p
above_prepared ms s c k v v' rs up r plan p a l e u counts is =
    prepared_at ms s c k v v' rs r plan p a (there_is rs k r l e) counts (subst (λ (qs : List QueuedUpdate). IsPrepared ms s c v r qs plan v' p) u is)
