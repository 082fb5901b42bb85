-- How far up the updates have read something.
use Rattle.std.proofs.Common.{◌≡◌, ◌∙◌, ap, sym, subst, ℕ, suc, ◌<◌, ◌≤◌, List, [], ◌∷◌, map, length, get_or, drop, drop-cons}
use Rattle.std.proofs.lemmas.List.{drop_all, get_or-map, length-map}
use Rattle.def_machine.specs.Updates.{Update}
use Rattle.chase_query.specs.Meanings.{reads_in}
use Rattle.chase_query.specs.declared.log.Logged.{Logged}
use Rattle.def_steps.specs.Chase.{caused_chase}
use Rattle.core_queue.specs.Queues.{update_of, updates_of, logged}
use Rattle.core_queue.specs.Order.{AreUnread, ReadsAtMost}
use Rattle.core_queue.specs.declared.updates.QueuedUpdate.{QueuedUpdate}

-- After all of them there is none.
pub all_may_read : (rs : List QueuedUpdate) (n : ℕ) → length rs ≤ n → ReadsAtMost rs n
all_may_read rs n h ms B =
    let l : length (updates_of ms B rs) ≤ n = simp length-map h in
    subst (λ (us : List (Update (caused_chase ms B))). AreUnread (caused_chase ms B) us) (sym (drop_all n (updates_of ms B rs) l)) tt

-- The last of so many has read nothing, so one fewer may have.
pub one_fewer : (rs : List QueuedUpdate) (n k : ℕ) (r : QueuedUpdate) → n ≡ suc k → k < length rs → get_or rs k r ≡ r → r.log.items ≡ [] → ReadsAtMost rs n → ReadsAtMost rs k
one_fewer rs n k r e l at none h ms B =
    let us = updates_of ms B rs in
    let u = update_of ms B r in
    let m : k < length us = simp length-map l in
    let here : get_or us k u ≡ u = get_or-map (update_of ms B) rs k r u l ∙ ap (update_of ms B) at in
    let unread : u.log ≡ [] = ap (λ (es : List Logged). map (logged ms B) (reads_in es)) none in
    let rest : AreUnread (caused_chase ms B) (drop (suc k) us) = subst (λ (i : ℕ). AreUnread (caused_chase ms B) (drop i us)) e (h ms B) in
    let cut : drop k us ≡ u ∷ drop (suc k) us = drop-cons us k u m ∙ ap (λ (v : Update (caused_chase ms B)). v ∷ drop (suc k) us) here in
    subst (λ (vs : List (Update (caused_chase ms B))). AreUnread (caused_chase ms B) vs) (sym cut) (unread, rest)
