-- One update more is drawn.
use Rattle.std.proofs.Common.{◌≡◌, ◌∙◌, ◌<◌, ℕ, suc, ◌+◌, ◌-◌, List, [], ◌∷◌, ◌++◌, ap, append_assoc, arith, map, sym}
use Rattle.std.proofs.lemmas.List.{map_push}
use Rattle.def_language.specs.Sessions as said
use Rattle.lang_session.specs.Meanings.{update_of}
use Rattle.lang_session.specs.declared.sessions.SessionUpdate.{SessionUpdate}
use Rattle.run_drill.specs.Drilled.{after_update, update_at, updates_from}

-- After those so far comes the next one.
moved : (us : List said.SessionUpdate) (b k x : ℕ) → us ++ updates_from (b + 1) (suc k) x ≡ (us ++ update_at (b + 1) x ∷ []) ++ updates_from (b + 1 + 1) k (after_update x)
moved us b k x = sym (append_assoc us (update_at (b + 1) x ∷ []) (updates_from (b + 1 + 1) k (after_update x)))

pub one_drawn : (count b seed x y : ℕ) (us vs : List SessionUpdate) (u : SessionUpdate) → b < count
    → updates_from 1 count seed ≡ map update_of us ++ updates_from (b + 1) (count - b) x → vs ≡ us ++ u ∷ [] → update_of u ≡ update_at (b + 1) x → y ≡ after_update x
    → updates_from 1 count seed ≡ map update_of vs ++ updates_from (b + 1 + 1) (count - (b + 1)) y
one_drawn count b seed x y us vs u few so push is after =
    let left : count - b ≡ suc (count - (b + 1)) = omega (arith, few) in
    let all : map update_of vs ≡ map update_of us ++ update_at (b + 1) x ∷ [] = ap (map update_of) push ∙ map_push update_of us u ∙ ap (λ v. map update_of us ++ v ∷ []) is in
    so ∙ ap (λ n. map update_of us ++ updates_from (b + 1) n x) left ∙ moved (map update_of us) b (count - (b + 1)) x
    ∙ ap (λ l. l ++ updates_from (b + 1 + 1) (count - (b + 1)) (after_update x)) (sym all) ∙ ap (λ z. map update_of vs ++ updates_from (b + 1 + 1) (count - (b + 1)) z) (sym after)
