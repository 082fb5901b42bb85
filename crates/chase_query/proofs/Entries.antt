-- The reads of a log, entry by entry.
use Rattle.std.proofs.Common.{◌≡◌, ◌∙◌, ap, refl, sym, arith, ℕ, zero, suc, ◌+◌, ◌-◌, ◌<◌, ◌≤◌, ◌||◌, ◌&&◌, Bool, List, [], ◌∷◌, ◌++◌, append_assoc, append-nil, map, length, get_or, drop, add-one, drop-cons}
use Rattle.std.specs.List.{list_all, list_any}
use Rattle.std.proofs.lemmas.List.Folds.{list_all-append, list_any-append}
use Rattle.chase_query.specs.Meanings.{Read, finds_none, passing, reads_in, reads_of}
use Rattle.chase_query.specs.declared.log.Logged.{Logged}

-- The reads of two logs, one after the other.
pub in_both : (es fs : List Logged) → reads_in (es ++ fs) ≡ reads_in es ++ reads_in fs
in_both [] fs = refl
in_both (e ∷ es) fs = ap (λ rs. reads_of e ++ rs) (in_both es fs) ∙ sym (append_assoc (reads_of e) (reads_in es) (reads_in fs))

-- With one entry more.
pub with_last : (all es : List Logged) (e : Logged) (rs : List Read) → all ≡ es ++ e ∷ [] → reads_of e ≡ rs → reads_in all ≡ reads_in es ++ rs
with_last all es e rs h is = ap reads_in h ∙ in_both es (e ∷ []) ∙ ap (λ qs. reads_in es ++ qs) (append-nil (reads_of e) ∙ is)

-- Those of the entry here come before those of the entries after it.
pub from_here : (es : List Logged) (i : ℕ) (e : Logged) → i < length es → e ≡ get_or es i e → reads_in (drop i es) ≡ reads_of e ++ reads_in (drop (i + 1) es)
from_here es i e h is =
    ap reads_in (drop-cons es i e h)
    ∙ ap (λ x. reads_of x ++ reads_in (drop (suc i) es)) (sym is)
    ∙ ap (λ k. reads_of e ++ reads_in (drop k es)) (sym (add-one i))

-- Whether some read passes a test, entry by entry.
pub any_in : (p : Read → Bool) (es : List Logged) → list_any (list_any p) (map reads_of es) ≡ list_any p (reads_in es)
any_in p [] = refl
any_in p (e ∷ es) = ap (λ b. list_any p (reads_of e) || b) (any_in p es) ∙ sym (list_any-append p (reads_of e) (reads_in es))

-- Whether all of them do.
pub all_in : (p : Read → Bool) (es : List Logged) → list_all (list_all p) (map reads_of es) ≡ list_all p (reads_in es)
all_in p [] = refl
all_in p (e ∷ es) = ap (λ b. list_all p (reads_of e) && b) (all_in p es) ∙ sym (list_all-append p (reads_of e) (reads_in es))

-- The first mapping of a passage, and those after it.
pub passage_from : (n end own : ℕ) → n < end → passing n (end - n) own ≡ finds_none n own ∷ passing (n + 1) (end - (n + 1)) own
passage_from n end own h =
    let more : end - n ≡ suc (end - (n + 1)) = omega (arith, h) in
    ap (λ k. passing n k own) more ∙ ap (λ m. finds_none n own ∷ passing m (end - (n + 1)) own) (sym (add-one n))

-- No mapping is left of it.
pub passage_ended : (n end own : ℕ) → end ≤ n → passing n (end - n) own ≡ []
passage_ended n end own h =
    let none : end - n ≡ 0 = omega (arith, h) in
    ap (λ k. passing n k own) none

-- With one mapping more.
pub passage_on : (n k own : ℕ) → passing n (suc k) own ≡ passing n k own ++ finds_none (n + k) own ∷ []
passage_on n zero own =
    let same : n ≡ n + 0 = omega arith in
    ap (λ m. finds_none m own ∷ []) same
passage_on n (suc k) own =
    let same : suc n + k ≡ n + suc k = omega arith in
    ap (λ rs. finds_none n own ∷ rs) (passage_on (suc n) k own ∙ ap (λ m. passing (suc n) k own ++ finds_none m own ∷ []) same)

-- There is a read for each mapping.
pub passage_length : (n k own : ℕ) → length (passing n k own) ≡ k
passage_length n zero own = refl
passage_length n (suc k) own = ap suc (passage_length (suc n) k own)
