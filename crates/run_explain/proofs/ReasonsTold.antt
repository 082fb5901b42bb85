-- The reasons for tuples by notes.
use Rattle.std.proofs.Common.{◌≡◌, ◌∙◌, ap, refl, sym, List, [], ◌∷◌, ◌++◌, map, filter, append_assoc, append-nil, reverse}
use Rattle.std.specs.List.{flat_map}
use Rattle.std.proofs.lemmas.List.{reverse-append, map-append}
use Rattle.def_chase.specs.Values.{Fact}
use Rattle.def_chase.specs.Repository.{Change, Insert, apply, change, has}
use Rattle.def_provenance.specs.Notes.{Noted, reason_by, told_by}
use Rattle.def_provenance.specs.Reasons.{Reason, premises, sought_before}

pub applied_on : (D : List Fact) (xs ys : List Change) → apply D (xs ++ ys) ≡ apply (apply D xs) ys
applied_on D [] ys = refl
applied_on D (x ∷ xs) ys = applied_on (change D x) xs ys

-- What these reasons rest on.
abbrev pub resting : List Reason → List Fact
resting rs = flat_map (λ (r : Reason). premises r.how) rs

resting_on : (rs : List Reason) (r : Reason) → resting (rs ++ r ∷ []) ≡ resting rs ++ premises r.how
resting_on [] r = append-nil (premises r.how)
resting_on (q ∷ rs) r = ap (λ ts. premises q.how ++ ts) (resting_on rs r) ∙ sym (append_assoc (premises q.how) (resting rs) (premises r.how))

-- One more reason, and what it rests on is sought too.
pub sought_on : (S : List Fact) (rs : List Reason) (r : Reason) → apply (apply S (map Insert (resting rs))) (map Insert (premises r.how)) ≡ apply S (map Insert (resting (rs ++ r ∷ [])))
sought_on S rs r =
    sym
    (ap (λ ts. apply S (map Insert ts)) (resting_on rs r)
    ∙ ap (apply S) (map-append Insert (resting rs) (premises r.how))
    ∙ applied_on S (map Insert (resting rs)) (map Insert (premises r.how)))

-- The reason for one tuple more, and what it rests on.
pub sought_step : (n : Noted) (S ts D E : List Fact) (t : Fact) → D ≡ apply S (map Insert (resting (map (reason_by n) ts))) → E ≡ apply D (map Insert (premises (reason_by n t).how))
    → E ≡ apply S (map Insert (resting (map (reason_by n) (ts ++ t ∷ []))))
sought_step n S ts D E t e f =
    f
    ∙ ap (λ (F : List Fact). apply F (map Insert (premises (reason_by n t).how))) e
    ∙ sought_on S (map (reason_by n) ts) (reason_by n t)
    ∙ ap (λ (rs : List Reason). apply S (map Insert (resting rs))) (sym (map-append (reason_by n) ts (t ∷ [])))

pub told_step : (n : Noted) (old rs more : List Reason) (ts : List Fact) (t : Fact) → rs ≡ old ++ map (reason_by n) ts → more ≡ rs ++ reason_by n t ∷ []
    → more ≡ old ++ map (reason_by n) (ts ++ t ∷ [])
told_step n old rs more ts t e f =
    f
    ∙ ap (λ (qs : List Reason). qs ++ reason_by n t ∷ []) e
    ∙ append_assoc old (map (reason_by n) ts) (reason_by n t ∷ [])
    ∙ ap (λ (qs : List Reason). old ++ qs) (sym (map-append (reason_by n) ts (t ∷ [])))

-- What is told by notes is what is told so far, by the last of those that are left, and then by the others.
pub told_on : (all : List Reason) (told more : List Reason) (ns ms : List Noted) (n : Noted) (S E : List Fact)
    → all ≡ told ++ told_by (reverse ns) S → ns ≡ ms ++ n ∷ []
    → more ≡ told ++ map (reason_by n) (filter (has n.puts) S) → E ≡ sought_before (has n.puts) (map (reason_by n) (filter (has n.puts) S)) S
    → all ≡ more ++ told_by (reverse ms) E
told_on all told more ns ms n S E e f g h =
    let hits = map (reason_by n) (filter (has n.puts) S) in
    e
    ∙ ap (λ xs. told ++ told_by (reverse xs) S) f
    ∙ ap (λ xs. told ++ told_by xs S) (reverse-append ms (n ∷ []))
    ∙ sym (append_assoc told hits (told_by (reverse ms) (sought_before (has n.puts) hits S)))
    ∙ ap (λ rs. rs ++ told_by (reverse ms) (sought_before (has n.puts) hits S)) (sym g)
    ∙ ap (λ D. more ++ told_by (reverse ms) D) (sym h)
