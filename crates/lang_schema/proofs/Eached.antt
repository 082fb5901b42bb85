-- Items checked one after the other, as a loop checks them.
use Rattle.std.proofs.Common.{◌≡◌, ℕ, ◌+◌, ◌<◌, ◌≤◌, List, [], ◌∷◌, ◌++◌, refl, sym, ap, ◌∙◌, length, drop, get_or, drop-cons, append_assoc}
use Rattle.std.specs.Prelude.{Result, Ok, Err, map}
use Rattle.std.proofs.Math.Numerals.{add-one}
use Rattle.std.proofs.lemmas.List.{drop_all, append-nil, map-id}
use Rattle.def_language.specs.Faults.{Kind}
use Rattle.def_language.specs.Reading.{◌>>=◌, each}
use Rattle.lang_schema.specs.declared.refusals.SchemaRefusal.{SchemaRefusal}
use Rattle.lang_schema.specs.declared.refusals.SchemaRefusal.TheVariants as refusal
use Rattle.lang_schema.specs.Answers.{Refuses}

-- lists whose items mean themselves
pub same_bytes : (xs ys : List ℕ) → map (λ (n : ℕ). n) xs ≡ map (λ (n : ℕ). n) ys → xs ≡ ys
same_bytes xs ys e = sym (map-id xs) ∙ e ∙ map-id ys

-- what is read, after what was read before
abbrev pub after : {A : Type 0} → List A → Result (List A) Kind → Result (List A) Kind
after done read = read >>= (λ ys. Ok (done ++ ys))

-- the item at a place, and those after it
pub element : {A B : Type 0} (f : A → B) (xs : List A) (i : ℕ) (x : A) → i < length xs → x ≡ get_or xs i x → map f (drop i xs) ≡ f x ∷ map f (drop (i + 1) xs)
element {A} {B} f xs i x lt is =
    let e : drop i xs ≡ get_or xs i x ∷ drop (i + 1) xs = rw add-one (drop-cons xs i x lt) in
    ap (map f) e ∙ ap (λ (y : A). f y ∷ map f (drop (i + 1) xs)) (sym is)

one_after : {A : Type 0} (done : List A) (y : A) (read : Result (List A) Kind) → after done (read >>= (λ ys. Ok (y ∷ ys))) ≡ after (done ++ y ∷ []) read
one_after {A} done y (Ok ys) = ap (λ (zs : List A). let r : Result (List A) Kind = Ok zs in r) (sym (append_assoc done (y ∷ []) ys))
one_after done y (Err k) = refl

-- an item passes
pub passes : {A B : Type 0} (check : A → Result B Kind) (done : List B) (x : A) (rest items : List A) (y : B) (total : Result (List B) Kind)
    → items ≡ x ∷ rest → after done (each check items) ≡ total → check x ≡ Ok y → after (done ++ y ∷ []) (each check rest) ≡ total
unfolding each
passes check done x rest items y total is e found = sym (one_after done y (each check rest)) ∙ rw found at (ap (λ (xs : List _). after done (each check xs)) (sym is) ∙ e)

fault : {A B : Type 0} (check : A → Result B Kind) (done : List B) (x : A) (rest items : List A) (k : Kind) (total : Result (List B) Kind)
    → items ≡ x ∷ rest → after done (each check items) ≡ total → check x ≡ Err k → total ≡ Err k
unfolding each
fault check done x rest items k total is e found = sym (rw found at (ap (λ (xs : List _). after done (each check xs)) (sym is) ∙ e))

-- an item does not
pub fails : {A B : Type 0} (e : SchemaRefusal) (check : A → Result B Kind) (done : List B) (x : A) (rest items : List A) (total : Result (List B) Kind)
    → items ≡ x ∷ rest → after done (each check items) ≡ total → Refuses e (check x) → Refuses e total
fails (refusal.UnknownRelation n) check done x rest items total is same found = fault check done x rest items _ total is same found
fails (refusal.Arity n columns count) check done x rest items total is same found = fault check done x rest items _ total is same found
fails refusal.EmptySide check done x rest items total is same found = fault check done x rest items _ total is same found
fails refusal.TooManyAtoms check done x rest items total is same found = fault check done x rest items _ total is same found
fails (refusal.DuplicateName n) check done x rest items total is same found = fault check done x rest items _ total is same found
fails (refusal.Limit which) check done x rest items total is same found = fault check done x rest items _ total is same found
fails refusal.Memory check done x rest items total is same found = tt

-- all have passed
pub ends : {A B : Type 0} (check : A → Result B Kind) (done : List B) (items : List A) (total : Result (List B) Kind) → items ≡ [] → after done (each check items) ≡ total → total ≡ Ok done
unfolding each
ends {A} {B} check done items total is e =
    sym (ap (λ (xs : List A). after done (each check xs)) (sym is) ∙ e) ∙ ap (λ (zs : List B). let r : Result (List B) Kind = Ok zs in r) (append-nil done)

-- where no item is left
pub nothing_left : {A B : Type 0} (f : A → B) (xs : List A) (i : ℕ) → length xs ≤ i → map f (drop i xs) ≡ []
nothing_left f xs i le = ap (map f) (drop_all i xs le)
