-- One update of a session with one more answer.
use Rattle.std.proofs.Common.{◌≡◌, ◌∙◌, ℕ, zero, suc, ◌+◌, ◌<◌, ◌≤◌, List, [], ◌∷◌, ◌++◌, length, get_or, map, Some, refl, sym, ap, arith}
use Rattle.std.specs.Prelude.{slice_get, slice_set, sum_by}
use Rattle.std.proofs.lemmas.List.{length-append, length-map, map_push}
use Rattle.std.proofs.lemmas.List.Sums.{sum_by-cons}
use Rattle.def_chase.specs.Updates.{Choice}
use Rattle.def_language.specs.Names.{same_name, firsts}
use Rattle.def_language.specs.Sessions.{labels, curators, answer_count}
use Rattle.def_language.specs.Sessions as meant
use Rattle.def_language.specs.Checks.{with_answer}
use Rattle.lang_session.specs.declared.sessions.SessionUpdate.{SessionUpdate}
use Rattle.lang_session.specs.Meanings.{update_of}
use Rattle.base_types.specs.Listed.{Listed}
use Rattle.base_types.specs.Meanings.{choice_of, operation_of}
use Rattle.base_types.specs.declared.updates.Choice.{Choice as Given}

set_map : {A B : Type 0} (f : A → B) (xs : List A) (i : ℕ) (y : A) → map f (slice_set xs i y) ≡ slice_set (map f xs) i (f y)
set_map f [] i y = refl
set_map f (x ∷ xs) zero y = refl
set_map f (x ∷ xs) (suc i) y = ap (λ zs. f x ∷ zs) (set_map f xs i y)

get_map : {A B : Type 0} (f : A → B) (xs : List A) (i : ℕ) (x : A) → slice_get xs i ≡ Some x → slice_get (map f xs) i ≡ Some (f x)
get_map f [] i x at = let none : ⊥ = cc in absurd none
get_map f (w ∷ xs) zero x at = let same : w ≡ x = cc in ap (λ y. Some (f y)) same
get_map f (w ∷ xs) (suc i) x at = get_map f xs i x at

-- what is the same of the new item stays
set_same : {A B : Type 0} (f : A → B) (xs : List A) (i : ℕ) (x y : A) → slice_get xs i ≡ Some x → f y ≡ f x → map f (slice_set xs i y) ≡ map f xs
set_same f [] i x y at e = refl
set_same f (w ∷ xs) zero x y at e = let same : w ≡ x = cc in ap (λ z. z ∷ map f xs) (e ∙ ap f (sym same))
set_same f (w ∷ xs) (suc i) x y at e = ap (λ zs. f w ∷ zs) (set_same f xs i x y at e)

-- where one item counts one more, all do
count_more : {A : Type 0} (f : A → ℕ) (xs : List A) (i : ℕ) (x y : A) → slice_get xs i ≡ Some x → f y ≡ f x + 1 → sum_by f (slice_set xs i y) ≡ sum_by f xs + 1
count_more f [] i x y at e = let none : ⊥ = cc in absurd none
count_more f (w ∷ xs) zero x y at e = let same : w ≡ x = cc in rw (sum_by-cons f y xs, sum_by-cons f w xs) (first (f y) (f w) (f x) (sum_by f xs) e (ap f same))
  where
    first : (a b c rest : ℕ) → a ≡ c + 1 → b ≡ c → a + rest ≡ b + rest + 1
    first a b c rest e f = omega arith
count_more f (w ∷ xs) (suc i) x y at e = rw (sum_by-cons f w (slice_set xs i y), sum_by-cons f w xs) (later (f w) (sum_by f (slice_set xs i y)) (sum_by f xs) (count_more f xs i x y at e))
  where
    later : (a new old : ℕ) → new ≡ old + 1 → a + new ≡ a + old + 1
    later a new old e = omega arith

read_at : {A : Type 0} (xs : List A) (i : ℕ) (x : A) → i < length xs → x ≡ get_or xs i x → slice_get xs i ≡ Some x
read_at [] i x lt is = absurd (omega arith)
read_at (w ∷ xs) zero x lt is = ap Some (sym is)
read_at (w ∷ xs) (suc i) x lt is = read_at xs i x (omega arith) is

-- the update that is read at a place
pub standing : (us : List SessionUpdate) (ms : List meant.SessionUpdate) (i : ℕ) (x : SessionUpdate) → map update_of us ≡ ms → i < length ms → x ≡ get_or us i x → slice_get us i ≡ Some x
standing us ms i x view lt is = read_at us i x (omega (arith, lt, length-map us update_of, ap length view)) is

as_many : {A : Type 0} (xs : List A) (i : ℕ) (y : A) → length (slice_set xs i y) ≡ length xs
as_many [] i y = refl
as_many (x ∷ xs) zero y = refl
as_many (x ∷ xs) (suc i) y = ap suc (as_many xs i y)

-- the update that one means, with other answers
abbrev answering : SessionUpdate → List Choice → meant.SessionUpdate
answering x choices = record { label = x.update.label.items; curator = x.update.curator.items; operation = operation_of x.update.operation; answers = choices }

pub same_answers : (x : SessionUpdate) (answers : Listed Given) → answers.items ≡ x.answers.items → update_of (record { update = x.update; answers = answers }) ≡ update_of x
same_answers x answers e = ap (answering x) (ap (map choice_of) e)

pub more_answers : (x : SessionUpdate) (answers : Listed Given) (choice : Given) → answers.items ≡ x.answers.items ++ choice ∷ [] → update_of (record { update = x.update; answers = answers }) ≡ with_answer (update_of x) (choice_of choice)
more_answers x answers choice e = ap (answering x) (ap (map choice_of) e ∙ map_push choice_of x.answers.items choice)

-- an update that means the same changes nothing
pub unchanged : (us : List SessionUpdate) (i : ℕ) (x y : SessionUpdate) → slice_get us i ≡ Some x → update_of y ≡ update_of x → map update_of (slice_set us i y) ≡ map update_of us
unchanged us i x y at e = set_same update_of us i x y at e

-- another update at a place makes no more of them
pub few : (us : List SessionUpdate) (i : ℕ) (y : SessionUpdate) → length us ≤ 1000 → length (slice_set us i y) ≤ 1000
few us i y le = rw (as_many us i y) le

-- the updates with one more answer at a place
pub changed_at : (us : List SessionUpdate) (i : ℕ) (x y : SessionUpdate) (choice : Choice) (u : meant.SessionUpdate) → slice_get us i ≡ Some x → update_of y ≡ with_answer (update_of x) choice
    → slice_get (map update_of us) i ≡ Some u → map update_of (slice_set us i y) ≡ slice_set (map update_of us) i (with_answer u choice)
changed_at us i x y choice u at e is =
    let same : update_of x ≡ u = same_item (update_of x) u (sym (get_map update_of us i x at) ∙ is) in
    set_map update_of us i y ∙ ap (slice_set (map update_of us) i) (e ∙ ap (λ v. with_answer v choice) same)
  where
    same_item : {A : Type 0} (v w : A) → Some v ≡ Some w → v ≡ w
    same_item v w f = cc

-- labels and curators stay, and there is one more answer
pub counted : (us : List SessionUpdate) (i : ℕ) (x y : SessionUpdate) (choice : Choice) → slice_get us i ≡ Some x → update_of y ≡ with_answer (update_of x) choice
    → (labels (map update_of (slice_set us i y)) ≡ labels (map update_of us)) × (curators (map update_of (slice_set us i y)) ≡ curators (map update_of us)) × (answer_count (map update_of (slice_set us i y)) ≡ answer_count (map update_of us) + 1)
counted us i x y choice at e =
    let there = get_map update_of us i x at in
    let set = set_map update_of us i y ∙ ap (slice_set (map update_of us) i) e in (
      ap labels set ∙ set_same (λ u. u.label) (map update_of us) i (update_of x) (with_answer (update_of x) choice) there refl,
      ap curators set ∙ ap (firsts same_name) (set_same (λ u. u.curator) (map update_of us) i (update_of x) (with_answer (update_of x) choice) there refl),
      ap answer_count set ∙ count_more (λ u. length u.answers) (map update_of us) i (update_of x) (with_answer (update_of x) choice) there (length-append (update_of x).answers (choice ∷ [])),
    )
