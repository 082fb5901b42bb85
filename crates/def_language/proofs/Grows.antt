-- The parts of a session as statements add to them.
use Rattle.std.proofs.Common.{◌≡◌, ℕ, zero, suc, ◌+◌, ◌<◌, ◌≤◌, inl, inr, Bool, true, false, List, [], ◌∷◌, ◌++◌, length, refl, sym, ap, ◌∙◌, subst, arith, append_assoc, append-nil, length-append}
use Rattle.std.specs.Prelude.{Ok, Err, Some, map, not, nat_le, slice_get, if◌then◌else◌}
use Rattle.std.specs.List.{AllByRecursion}
use Rattle.std.specs.BTreeSet.{insert_key}
use Rattle.std.specs.Ordering.{match_ordering}
use Rattle.std.specs.declared.cmp.Ordering.{Ordering}
use Rattle.std.specs.declared.cmp.Ordering.TheVariants.{Less, Equal, Greater}
use Rattle.std.proofs.lemmas.Bool.Decides.{nat_tests}
use Rattle.std.proofs.lemmas.List.{map-append}
use Rattle.std.proofs.lemmas.List.Elements.{filter-append}
use Rattle.std.proofs.lemmas.List.Sums.{fold-append, sum_by-append}
use Rattle.def_chase.specs.Values.{Fact, fact_cmp}
use Rattle.def_chase.specs.Updates.{Operation}
use Rattle.def_language.specs.declared.Which.{Which}
use Rattle.def_language.specs.Faults.{DuplicateName}
use Rattle.def_language.specs.Names.{Name, same_name, is_one_of, with_new, firsts}
use Rattle.def_language.specs.Sessions.{RelationSchema, SessionMapping, SessionUpdate, curators, answer_count, is_initial, initial_mappings, added_mappings}
use Rattle.def_language.specs.Checks.{unused, within, curators_full}
use Rattle.def_language.specs.Validity.{IsName, AreNames, IsUpdate, AreUpdates, enacted, enactments, sinces}
use Rattle.def_language.proofs.Only.{choose}
use Rattle.def_language.proofs.Placed.{new_after}

-- ---- checks that were passed

pub unused_ok : (names : List Name) (n : Name) (u : Unit {0}) → unused names n ≡ Ok u → is_one_of names n ≡ false
unused_ok names n u e =
    elim (choose (is_one_of names n) (Err (DuplicateName n)) (Ok tt) u e) [
      | inl a ↦ let f : ⊥ = let g = a.1 in cc in absurd f
      | inr b ↦ b.0
    ]

pub within_ok : (which : Which) (reached : Bool) (u : Unit {0}) → within which reached ≡ Ok u → reached ≡ false
within_ok which true u e = let f : ⊥ = cc in absurd f
within_ok which false u e = refl

pub room_ok : (most n : ℕ) → nat_le most n ≡ false → n < most
room_ok most n e = grind (arith, nat_tests)

-- ---- names

pub names_grow : {A : Type 0} (called : A → Name) (xs : List A) (x : A) → AreNames (map called xs) → IsName (called x) → is_one_of (map called xs) (called x) ≡ false → AreNames (map called (xs ++ x ∷ []))
names_grow called xs x all good new = subst AreNames (sym (map-append called xs (x ∷ []))) (new_after [] (map called xs) (called x) all good new)

pub all_grow : {A : Type 0} (P : A → Type 0) (xs : List A) (x : A) → AllByRecursion P xs → P x → AllByRecursion P (xs ++ x ∷ [])
all_grow P [] x all good = (good, tt)
all_grow P (y ∷ xs) x all good = (all.0, all_grow P xs x all.1 good)

-- ---- mappings

initial_one : (m : SessionMapping) (b : Bool) → is_initial m ≡ b → initial_mappings (m ∷ []) ≡ (if b then m ∷ [] else [])
initial_one m b e = rw e refl

added_one : (m : SessionMapping) (b : Bool) → is_initial m ≡ b → added_mappings (m ∷ []) ≡ (if b then [] else m ∷ [])
added_one m true e = rw e refl
added_one m false e = rw e refl

pub initial_grow : (ms : List SessionMapping) (m : SessionMapping) (b : Bool) → is_initial m ≡ b → initial_mappings (ms ++ m ∷ []) ≡ initial_mappings ms ++ (if b then m ∷ [] else [])
initial_grow ms m b e = filter-append is_initial ms (m ∷ []) ∙ ap (λ (xs : List SessionMapping). initial_mappings ms ++ xs) (initial_one m b e)

pub added_grow : (ms : List SessionMapping) (m : SessionMapping) (b : Bool) → is_initial m ≡ b → added_mappings (ms ++ m ∷ []) ≡ added_mappings ms ++ (if b then [] else m ∷ [])
added_grow ms m b e = filter-append (λ (x : SessionMapping). not (is_initial x)) ms (m ∷ []) ∙ ap (λ (xs : List SessionMapping). added_mappings ms ++ xs) (added_one m b e)

pub sinces_grow : (k : ℕ) (ms : List SessionMapping) (m : SessionMapping) → sinces k (ms ++ m ∷ []) ≡ sinces k ms ++ (k + length ms, m.rule.since) ∷ []
sinces_grow k [] m = let e : k ≡ k + 0 = omega arith in ap (λ n. (n, m.rule.since) ∷ []) e
sinces_grow k (x ∷ ms) m =
    let e : k + 1 + length ms ≡ k + suc (length ms) = omega arith in
    ap (λ (ps : List (ℕ × ℕ)). (k, x.rule.since) ∷ ps) (sinces_grow (k + 1) ms m ∙ ap (λ n. sinces (k + 1) ms ++ (n, m.rule.since) ∷ []) e)

-- ---- updates

pub enactments_grow : (k : ℕ) (us : List SessionUpdate) (u : SessionUpdate) → enactments k (us ++ u ∷ []) ≡ enactments k us ++ enacted (k + length us) u.operation
enactments_grow k [] u = let e : k ≡ k + 0 = omega arith in append-nil (enacted k u.operation) ∙ ap (λ n. enacted n u.operation) e
enactments_grow k (x ∷ us) u =
    let e : k + 1 + length us ≡ k + suc (length us) = omega arith in
    ap (λ (ps : List (ℕ × ℕ)). enacted k x.operation ++ ps) (enactments_grow (k + 1) us u ∙ ap (λ n. enactments (k + 1) us ++ enacted n u.operation) e)
    ∙ sym (append_assoc (enacted k x.operation) (enactments (k + 1) us) (enacted (k + suc (length us)) u.operation))

pub updates_grow : (relations : List RelationSchema) (k : ℕ) (us : List SessionUpdate) (u : SessionUpdate) → AreUpdates relations k us → IsUpdate relations (k + length us) u → AreUpdates relations k (us ++ u ∷ [])
updates_grow relations k [] u all good = let e : k + 0 ≡ k = omega arith in (subst (λ n. IsUpdate relations n u) e good, tt)
updates_grow relations k (x ∷ us) u all good = let e : k + suc (length us) ≡ k + 1 + length us = omega arith in (all.0, updates_grow relations (k + 1) us u all.1 (subst (λ n. IsUpdate relations n u) e good))

pub curators_grow : (us : List SessionUpdate) (u : SessionUpdate) → curators (us ++ u ∷ []) ≡ with_new same_name (curators us) u.curator
curators_grow us u =
    ap (firsts same_name) (map-append (λ (x : SessionUpdate). x.curator) us (u ∷ [])) ∙ fold-append (with_new same_name) [] (map (λ (x : SessionUpdate). x.curator) us) (u.curator ∷ [])

pub curators_fit : (us : List SessionUpdate) (u : SessionUpdate) → length (curators us) ≤ 64 → curators_full us u.curator ≡ false → length (curators (us ++ u ∷ [])) ≤ 64
curators_fit us u le room = by (is_one_of (curators us) u.curator) refl where
  by : (b : Bool) → is_one_of (curators us) u.curator ≡ b → length (curators (us ++ u ∷ [])) ≤ 64
  by true e =
      let is : curators (us ++ u ∷ []) ≡ curators us = curators_grow us u ∙ rw e refl in
      omega (arith, ap length is)
  by false e =
      let is : curators (us ++ u ∷ []) ≡ curators us ++ u.curator ∷ [] = curators_grow us u ∙ rw e refl in
      let free : nat_le 64 (length (curators us)) ≡ false = rw e at room in
      omega (arith, ap length is, length-append (curators us) (u.curator ∷ []), room_ok 64 (length (curators us)) free)

pub answers_grow : (us : List SessionUpdate) (u : SessionUpdate) → u.answers ≡ [] → answer_count (us ++ u ∷ []) ≡ answer_count us
answers_grow us u none =
    let both : answer_count (us ++ u ∷ []) ≡ answer_count us + (0 + length u.answers) = sum_by-append (λ (x : SessionUpdate). length x.answers) us (u ∷ []) in
    omega (arith, both, ap length none)

-- ---- an answer to an update among others

pub record Among (us : List SessionUpdate) (place : ℕ) (u : SessionUpdate) : Type 0 where
  pub front : List SessionUpdate
  pub back : List SessionUpdate
  pub is : us ≡ front ++ u ∷ back
  pub size : length front ≡ place

pub among : (us : List SessionUpdate) (place : ℕ) (u : SessionUpdate) → slice_get us place ≡ Some u → Among us place u
among [] place u e = let f : ⊥ = cc in absurd f
among (x ∷ us) zero u e = let is : x ≡ u = cc in record { front = []; back = us; is = ap (λ (y : SessionUpdate). y ∷ us) is; size = refl }
among (x ∷ us) (suc n) u e =
    let a = among us n u e in
    record { front = x ∷ a.front; back = a.back; is = ap (λ (ys : List SessionUpdate). x ∷ ys) a.is; size = ap suc a.size }

pub mapped_same : {A : Type 0} (part : SessionUpdate → A) (front back : List SessionUpdate) (u v : SessionUpdate) → part v ≡ part u → map part (front ++ v ∷ back) ≡ map part (front ++ u ∷ back)
mapped_same part [] back u v e = ap (λ x. x ∷ map part back) e
mapped_same part (x ∷ front) back u v e = ap (λ xs. part x ∷ xs) (mapped_same part front back u v e)

pub enactments_same : (k : ℕ) (front back : List SessionUpdate) (u v : SessionUpdate) → v.operation ≡ u.operation → enactments k (front ++ v ∷ back) ≡ enactments k (front ++ u ∷ back)
enactments_same k [] back u v e = ap (λ (op : Operation). enacted k op ++ enactments (k + 1) back) e
enactments_same k (x ∷ front) back u v e = ap (λ (ps : List (ℕ × ℕ)). enacted k x.operation ++ ps) (enactments_same (k + 1) front back u v e)

pub updates_same : (relations : List RelationSchema) (k : ℕ) (front back : List SessionUpdate) (u v : SessionUpdate) → AreUpdates relations k (front ++ u ∷ back) → (IsUpdate relations (k + length front) u → IsUpdate relations (k + length front) v)
    → AreUpdates relations k (front ++ v ∷ back)
updates_same relations k [] back u v all good =
    let e : k + 0 ≡ k = omega arith in
    (subst (λ n. IsUpdate relations n v) e (good (subst (λ n. IsUpdate relations n u) (sym e) all.0)), all.1)
updates_same relations k (x ∷ front) back u v all good =
    let e : k + suc (length front) ≡ k + 1 + length front = omega arith in
    (all.0, updates_same relations (k + 1) front back u v all.1 (λ (g : IsUpdate relations (k + 1 + length front) u). subst (λ n. IsUpdate relations n v) e (good (subst (λ n. IsUpdate relations n u) (sym e) g))))

pub answers_more : (front back : List SessionUpdate) (u v : SessionUpdate) → length v.answers ≡ length u.answers + 1 → answer_count (front ++ v ∷ back) ≡ answer_count (front ++ u ∷ back) + 1
answers_more front back u v e =
    let count : SessionUpdate → ℕ = λ x. length x.answers in
    let a : answer_count (front ++ v ∷ back) ≡ answer_count front + answer_count (v ∷ back) = sum_by-append count front (v ∷ back) in
    let b : answer_count (front ++ u ∷ back) ≡ answer_count front + answer_count (u ∷ back) = sum_by-append count front (u ∷ back) in
    let c : answer_count (v ∷ back) ≡ 0 + length v.answers + answer_count back = sum_by-append count (v ∷ []) back in
    let d : answer_count (u ∷ back) ≡ 0 + length u.answers + answer_count back = sum_by-append count (u ∷ []) back in
    omega arith

-- ---- the base

pub insert_all : (P : Fact → Type 0) (D : List Fact) (t : Fact) → AllByRecursion P D → P t → AllByRecursion P (insert_key fact_cmp D t)
insert_all P [] t all good = (good, tt)
insert_all P (x ∷ D) t all good = by (insert_all P D t all.1 good) (fact_cmp t x) where
  by : AllByRecursion P (insert_key fact_cmp D t) → (o : Ordering) → AllByRecursion P (match_ordering o (t ∷ x ∷ D) (x ∷ D) (x ∷ insert_key fact_cmp D t))
  by others Less = (good, all)
  by others Equal = all
  by others Greater = (all.0, others)

pub insert_longer : (D : List Fact) (t : Fact) → length (insert_key fact_cmp D t) ≤ length D + 1
insert_longer [] t = omega arith
insert_longer (x ∷ D) t = by (insert_longer D t) (fact_cmp t x) where
  by : length (insert_key fact_cmp D t) ≤ length D + 1 → (o : Ordering) → length (match_ordering o (t ∷ x ∷ D) (x ∷ D) (x ∷ insert_key fact_cmp D t)) ≤ length (x ∷ D) + 1
  by others Less = omega arith
  by others Equal = omega arith
  by others Greater = omega arith
