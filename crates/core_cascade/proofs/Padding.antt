-- Lists of causes that are filled up with none.
use Rattle.std.proofs.Common.{◌≡◌, ◌∙◌, ap, refl, sym, ℕ, zero, suc, ◌+◌, ◌-◌, ◌≤◌, List, [], ◌∷◌, ◌++◌, Option, Some, None, is_some, false, subst, append_assoc, append-nil, length, drop, map, add-one, arith}
use Rattle.std.proofs.lemmas.List.{length-append, length-drop, map-append}
use Rattle.core_entries.specs.declared.causes.Cause.{Cause as CauseOfProgram}
use Rattle.def_chase.proofs.Bools.{differ}
use Rattle.def_chase.specs.Mappings.{Rule}
use Rattle.core_queue.specs.declared.updates.QueuedUpdate.{QueuedUpdate}
use Rattle.core_cascade.specs.Meanings.{all_found, found_of, no_cause, found_for}
use Rattle.core_cascade.specs.Walks.{nones, padded}

so_many : (n : ℕ) → length (nones n) ≡ n
so_many zero = refl
so_many (suc n) = ap suc (so_many n)

one_more : (n : ℕ) → None ∷ nones n ≡ nones n ++ None ∷ []
one_more zero = refl
one_more (suc n) = ap (λ xs. None ∷ xs) (one_more n)

pub padded_long : (k : ℕ) (xs : List (Option CauseOfProgram)) → length xs ≤ k → length (padded k xs) ≡ k
padded_long k xs l =
    let all : length xs + (k - length xs) ≡ k = omega (arith, l) in
    length-append xs (nones (k - length xs)) ∙ ap (λ n. length xs + n) (so_many (k - length xs)) ∙ all

-- Nothing is filled up where there are as many.
pub padded_full : (k : ℕ) (xs : List (Option CauseOfProgram)) → length xs ≡ k → padded k xs ≡ xs
padded_full k xs l =
    let none : k - length xs ≡ 0 = omega (arith, l) in
    ap (λ n. xs ++ nones n) none ∙ append-nil xs

-- None is put where it would be filled up.
pub padded_more : (k : ℕ) (xs ys : List (Option CauseOfProgram)) → suc (length xs) ≤ k → ys ≡ xs ++ None ∷ [] → padded k ys ≡ padded k xs
padded_more k xs ys l e =
    let left : k - length xs ≡ suc (k - suc (length xs)) = omega (arith, l) in
    let long : length ys ≡ suc (length xs) = ap length e ∙ length-append xs (None ∷ []) ∙ add-one (length xs) in
    (λ i. e i ++ nones (k - long i)) ∙ append_assoc xs (None ∷ []) (nones (k - suc (length xs))) ∙ ap (λ n. xs ++ nones n) (sym left)

-- One more without a cause.
pub padded_none : (k : ℕ) (xs : List (Option CauseOfProgram)) → length xs ≤ k → padded (suc k) xs ≡ padded k xs ++ None ∷ []
padded_none k xs l =
    let more : suc k - length xs ≡ suc (k - length xs) = omega (arith, l) in
    ap (λ n. xs ++ nones n) more ∙ ap (λ ys. xs ++ ys) (one_more (k - length xs)) ∙ sym (append_assoc xs (nones (k - length xs)) (None ∷ []))

pub padded_still : (k : ℕ) (xs : List (Option CauseOfProgram)) (x : Option CauseOfProgram) → length xs ≤ k → is_some x ≡ false → padded (suc k) xs ≡ padded k xs ++ x ∷ []
padded_still k xs None l e = padded_none k xs l
padded_still k xs (Some x) l e = differ (sym e)

-- One more with what is put there.
pub put_long : (k : ℕ) (xs ys : List (Option CauseOfProgram)) (x : Option CauseOfProgram) → length xs ≤ k → ys ≡ padded k xs ++ x ∷ [] → length ys ≡ suc k
put_long k xs ys x l e =
    let one : k + 1 ≡ suc k = omega arith in
    ap length e ∙ length-append (padded k xs) (x ∷ []) ∙ ap (λ n. n + 1) (padded_long k xs l) ∙ one

pub padded_put : (k : ℕ) (xs ys : List (Option CauseOfProgram)) (x : Option CauseOfProgram) → length xs ≤ k → ys ≡ padded k xs ++ x ∷ [] → padded (suc k) ys ≡ padded k xs ++ x ∷ []
padded_put k xs ys x l e = padded_full (suc k) ys (put_long k xs ys x l e) ∙ e

module _ (ms : List Rule) (B : ℕ) where
  -- Those after the last that was found have none either way.
  rest_none : (n : ℕ) (rs : List QueuedUpdate) → n ≤ length rs → all_found ms B (nones n) ++ map (no_cause ms B) (drop n rs) ≡ map (no_cause ms B) rs
  rest_none zero rs l = refl
  rest_none (suc n) [] l = absurd (omega (arith, l))
  rest_none (suc n) (r ∷ rs) l = ap (λ zs. None ∷ zs) (rest_none n rs (omega (arith, l)))

  drop_none : (j : ℕ) → drop {A = QueuedUpdate} j [] ≡ []
  drop_none zero = refl
  drop_none (suc j) = refl

  drop_on : (i j : ℕ) (rs : List QueuedUpdate) → drop (i + j) rs ≡ drop j (drop i rs)
  drop_on zero j rs = let same : 0 + j ≡ j = omega arith in ap (λ k. drop k rs) same
  drop_on (suc i) j [] = drop_none (suc i + j) ∙ sym (drop_none j)
  drop_on (suc i) j (r ∷ rs) = let same : suc i + j ≡ suc (i + j) = omega arith in ap (λ k. drop k (r ∷ rs)) same ∙ drop_on i j rs

  pub found_padded : (k : ℕ) (rs : List QueuedUpdate) (xs : List (Option CauseOfProgram)) → length xs ≤ k → k ≤ length rs → found_for ms B rs (padded k xs) ≡ found_for ms B rs xs
  found_padded k rs xs l m =
      let n : ℕ = k - length xs in
      let all : k ≡ length xs + n = omega (arith, l) in
      let few : n ≤ length (drop (length xs) rs) = few_left k (length xs) rs l m in
      ap (λ j. all_found ms B (padded k xs) ++ map (no_cause ms B) (drop j rs)) (padded_long k xs l ∙ all)
      ∙ ap (λ zs. zs ++ map (no_cause ms B) (drop (length xs + n) rs)) (map-append (found_of ms B) xs (nones n))
      ∙ append_assoc (all_found ms B xs) (all_found ms B (nones n)) (map (no_cause ms B) (drop (length xs + n) rs))
      ∙ ap (λ ys. all_found ms B xs ++ (all_found ms B (nones n) ++ map (no_cause ms B) ys)) (drop_on (length xs) n rs)
      ∙ ap (λ zs. all_found ms B xs ++ zs) (rest_none n (drop (length xs) rs) few)
    where
      few_left : (k i : ℕ) (rs : List QueuedUpdate) → i ≤ k → k ≤ length rs → k - i ≤ length (drop i rs)
      few_left k i rs l m = subst (λ (j : ℕ). k - i ≤ j) (sym (length-drop i rs)) (omega (arith, l, m))
