-- Going over a run.
use Rattle.std.proofs.Common.{◌≡◌, ℕ, zero, suc, ◌-◌, ◌≤◌, ap, refl, sym, ◌∙◌, List, [], ◌∷◌, ◌++◌, length, map, take, true, false, not, cond, arith}
use Rattle.std.specs.Prelude.{◌==◌}
use Rattle.base_types.specs.Meanings.{fact_of}
use Rattle.base_types.specs.declared.tuples.Tuple.{Tuple}
use Rattle.def_chase.specs.Repository.{has}
use Rattle.def_chase.specs.Values.{Fact}
use Rattle.def_chase.proofs.Bools.{differ}
use Rattle.base_tree.specs.Few.{Batch, with_first}
use Rattle.set_facts.specs.Runs.{left_of}

-- ---- what is left

module _ (taken D rest whole : List Fact) (t : Fact) (next : D ≡ t ∷ rest) (same : left_of taken D ≡ whole) where
  pub passed_by : true ≡ has taken t → left_of taken rest ≡ whole
  passed_by e = ap (λ b. cond (not b) (t ∷ left_of taken rest) (left_of taken rest)) e ∙ sym (ap (left_of taken) next) ∙ same

-- ---- a few

take_none : {X : Type 0} (n : ℕ) → ◌≡◌ {A = List X} (take n []) []
take_none zero = refl
take_none (suc n) = refl

module _ (t : Tuple) (rest : List Fact) where
  joined : (k : ℕ) (ys : List Tuple) → map fact_of (ys ++ t ∷ []) ++ take k rest ≡ map fact_of ys ++ fact_of t ∷ take k rest
  joined k [] = refl
  joined k (y ∷ ys) = ap (λ l. fact_of y ∷ l) (joined k ys)

  one_put : (ys : List Tuple) (m : ℕ) → 1 ≤ m → map fact_of (ys ++ take m (t ∷ [])) ++ take (m - 1) rest ≡ map fact_of ys ++ take m (fact_of t ∷ rest)
  one_put ys zero h = absurd (omega (arith, h))
  one_put ys (suc k) h =
      let less : suc k - 1 ≡ k = omega arith in
      ap (λ l. map fact_of (ys ++ t ∷ l) ++ take (suc k - 1) rest) (take_none k) ∙ ap (λ m. map fact_of (ys ++ t ∷ []) ++ take m rest) less ∙ joined k ys

-- With one more tuple after them they and what is to come are what they were.
pub few_more : (few more : Batch Tuple) (t : Tuple) (rest left : List Fact) → left ≡ fact_of t ∷ rest → 1 ≤ few.room → more ≡ with_first few (t ∷ [])
    → (map fact_of more.left ++ take more.room rest ≡ map fact_of few.left ++ take few.room left) × (more.room - length rest ≡ few.room - length left)
few_more few more t rest left next room is =
    let r : more.room ≡ few.room - 1 = ap (λ (b : Batch Tuple). b.room) is in
    let l : length left ≡ suc (length rest) = ap (λ (D : List Fact). length D) next in
    (ap (λ (b : Batch Tuple). map fact_of b.left ++ take b.room rest) is ∙ one_put t rest few.left few.room room ∙ ap (λ (D : List Fact). map fact_of few.left ++ take few.room D) (sym next), omega (arith, r, l))

pub room_left : (n : ℕ) → false ≡ (n == 0) → 1 ≤ n
room_left zero e = differ e
room_left (suc n) e = omega arith
