-- A look that passes mappings by, and where it ends.
use Rattle.std.proofs.Common.{◌≡◌, ◌∙◌, ℕ, zero, suc, ◌<◌, ◌≤◌, arith, ap, sym, refl, Bool, true, false, cond, List, [], ◌∷◌, drop, length, Some, None}
use Rattle.std.specs.Prelude.{◌==◌, nat_lt, slice_get}
use Rattle.std.proofs.lemmas.Bool.{ne_eqb}
use Rattle.std.proofs.lemmas.Bool.Decides.{nat_tests}
use Rattle.def_machine.specs.Trees.{Node}
use Rattle.def_chase.specs.Queries.{Present, Violation}
use Rattle.def_chase.specs.Mappings.{Rule, force}
use Rattle.def_steps.specs.Attempts.{Attempt, Ended, Done}
use Rattle.def_steps.specs.Steps.{Asking, makes, is_yes, image_in, look_at, look_from}
use Rattle.chase_update.specs.Rows.{Violating, repaired, row_tree}

-- What stands at a place comes before what stands after it.
pub here : {A : Type 0} (xs : List A) (k j : ℕ) (x : A) → j ≡ suc k → slice_get xs k ≡ Some x → x ∷ drop j xs ≡ drop k xs
here xs k j x e h = ap (λ n. x ∷ drop n xs) e ∙ at xs k h
  where
    at : {A : Type 0} {x : A} (xs : List A) (k : ℕ) → slice_get xs k ≡ Some x → x ∷ drop (suc k) xs ≡ drop k xs
    at [] zero h = cc
    at [] (suc k) h = cc
    at {x = x} (y ∷ ys) zero h = let e : x ≡ y = cc in ap (λ z. z ∷ ys) e
    at (y ∷ ys) (suc k) h = at ys k h

-- Past the end nothing is left.
pub nothing_left : {A : Type 0} (xs : List A) (k : ℕ) → None ≡ slice_get xs k → drop k xs ≡ []
nothing_left [] zero h = refl
nothing_left [] (suc k) h = refl
nothing_left (x ∷ xs) zero h = cc
nothing_left (x ∷ xs) (suc k) h = nothing_left xs k h

past : (xs : List Rule) (k : ℕ) → length xs ≤ k → drop k xs ≡ []
past [] zero h = refl
past [] (suc k) h = refl
past (x ∷ xs) zero h = absurd (omega arith)
past (x ∷ xs) (suc k) h = past xs k (omega arith)

-- Past the last mapping a look ends.
pub looks_past : (P : Attempt) (xs : List Rule) (k : ℕ) → length xs ≤ k → makes [] (Ended Done) ≡ look_from P k (drop k xs)
looks_past P xs k h = ap (look_from P k) (sym (past xs k h))

beyond : (xs : List Rule) (k : ℕ) → None ≡ slice_get xs k → length xs ≤ k
beyond [] k h = omega arith
beyond (x ∷ xs) zero h = cc
beyond (x ∷ xs) (suc k) h = let e = beyond xs k h in omega arith

pub passes_end : (P : Attempt) (xs : List Rule) (k j : ℕ) → j ≡ suc k → None ≡ slice_get xs k → look_from P k (drop k xs) ≡ look_from P j (drop j xs)
passes_end P xs k j e h =
    let l = beyond xs k h in
    sym (looks_past P xs k l) ∙ looks_past P xs j (omega arith)

-- A mapping that no update so far can have put in force is passed by.
skipped : (P : Attempt) (k : ℕ) (m : Rule) (ms : List Rule) → P.number < m.since → look_from P k (m ∷ ms) ≡ look_from P (suc k) ms
skipped P k m ms h =
    by (m.since == 0) (nat_lt P.number m.since) (look_at P k m (look_from P (suc k) ms)) (look_from P (suc k) ms)
    (Node (Present (force k)) (λ a. cond (is_yes a) (look_at P k m (look_from P (suc k) ms)) (look_from P (suc k) ms)))
    (ne_eqb m.since 0 (λ e. absurd (omega (arith, e)))) (grind (arith, nat_tests))
  where
    by : (a b : Bool) (x y z : Asking) → a ≡ false → b ≡ true → cond a x (cond b y z) ≡ y
    by a b x y z e f = ap (λ t. cond t x (cond b y z)) e ∙ ap (λ t. cond t y z) f

pub passes_by : (P : Attempt) (ms : List Rule) (k j : ℕ) (m : Rule) → j ≡ suc k → slice_get ms k ≡ Some m → P.number < m.since → look_from P k (drop k ms) ≡ look_from P j (drop j ms)
passes_by P ms k j m e found l =
    ap (look_from P k) (sym (here ms k j m e found)) ∙ (skipped P k m (drop j ms) l ∙ ap (λ n. look_from P n (drop j ms)) (sym e))

-- A mapping that is in force from the start is looked at unasked.
pub looks_at : (P : Attempt) (ms : List Rule) (k : ℕ) (m : Rule) → m.since ≡ 0 → slice_get ms k ≡ Some m → row_tree ms P (Violating k) ≡ look_from P k (m ∷ drop (suc k) ms)
looks_at P ms k m e h =
    let rest = look_from P (suc k) (drop (suc k) ms) in
    (λ i. Node (Violation k) (λ a. repaired P k (h i) (image_in a) rest))
    ∙ sym (ap (λ n. cond (n == 0) (look_at P k m rest) (cond (nat_lt P.number m.since) rest (Node (Present (force k)) (λ a. cond (is_yes a) (look_at P k m rest) rest)))) e)

-- So the look from there on asks for its first violation.
pub asks_there : (P : Attempt) (ms : List Rule) (k : ℕ) (m : Rule) → m.since ≡ 0 → slice_get ms k ≡ Some m → row_tree ms P (Violating k) ≡ look_from P k (drop k ms)
asks_there P ms k m e h = looks_at P ms k m e h ∙ ap (look_from P k) (here ms k (suc k) m refl h)
