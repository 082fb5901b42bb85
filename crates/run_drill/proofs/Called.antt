-- The labels and curators of drawn updates are names, and no label comes twice.
use Rattle.std.proofs.Common.{◌≡◌, ap, refl, ℕ, zero, suc, ◌+◌, ◌-◌, ◌<◌, ◌≤◌, ◌%◌, ◌^◌, Bool, true, false, ◌&&◌, ◌||◌, List, [], ◌∷◌, ◌++◌, arith}
use Rattle.std.specs.Prelude.{nat_le}
use Rattle.std.specs.Fmt.{decimal}
use Rattle.std.specs.List.{list_all}
use Rattle.std.proofs.lemmas.Bool.Decides.{nat_tests}
use Rattle.std.proofs.lemmas.Nat.{mod_below}
use Rattle.std.proofs.lemmas.Fmt.{decimal_by_steps, decimal_injective}
use Rattle.def_language.specs.Bytes.{continues_name, begins_name, is_digit}
use Rattle.def_language.specs.Names.{Name, same_name, is_one_of}
use Rattle.def_language.specs.Sessions.{labels}
use Rattle.def_language.specs.Validity.{IsName, AreNew, AreNames}
use Rattle.run_drill.proofs.Names.{same_is}
use Rattle.run_drill.specs.Drilled.{label, curator, after_update, updates_from}

or_true : (a b : Bool) → b ≡ true → (a || b) ≡ true
or_true true b e = refl
or_true false b e = e

digit_continues : (d : ℕ) → d < 10 → continues_name (48 + d) ≡ true
digit_continues d few =
    let low : nat_le 48 (48 + d) ≡ true = grind (arith, nat_tests) in
    let high : nat_le (48 + d) 57 ≡ true = grind (arith, nat_tests) in
    or_true (begins_name (48 + d)) (is_digit (48 + d)) (λ i. low i && high i)

all_join : (p : ℕ → Bool) (xs ys : List ℕ) → list_all p xs ≡ true → list_all p ys ≡ true → list_all p (xs ++ ys) ≡ true
all_join p [] ys e f = f
all_join p (x ∷ xs) ys e f = by (p x) (λ g. all_join p xs ys g f) e
  where
    by : (b : Bool) → (list_all p xs ≡ true → list_all p (xs ++ ys) ≡ true) → (b && list_all p xs) ≡ true → (b && list_all p (xs ++ ys)) ≡ true
    by true rest e = rest e
    by false rest e = e

one_digit : (d : ℕ) → d < 10 → list_all continues_name ((48 + d) ∷ []) ≡ true
one_digit d few = ap (λ b. b && true) (digit_continues d few)

digits_continue : (n : ℕ) → n < 2 ^ 64 → list_all continues_name (decimal n) ≡ true
digits_continue n low =
    decimal_by_steps (λ k ds. list_all continues_name ds ≡ true) one_digit
    (λ k ds more e. all_join continues_name ds ((48 + k % 10) ∷ []) e (one_digit (k % 10) (mod_below k 10 (omega arith)))) n low

pub label_named : (n : ℕ) → n < 2 ^ 64 → IsName (label n)
label_named n low = digits_continue n low

pub curator_named : (n : ℕ) → IsName (curator n)
curator_named n = let few = mod_below (n - 1) 12 (omega arith) in digits_continue ((n - 1) % 12) (omega (arith, few))

-- Two labels are the same only where the numbers are.
labels_differ : (j n : ℕ) → j < 2 ^ 64 → n < 2 ^ 64 → (j ≡ n → ⊥) → same_name (label j) (label n) ≡ false
labels_differ j n a b apart = by (same_name (label j) (label n)) refl
  where
    tail : List ℕ → List ℕ
    tail [] = []
    tail (x ∷ xs) = xs

    by : (c : Bool) → same_name (label j) (label n) ≡ c → c ≡ false
    by true e = absurd (apart (decimal_injective j n a b (ap tail (same_is (label j) (label n) e))))
    by false e = refl

-- The names stand before number n: none of them is a label from there on.
abbrev AreBefore : ℕ → List Name → Type 0
AreBefore n names = (j : ℕ) → n ≤ j → j < 2 ^ 64 → is_one_of names (label j) ≡ false

one_after : (names : List Name) (m x : Name) → is_one_of names m ≡ false → same_name m x ≡ false → is_one_of (names ++ x ∷ []) m ≡ false
one_after [] m x e f = ap (λ b. b || false) f
one_after (y ∷ names) m x e f = by (same_name m y) (λ g. one_after names m x g f) e
  where
    by : (b : Bool) → (is_one_of names m ≡ false → is_one_of (names ++ x ∷ []) m ≡ false) → (b || is_one_of names m) ≡ false → (b || is_one_of (names ++ x ∷ []) m) ≡ false
    by true rest e = e
    by false rest e = rest e

before_on : (n : ℕ) (names : List Name) → n < 2 ^ 64 → AreBefore n names → AreBefore (n + 1) (names ++ label n ∷ [])
before_on n names low before j after high =
    one_after names (label j) (label n) (before j (omega (arith, after)) high)
    (labels_differ j n high low (λ e. let same : j ≡ n = e in omega (arith, after, same)))

new_labels : (k n x : ℕ) (names : List Name) → n + k < 2 ^ 64 → AreBefore n names → AreNew names (labels (updates_from n k x))
new_labels zero n x names few before = tt
new_labels (suc k) n x names few before = (
  label_named n (omega (arith, few)),
  before n (omega arith) (omega (arith, few)),
  new_labels k (n + 1) (after_update x) (names ++ label n ∷ []) (omega (arith, few)) (before_on n names (omega (arith, few)) before),
)

pub labels_are_names : (k x : ℕ) → k ≤ 1000 → AreNames (labels (updates_from 1 k x))
labels_are_names k x few = new_labels k 1 x [] (omega (arith, few)) (λ j a b. refl)
