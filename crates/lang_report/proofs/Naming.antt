-- The names of a base keep the order of the nulls.
use Rattle.std.proofs.Common.{◌≡◌, ◌∙◌, ℕ, zero, suc, ◌+◌, ◌<◌, ◌≤◌, Bool, true, false, List, [], ◌∷◌, length, Some, refl, sym, ap, arith, cond}
use Rattle.std.specs.Prelude.{count_by, slice_get}
use Rattle.std.specs.Cmp.{nat_cmp_is}
use Rattle.std.specs.Ordering.{is_lt, nat_cmp, ordering_then}
use Rattle.std.specs.declared.cmp.Ordering.{Ordering}
use Rattle.std.specs.declared.cmp.Ordering.TheVariants.{Less}
use Rattle.std.proofs.lemmas.Cmp.{tied_itself}
use Rattle.std.proofs.lemmas.Option.{slice_get_within}
use Rattle.def_chase.specs.Values.{NullName, Fact, null_cmp}
use Rattle.def_chase.proofs.Order.{null_total}
use Rattle.lang_report.specs.Saved.{base_null, different_nulls}
use Rattle.lang_report.proofs.Ranks.{lt_true, less_true, passing, passing_is}

-- one more where the first test passes, and so the second
grow_at : (a b : Bool) → (a ≡ true → b ≡ true) → (m n : ℕ) → m ≤ n → cond a (1 + m) m ≤ cond b (1 + n) n
grow_at true true h m n le = omega arith
grow_at true false h m n le = let t : ◌≡◌ {A = ℕ} 0 1 = ap (λ (b : Bool). cond b 1 0) (h refl) in absurd (omega (arith, t))
grow_at false true h m n le = omega arith
grow_at false false h m n le = le

less_at : (a b : Bool) → (a ≡ true → b ≡ true) → (m n : ℕ) → m < n → cond a (1 + m) m < cond b (1 + n) n
less_at true true h m n lt = omega arith
less_at true false h m n lt = let t : ◌≡◌ {A = ℕ} 0 1 = ap (λ (b : Bool). cond b 1 0) (h refl) in absurd (omega (arith, t))
less_at false true h m n lt = omega arith
less_at false false h m n lt = lt

-- no fewer pass the weaker test
no_fewer : {A : Type 0} (p q : A → Bool) → ((x : A) → p x ≡ true → q x ≡ true) → (xs : List A) → passing p xs ≤ passing q xs
no_fewer p q h [] = omega arith
no_fewer p q h (x ∷ xs) = grow_at (p x) (q x) (h x) (passing p xs) (passing q xs) (no_fewer p q h xs)

-- what is below a null is below a greater one
below_more : (m n : NullName) → null_cmp m n ≡ Less → (x : NullName) → is_lt (null_cmp x m) ≡ true → is_lt (null_cmp x n) ≡ true
below_more m n l x e = less_true (null_cmp x n) (null_total.trans x m n (lt_true (null_cmp x m) e) l)

-- fewer are below a member than below a greater null
fewer_below : (xs : List NullName) (m n : NullName) (i : ℕ) → slice_get xs i ≡ Some m → null_cmp m n ≡ Less → passing (λ x. is_lt (null_cmp x m)) xs < passing (λ x. is_lt (null_cmp x n)) xs
fewer_below [] m n i at l = let nothing : List NullName = [] in let w : i < length nothing = slice_get_within nothing i m at in absurd (omega (arith, w))
fewer_below (x ∷ xs) m n zero at l =
    let p : NullName → Bool = λ y. is_lt (null_cmp y m) in
    let q : NullName → Bool = λ y. is_lt (null_cmp y n) in
    let e : x ≡ m = cc in
    let out : cond (p x) (1 + passing p xs) (passing p xs) ≡ passing p xs = ap (λ (b : Bool). cond b (1 + passing p xs) (passing p xs)) (ap p e ∙ ap is_lt (tied_itself null_total m)) in
    let in' : cond (q x) (1 + passing q xs) (passing q xs) ≡ 1 + passing q xs = ap (λ (b : Bool). cond b (1 + passing q xs) (passing q xs)) (ap q e ∙ ap is_lt l) in
    let le : passing p xs ≤ passing q xs = no_fewer p q (below_more m n l) xs in
    omega (arith, out, in', le)
fewer_below (x ∷ xs) m n (suc i) at l =
    less_at (is_lt (null_cmp x m)) (is_lt (null_cmp x n)) (below_more m n l x) (passing (λ y. is_lt (null_cmp y m)) xs) (passing (λ y. is_lt (null_cmp y n)) xs) (fewer_below xs m n i at l)

-- a lesser null gets a lesser name
pub names_in_order : (facts : List Fact) (i : ℕ) (m n : NullName) → slice_get (different_nulls facts) i ≡ Some m → null_cmp m n ≡ Less → null_cmp (base_null (different_nulls facts) m) (base_null (different_nulls facts) n) ≡ Less
names_in_order facts i m n at l =
    let nulls : List NullName = different_nulls facts in
    let a : ℕ = count_by (λ x. is_lt (null_cmp x m)) nulls in
    let b : ℕ = count_by (λ x. is_lt (null_cmp x n)) nulls in
    let first : passing (λ x. is_lt (null_cmp x m)) nulls ≡ a = passing_is (λ x. is_lt (null_cmp x m)) nulls in
    let second : passing (λ x. is_lt (null_cmp x n)) nulls ≡ b = passing_is (λ x. is_lt (null_cmp x n)) nulls in
    let fewer : passing (λ x. is_lt (null_cmp x m)) nulls < passing (λ x. is_lt (null_cmp x n)) nulls = fewer_below nulls m n i at l in
    let lt : a + 1 < b + 1 = omega (arith, first, second, fewer) in
    ap (λ (o : Ordering). ordering_then (nat_cmp 0 0) (ordering_then o (nat_cmp 0 0))) (sym (nat_cmp_is (a + 1) (b + 1) Less lt))
