-- The closure is exactly the paths, and the test for a plain cycle decides whether there is one.
use Rattle.std.proofs.Common.{◌≡◌, ℕ, zero, suc, ◌+◌, ◌<◌, ◌≤◌, Bool, true, false, refl, ap, ◌∙◌, arith, ◌⊎◌, inl, inr}
use Rattle.std.specs.Prelude.{◌&&◌, ◌||◌, List, ◌++◌, Decides}
use Rattle.std.specs.List.{list_any, range_with_len}
use Rattle.std.proofs.lemmas.List.Folds.{list_any-append}
use Rattle.def_chase.specs.Mappings.{Rule}
use Rattle.std.proofs.lemmas.Bool.{or_cases, and_parts, cases_lt}
use Rattle.def_language.specs.Cycles.{Path, step, more, through, leads, stands_left, stands_plain, HasPlainCycle, has_plain_cycle}

or_left : (a b : Bool) → a ≡ true → (a || b) ≡ true
or_left a b e = rw e refl

or_right : (a b : Bool) → b ≡ true → (a || b) ≡ true
or_right true b e = refl
or_right false b e = e

and_both : (a b : Bool) → a ≡ true → b ≡ true → (a && b) ≡ true
and_both a b e f = rw (e, f) refl

-- what a step of the closure adds
cases : (edge : ℕ → ℕ → Bool) (k r s : ℕ) → through edge (suc k) r s ≡ true → (through edge k r s ≡ true) ⊎ ((through edge k r k ≡ true) × (through edge k k s ≡ true))
cases edge k r s e = elim (or_cases (through edge k r s) (through edge k r k && through edge k k s) e) [ inl a ↦ inl a | inr b ↦ inr (and_parts (through edge k r k) (through edge k k s) b) ]

old : (edge : ℕ → ℕ → Bool) (k r s : ℕ) → through edge k r s ≡ true → through edge (suc k) r s ≡ true
old edge k r s e = or_left (through edge k r s) (through edge k r k && through edge k k s) e

by_k : (edge : ℕ → ℕ → Bool) (k r s : ℕ) → through edge k r k ≡ true → through edge k k s ≡ true → through edge (suc k) r s ≡ true
by_k edge k r s a b = or_right (through edge k r s) (through edge k r k && through edge k k s) (and_both (through edge k r k) (through edge k k s) a b)

-- k is between, or the place is below k
joins_below : (edge : ℕ → ℕ → Bool) (k r m s : ℕ) → ((x y : ℕ) → through edge k x m ≡ true → through edge k m y ≡ true → through edge k x y ≡ true)
    → (through edge k r m ≡ true) ⊎ ((through edge k r k ≡ true) × (through edge k k m ≡ true))
    → (through edge k m s ≡ true) ⊎ ((through edge k m k ≡ true) × (through edge k k s ≡ true)) → through edge (suc k) r s ≡ true
joins_below edge k r m s ih (inl a) (inl b) = old edge k r s (ih r s a b)
joins_below edge k r m s ih (inl a) (inr b) = by_k edge k r s (ih r k a b.0) b.1
joins_below edge k r m s ih (inr a) (inl b) = by_k edge k r s a.0 (ih k s a.1 b)
joins_below edge k r m s ih (inr a) (inr b) = by_k edge k r s a.0 b.1

to_k : (edge : ℕ → ℕ → Bool) (k r : ℕ) → (through edge k r k ≡ true) ⊎ ((through edge k r k ≡ true) × (through edge k k k ≡ true)) → through edge k r k ≡ true
to_k edge k r (inl a) = a
to_k edge k r (inr a) = a.0

from_k : (edge : ℕ → ℕ → Bool) (k s : ℕ) → (through edge k k s ≡ true) ⊎ ((through edge k k k ≡ true) × (through edge k k s ≡ true)) → through edge k k s ≡ true
from_k edge k s (inl a) = a
from_k edge k s (inr a) = a.1

at_k : (edge : ℕ → ℕ → Bool) (k r m s : ℕ) → m ≡ k → through edge (suc k) r m ≡ true → through edge (suc k) m s ≡ true → through edge (suc k) r s ≡ true
at_k edge k r m s e a b =
    let a' : through edge (suc k) r k ≡ true = rw e at a in
    let b' : through edge (suc k) k s ≡ true = rw e at b in
    by_k edge k r s (to_k edge k r (cases edge k r k a')) (from_k edge k s (cases edge k k s b'))

joins_suc : (edge : ℕ → ℕ → Bool) (k r m s : ℕ) → m < suc k → (m < k) ⊎ (k ≤ m) → (m < k → (x y : ℕ) → through edge k x m ≡ true → through edge k m y ≡ true → through edge k x y ≡ true)
    → through edge (suc k) r m ≡ true → through edge (suc k) m s ≡ true → through edge (suc k) r s ≡ true
joins_suc edge k r m s lt (inl below) ih a b = joins_below edge k r m s (ih below) (cases edge k r m a) (cases edge k m s b)
joins_suc edge k r m s lt (inr above) ih a b = at_k edge k r m s (omega arith) a b

pub joins : (edge : ℕ → ℕ → Bool) (k r m s : ℕ) → m < k → through edge k r m ≡ true → through edge k m s ≡ true → through edge k r s ≡ true
joins edge zero r m s lt a b = absurd (omega arith)
joins edge (suc k) r m s lt a b = joins_suc edge k r m s lt (cases_lt m k) (λ below x y. joins edge k x m y below) a b

edges : (edge : ℕ → ℕ → Bool) (k r s : ℕ) → edge r s ≡ true → through edge k r s ≡ true
edges edge zero r s e = e
edges edge (suc k) r s e = old edge k r s (edges edge k r s e)

pub all_paths : (edge : ℕ → ℕ → Bool) (n r s : ℕ) → Path edge n r s → through edge n r s ≡ true
all_paths edge n r s (step _ _ e) = edges edge n r s e
all_paths edge n r s (more _ m _ lt e p) = joins edge n r m s lt (edges edge n r m e) (all_paths edge n m s p)

append : (edge : ℕ → ℕ → Bool) (n r m s : ℕ) → Path edge n r m → m < n → Path edge n m s → Path edge n r s
append edge n r m s (step _ _ e) lt q = more r m s lt e q
append edge n r m s (more _ x _ lt' e p) lt q = more r x s lt' e (append edge n x m s p lt q)

pub only_paths : (edge : ℕ → ℕ → Bool) (n k r s : ℕ) → k ≤ n → through edge k r s ≡ true → Path edge n r s
only_paths edge n zero r s le e = step r s e
only_paths edge n (suc k) r s le e = by_cases (cases edge k r s e) (only_paths edge n k r s (omega arith)) (only_paths edge n k r k (omega arith)) (only_paths edge n k k s (omega arith)) where
  by_cases : (through edge k r s ≡ true) ⊎ ((through edge k r k ≡ true) × (through edge k k s ≡ true)) → (through edge k r s ≡ true → Path edge n r s) → (through edge k r k ≡ true → Path edge n r k) → (through edge k k s ≡ true → Path edge n k s) → Path edge n r s
  by_cases (inl a) f g h = f a
  by_cases (inr a) f g h = append edge n r k s (g a.0) (omega arith) (h a.1)

pub paths_decided : (edge : ℕ → ℕ → Bool) (n r s : ℕ) → (through edge n r s ≡ true → Path edge n r s) × (Path edge n r s → through edge n r s ≡ true)
paths_decided edge n r s = (only_paths edge n n r s (omega arith), all_paths edge n r s)

found_in_range : (p : ℕ → Bool) (a n : ℕ) → list_any p (range_with_len a n) ≡ true → (r : ℕ) × (r < a + n) × (p r ≡ true)
found_in_range p a zero e = let f : ⊥ = cc in absurd f
found_in_range p a (suc n) e = by (or_cases (p a) (list_any p (range_with_len (a + 1) n)) e) (found_in_range p (a + 1) n) where
  by : (p a ≡ true) ⊎ (list_any p (range_with_len (a + 1) n) ≡ true) → (list_any p (range_with_len (a + 1) n) ≡ true → (r : ℕ) × (r < a + 1 + n) × (p r ≡ true)) → (r : ℕ) × (r < a + suc n) × (p r ≡ true)
  by (inl here) others = (a, omega arith, here)
  by (inr there) others = let x = others there in (x.0, omega (arith, x.1), x.2)

in_range : (p : ℕ → Bool) (a n r : ℕ) → a ≤ r → r < a + n → p r ≡ true → list_any p (range_with_len a n) ≡ true
in_range p a zero r low high e = absurd (omega arith)
in_range p a (suc n) r low high e = by (λ less. in_range p (a + 1) n r (omega arith) (omega arith) e) (cases_lt a r) where
  by : (a < r → list_any p (range_with_len (a + 1) n) ≡ true) → (a < r) ⊎ (r ≤ a) → (p a || list_any p (range_with_len (a + 1) n)) ≡ true
  by others (inl less) = or_right (p a) (list_any p (range_with_len (a + 1) n)) (others less)
  by others (inr least) = let same : a ≡ r = omega arith in or_left (p a) (list_any p (range_with_len (a + 1) n)) (ap p same ∙ e)

pub cycle_decided : (n : ℕ) (ms : List Rule) → Decides (has_plain_cycle n ms) (HasPlainCycle n ms)
cycle_decided n ms = (there, found) where
  there : has_plain_cycle n ms ≡ true → HasPlainCycle n ms
  there e = let x = found_in_range (λ r. through (leads ms) n r r) 0 n e in (x.0, omega (arith, x.1), only_paths (leads ms) n n x.0 x.0 (omega arith) x.2)

  found : HasPlainCycle n ms → has_plain_cycle n ms ≡ true
  found c = in_range (λ r. through (leads ms) n r r) 0 n c.0 (omega arith) (omega (arith, c.1)) (all_paths (leads ms) n c.0 c.0 c.2)

-- what leads to another still does where there are more edges
more_edges : (e f : ℕ → ℕ → Bool) (n r s : ℕ) → ((x y : ℕ) → e x y ≡ true → f x y ≡ true) → Path e n r s → Path f n r s
more_edges e f n r s grows (step _ _ edge) = step r s (grows r s edge)
more_edges e f n r s grows (more _ m _ lt edge p) = more r m s lt (grows r m edge) (more_edges e f n m s grows p)

-- a plain cycle of some mappings is one of more
pub cycle_grows : (n : ℕ) (ms others : List Rule) → HasPlainCycle n ms → HasPlainCycle n (ms ++ others)
cycle_grows n ms others c =
    let leads_too : (x y : ℕ) → leads ms x y ≡ true → leads (ms ++ others) x y ≡ true = λ x y e.
    list_any-append (λ m. stands_left x m && stands_plain y m) ms others ∙ or_left (leads ms x y) (leads others x y) e in
    (c.0, c.1, more_edges (leads ms) (leads (ms ++ others)) n c.0 c.0 leads_too c.2)

-- mappings without a plain cycle pass the test
pub no_cycle_found : (n : ℕ) (ms : List Rule) → (HasPlainCycle n ms → ⊥) → has_plain_cycle n ms ≡ false
no_cycle_found n ms none = by (has_plain_cycle n ms) refl where
  by : (b : Bool) → has_plain_cycle n ms ≡ b → b ≡ false
  by true e = absurd (none ((cycle_decided n ms).0 e))
  by false e = refl
