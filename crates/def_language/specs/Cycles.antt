-- Plain cycles: relations that feed one another through mappings without an unknown.
use Rattle.std.specs.Prelude.{◌≡◌, ℕ, zero, suc, ◌<◌, Bool, true, ◌&&◌, ◌||◌, ◌==◌, nat_lt, List}
use Rattle.std.specs.List.{list_any, list_all, range_with_len}
use Rattle.def_chase.specs.Mappings.{Slot, Var, Const, Pattern, Rule}

-- the term is no existential variable: the variables of the left side are those below `universal`
abbrev pub is_plain_slot : ℕ → Slot → Bool
is_plain_slot universal (Var v) = nat_lt v universal
is_plain_slot universal (Const d) = true

-- the right atom has no existential variable
abbrev pub is_plain : ℕ → Pattern → Bool
is_plain universal atom = list_all (is_plain_slot universal) atom.terms

-- an atom of the relation stands on the left of the mapping
abbrev pub stands_left : ℕ → Rule → Bool
stands_left r m = list_any (λ a. a.relation == r) m.left

-- a plain atom of the relation stands on the right of the mapping
abbrev pub stands_plain : ℕ → Rule → Bool
stands_plain r m = list_any (λ a. (a.relation == r) && is_plain m.universal a) m.right

-- relation r leads to relation s: some mapping has r on its left and s in a plain atom on its right
abbrev pub leads : List Rule → ℕ → ℕ → Bool
leads ms r s = list_any (λ m. stands_left r m && stands_plain s m) ms

-- r leads to s in one or more steps, through relations with numbers below n
pub data Path (edge : ℕ → ℕ → Bool) (n : ℕ) : ℕ → ℕ → Type 0 where
  step : (r s : ℕ) → edge r s ≡ true → Path edge n r s
  more : (r m s : ℕ) → m < n → edge r m ≡ true → Path edge n m s → Path edge n r s

-- The mappings, over n relations, have a plain cycle: some relation leads to itself in one or more steps.
abbrev pub HasPlainCycle : ℕ → List Rule → Type 0
HasPlainCycle n ms = (r : ℕ) × (r < n) × Path (leads ms) n r r

-- r leads to s in one or more steps, with only relations below number k in between
abbrev pub through : (ℕ → ℕ → Bool) → ℕ → ℕ → ℕ → Bool
through edge zero r s = edge r s
through edge (suc k) r s = through edge k r s || (through edge k r k && through edge k k s)

-- the test for a plain cycle
abbrev pub has_plain_cycle : ℕ → List Rule → Bool
has_plain_cycle n ms = list_any (λ r. through (leads ms) n r r) (range_with_len 0 n)
