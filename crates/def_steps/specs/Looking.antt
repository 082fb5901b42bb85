-- The violation that a look finds: the first of a mapping in force.
use Rattle.std.specs.Prelude.{◌≡◌, ℕ, suc, nat_lt, true, false, if◌then◌else◌, List, [], ◌∷◌, Option, Some, None}
use Rattle.def_chase.specs.Values.{Fact}
use Rattle.def_chase.specs.Repository.{Change}
use Rattle.def_chase.specs.Mappings.{Rule, Holds, in_force}
use Rattle.def_chase.specs.Violations.{Scope, first_violation}
use Rattle.def_chase.specs.Queries.{scope_at}

-- Update u looks at every mapping whose `since` is not above u. Each of these from number n on that is in force in D holds there.
abbrev pub LookedHold : ℕ → ℕ → List Rule → List Fact → Type 0
LookedHold u n [] D = Unit {0}
LookedHold u n (m ∷ ms) D = (nat_lt u m.since ≡ false → in_force n m D ≡ true → Holds m D) × LookedHold u (suc n) ms D

-- No mapping whose `since` is above u, from number n on, is in force in D.
abbrev pub NoneLater : ℕ → ℕ → List Rule → List Fact → Type 0
NoneLater u n [] D = Unit {0}
NoneLater u n (m ∷ ms) D = (nat_lt u m.since ≡ true → in_force n m D ≡ false) × NoneLater u (suc n) ms D

-- The number of the mapping and the image, if there is one; otherwise the rest.
abbrev pub found_or : ℕ → Option (List Fact) → Option (ℕ × List Fact) → Option (ℕ × List Fact)
found_or n None rest = rest
found_or n (Some image) rest = Some (n, image)

-- The first violation in E, within the scope, of a mapping in force in E: the number of the earliest mapping that has one, and
-- its least image. The first mapping of the list has number n.
abbrev pub first_in_force : Scope → List Change → ℕ → List Rule → List Fact → Option (ℕ × List Fact)
first_in_force scope own n [] E = None
first_in_force scope own n (m ∷ ms) E =
    if in_force n m E then found_or n (first_violation (scope_at scope own n) own m E) (first_in_force scope own (suc n) ms E)
    else first_in_force scope own (suc n) ms E
