-- How a look goes on that passes mappings.
use Rattle.std.specs.Prelude.{◌≡◌, ℕ, Bool, List, [], drop}
use Rattle.def_chase.specs.Mappings.{Rule}
use Rattle.def_chase.specs.Queries.{Query, Reply}
use Rattle.def_steps.specs.Attempts.{Attempt, Ended, Done}
use Rattle.def_steps.specs.Steps.{makes, look_from}
use Rattle.chase_update.specs.Rows.{Row, Violating, goes_on, row_tree}
use Rattle.chase_update.specs.Settled.{FindsNone, IsShorter}
use Rattle.chase_update.specs.Logged.{IsLogged}
use Rattle.chase_query.specs.Meanings.{Read}

-- For an update of this number the look from i on is the same as the look from j on.
abbrev pub SameLook : List Rule → ℕ → ℕ → ℕ → Type 0
SameLook ms number i j = (P : Attempt) → P.number ≡ number → look_from P i (drop i ms) ≡ look_from P j (drop j ms)

-- The look from place `from` on finds no mapping that may be in force, so the attempt is done.
abbrev pub EndsFrom : List Rule → ℕ → ℕ → Type 0
EndsFrom ms number from = (P : Attempt) → P.number ≡ number → makes [] (Ended Done) ≡ look_from P from (drop from ms)

-- The look from place `from` on first asks for a violation of mapping n.
abbrev pub AsksNext : List Rule → ℕ → ℕ → ℕ → Type 0
AsksNext ms number from n = (P : Attempt) → P.number ≡ number → row_tree ms P (Violating n) ≡ look_from P from (drop from ms)

-- With the answer the look goes on from r to r'.
abbrev pub LooksOn : List Rule → ℕ → Row → Reply → Row → Type 0
LooksOn ms number r a r' = (P : Attempt) → P.number ≡ number → row_tree ms P r' ≡ goes_on ms P r a

-- The look may pass from r to r': if the mappings with a mark have no violation, it has the same result, with no more queries.
abbrev pub Passes : List Rule → List Bool → ℕ → Row → Row → Type 0
Passes ms marks number r r' =
    (val : Query → Reply) (P : Attempt) → FindsNone val marks → P.number ≡ number → IsShorter val (row_tree ms P r) (row_tree ms P r')

-- The look may pass from r to r', and the logged reads agree: the reads `before` followed by those of the look from r are the
-- reads `after` followed by those of the look from r'. The attempt had made n writes.
abbrev pub PassesLogged : List Rule → List Bool → ℕ → ℕ → Row → List Read → Row → List Read → Type 0
PassesLogged ms marks number n r before r' after =
    (val : Query → Reply) (P : Attempt) → FindsNone val marks → P.number ≡ number → IsLogged val n (row_tree ms P r) before (row_tree ms P r') after
