-- The relations of writes.
use Rattle.std.specs.Prelude.{◌≡◌, ◌||◌, ℕ, Bool, List}
use Rattle.std.specs.List.{list_any}
use Rattle.def_chase.specs.Repository.{Change}
use Rattle.def_steps.specs.Chase.{relation_of}

-- One of the writes is in a relation that passes the test.
abbrev pub any_of : (ℕ → Bool) → List Change → Bool
any_of p ws = list_any (λ w. p (relation_of w)) ws

-- The relations are exactly the relations of these writes, in any order.
abbrev pub AreRelationsOf : List Change → List ℕ → Type 0
AreRelationsOf ws rs = (p : ℕ → Bool) → list_any p rs ≡ any_of p ws

-- The new relations are the old ones and r.
abbrev pub HasOneMore : List ℕ → ℕ → List ℕ → Type 0
HasOneMore old r new = (p : ℕ → Bool) → list_any p new ≡ (list_any p old || p r)

-- The new relations are the old ones and the relations of the writes.
abbrev pub HasMore : List ℕ → List Change → List ℕ → Type 0
HasMore old ws new = (p : ℕ → Bool) → list_any p new ≡ (list_any p old || any_of p ws)
