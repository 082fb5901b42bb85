-- Lists of writes of which only a first part was made.
use Rattle.std.specs.Prelude.{ℕ, List, map, take}
use Rattle.def_chase.specs.Repository.{Change}
use Rattle.base_types.specs.Meanings.{change_of}
use Rattle.base_types.specs.declared.updates.Write.{Write}

-- The property holds of the first n writes, for some number n.
abbrev pub HoldsOfFirst : (List Change → Type 0) → List Write → Type 0
HoldsOfFirst p writes = (n : ℕ) × p (map change_of (take n writes))
