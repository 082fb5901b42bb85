-- The first own writes of an attempt.
use Rattle.std.proofs.Common.{◌≡◌, ap, refl, ℕ, zero, suc, List, [], ◌∷◌, map, take}
use Rattle.base_types.specs.declared.updates.Write.{Write}
use Rattle.base_types.specs.Meanings.{change_of}
use Rattle.def_chase.specs.Repository.{Change}

pub first_taken : (n : ℕ) (ws : List Write) → map change_of (take n ws) ≡ take n (map change_of ws)
first_taken zero ws = refl
first_taken (suc n) [] = refl
first_taken (suc n) (w ∷ ws) = ap (λ (cs : List Change). change_of w ∷ cs) (first_taken n ws)
