use Rattle.std.proofs.Common.{◌≡◌, map, take}
use Rattle.def_chase.specs.Unifier.{unifier}
use Rattle.base_types.specs.Meanings.{datum_of, fact_of}
use Rattle.base_types.specs.Maps.{images_of}
use Rattle.chase_unifier.specs.Moves.{moving}
use Rattle.chase_unifier.proofs.unifying.unifier.Given as goal

-- The nulls that were gone over have the ends of their walks.
abbrev pub invariant-loop-value : goal.invariant-loop-value
invariant-loop-value l = images_of l.sub ≡ moving (unifier (fact_of l.tuple) (fact_of l.specific)) (map datum_of (take l.value-index l.value-items))
