use Rattle.std.proofs.Common.{◌≡◌, map, take}
use Rattle.def_chase.specs.Specific.{image_of}
use Rattle.base_types.specs.Meanings.{datum_of, fact_of}
use Rattle.base_types.specs.Maps.{images_of}
use Rattle.chase_unifier.specs.Moves.{moving}
use Rattle.chase_unifier.proofs.specific.specific_by.Given as goal

-- The nulls that were gone over have their images.
abbrev pub invariant-loop-value : goal.invariant-loop-value
invariant-loop-value l = images_of l.sub ≡ moving (image_of (fact_of l.tuple) (fact_of l.specific)) (map datum_of (take l.value-index l.value-items))
