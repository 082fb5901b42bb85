use Rattle.std.proofs.Common.{◌≡◌, map, take}
use Rattle.std.specs.List.{flat_map}
use Rattle.base_types.specs.Meanings.{fact_of}
use Rattle.def_steps.specs.Rewriting.{in_order}
use Rattle.chase_repair.proofs.unifying.all_found.Given as goal

-- The set has the tuples of the answers so far.
abbrev pub invariant-loop-tuples : goal.invariant-loop-tuples
invariant-loop-tuples l = map fact_of l.set.keys ≡ in_order (flat_map (λ a. map fact_of a.items) (take l.tuples-index l.tuples-items))
