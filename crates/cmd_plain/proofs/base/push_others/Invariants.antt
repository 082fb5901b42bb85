use Rattle.std.proofs.Common.{◌≡◌, ◌++◌, ◌∷◌, take, map, false}
use Rattle.std.specs.List.{flat_map}
use Rattle.base_types.specs.Meanings.{fact_of}
use Rattle.def_language.specs.Printing.{tuple_text}
use Rattle.cmd_plain.proofs.base.push_others.Given as goal

-- The tuples before the place have been added.
abbrev pub invariant-loop-tuple : goal.invariant-loop-tuple
invariant-loop-tuple l = l.line.items ≡ l.initial.line.items ++ flat_map (λ t. 44 ∷ 32 ∷ tuple_text l.schema false t) (map fact_of (take l.tuple-index l.tuples))
