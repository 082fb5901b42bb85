use Rattle.std.proofs.Common.{◌≡◌, ◌++◌, ◌∷◌, take, map}
use Rattle.std.specs.List.{flat_map}
use Rattle.base_types.specs.Meanings.{datum_of}
use Rattle.def_language.specs.Printing.{value_text}
use Rattle.lang_schema.proofs.printing.push_others.Given as goal

abbrev pub invariant-loop-value : goal.invariant-loop-value
invariant-loop-value l = l.out.items ≡ l.initial.out.items ++ flat_map (λ d. 44 ∷ 32 ∷ value_text l.inner d) (map datum_of (take l.value-index l.values))
