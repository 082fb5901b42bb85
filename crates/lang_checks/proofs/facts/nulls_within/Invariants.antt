use Rattle.std.proofs.Common.{◌≡◌, drop, map}
use Rattle.base_types.specs.Meanings.{datum_of}
use Rattle.def_language.specs.Meaning.{nulls_within}
use Rattle.lang_checks.proofs.facts.nulls_within.Given as goal

abbrev pub invariant-loop-value : goal.invariant-loop-value
invariant-loop-value l = nulls_within l.most (map datum_of (drop l.value-index l.values)) ≡ nulls_within l.most (map datum_of l.values)
