use Rattle.std.proofs.Common.{◌≡◌, map, drop}
use Rattle.base_types.specs.Meanings.{fact_of, pattern_of, slot_of}
use Rattle.core_conflict.specs.Concerns.{columns}
use Rattle.core_conflict.specs.Impacts.{key_from}
use Rattle.core_conflict.proofs.impacts.first_key.Given as goal

-- The first of all is the first of those that are left.
abbrev pub invariant-loop-term : goal.invariant-loop-term
invariant-loop-term l = record {
  column : l.column ≡ l.term-index;
  first : key_from 0 (map slot_of l.terms) (columns (pattern_of l.atom) (fact_of l.tuple)) ≡ key_from l.column (map slot_of (drop l.term-index l.terms)) (columns (pattern_of l.atom) (fact_of l.tuple));
}
