use Rattle.std.proofs.Common.{◌≡◌, length, map}
use Rattle.base_types.specs.Meanings.{heading_of, rule_of}
use Rattle.chase_violation.specs.Violated.{side}
use Rattle.chase_eval.specs.Touching.{AreRows}
use Rattle.chase_eval.proofs.touching.rows.Given as goal

-- The rows up to this relation are made.
abbrev pub invariant-loop-relation : goal.invariant-loop-relation
invariant-loop-relation l = record {
  many : length l.rows.items ≡ l.relation;
  made : AreRows (side (heading_of l.direction)) (map rule_of l.mappings.items) l.rows.items;
}
