use Rattle.std.proofs.Common.{◌≡◌, ℕ, false, ◌<◌, ◌≤◌, map}
use Rattle.std.specs.List.{slice_get}
use Rattle.base_types.specs.Meanings.{heading_of, rule_of}
use Rattle.chase_violation.specs.Violated.{side}
use Rattle.chase_eval.specs.Touching.{stands, is_among}
use Rattle.chase_eval.proofs.touching.row.Given as goal

-- Of the mappings that were passed those that stand there are among the numbers, and no other.
abbrev pub invariant-loop-number : goal.invariant-loop-number
invariant-loop-number l = record {
  passed : (n : ℕ) → n < l.number → is_among l.row.items n ≡ stands (side (heading_of l.direction)) l.relation (slice_get (map rule_of l.mappings.items) n);
  others : (n : ℕ) → l.number ≤ n → is_among l.row.items n ≡ false;
}
