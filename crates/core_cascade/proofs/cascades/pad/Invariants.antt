use Rattle.std.proofs.Common.{◌≡◌, ◌≤◌, ◌-◌, length}
use Rattle.core_cascade.specs.Walks.{padded}
use Rattle.core_cascade.proofs.cascades.pad.Given as goal

-- What is to be filled up stays the same.
abbrev pub invariant-gaps : goal.invariant-gaps
invariant-gaps l = record {
  few : length l.found.items ≤ l.place;
  same : padded l.place l.found.items ≡ padded l.place l.fn.found.items;
}

abbrev pub decreases-gaps : goal.decreases-gaps
decreases-gaps l = l.place - length l.found.items
