use Rattle.std.proofs.Common.{◌≡◌, ℕ, ◌<◌, ◌≤◌, false}
use Rattle.set_facts.proofs.ByNull.{named_before}
use Rattle.set_versions.proofs.nulls.raised.Given as goal

-- No update above the bound drew a null among the values that were gone over.
abbrev pub invariant-loop-value : goal.invariant-loop-value
invariant-loop-value l = record {
  above : (u k : ℕ) → l.newest < u → named_before l.value-index l.value-items u k ≡ false;
  least : l.bound ≤ l.newest;
}
