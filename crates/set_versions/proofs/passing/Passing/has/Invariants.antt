use Rattle.std.proofs.Common.{◌≡◌, length}
use Rattle.std.specs.declared.cmp.Ordering.TheVariants.{Less}
use Rattle.base_types.specs.Meanings.{fact_of}
use Rattle.def_chase.specs.Repository.{has}
use Rattle.def_chase.specs.Values.{Fact, fact_cmp}
use Rattle.set_versions.specs.Passed.{to_pass, AreToPass}
use Rattle.set_versions.proofs.passing.Passing.has.Given as goal

-- Of the tuple and of those above it the same are among them as at the start.
abbrev pub invariant-loop-self : goal.invariant-loop-self
invariant-loop-self l = record {
  ready : AreToPass l.self;
  same : has (to_pass l.self) (fact_of l.tuple) ≡ has (to_pass l.fn.self) (fact_of l.tuple);
  above : (u : Fact) → fact_cmp (fact_of l.tuple) u ≡ Less → has (to_pass l.self) u ≡ has (to_pass l.fn.self) u;
}

abbrev pub decreases-loop-self : goal.decreases-loop-self
decreases-loop-self l = length (to_pass l.self)
