use Rattle.std.proofs.Common.{◌≡◌}
use Rattle.set_facts.proofs.plain.PlainFacts.into_list.Given as goal

abbrev pub invariant-loop-tuple : goal.invariant-loop-tuple
invariant-loop-tuple l = l.list.items ≡ l.yielded
