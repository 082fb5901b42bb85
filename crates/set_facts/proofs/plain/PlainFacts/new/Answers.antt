use Rattle.set_facts.proofs.Held.{sorted_mapped}
use Rattle.set_facts.proofs.plain.PlainFacts.new.Goals as goal

pub invariant_of-result : goal.invariant_of-result
invariant_of-result c = sorted_mapped _ c.new.ensures.ordered
