use Rattle.std.proofs.Common.{sym, subst, map}
use Rattle.def_chase.specs.Repository.{IsRepository}
use Rattle.base_types.specs.Meanings.{fact_of}
use Rattle.set_facts.proofs.listed.ListedFacts.new.Goals as goal

pub invariant_of-result : goal.invariant_of-result
unfolding Rattle.std.specs.List.Sorted.IsStrictlySortedBy
invariant_of-result c = subst (λ l. IsRepository (map fact_of l)) (sym c.new.ensures.items) tt
