use Rattle.std.proofs.Common.{sym, subst, List, not}
use Rattle.def_chase.specs.Values.{Fact, same_fact}
use Rattle.def_chase.specs.Repository.{IsRepository}
use Rattle.def_chase.proofs.Sets.{filter_in_order}
use Rattle.base_types.specs.Meanings.{fact_of}
use Rattle.set_facts.specs.ByNull.{IsNullIndex}
use Rattle.set_facts.specs.Indexes.{IsIndex}
use Rattle.set_facts.proofs.ByNull.{nulls_shrink}
use Rattle.set_facts.proofs.Indexing.{index_shrinks}
use Rattle.set_facts.proofs.indexed.IndexedFacts.remove.Goals as goal

pub invariant_of-self : goal.invariant_of-self
invariant_of-self c =
    let t = fact_of c.args.tuple.now in
    subst (λ (D : List Fact). IsRepository D × IsIndex D c.drop_both.new.relations.items × IsNullIndex D c.drop_both.new.by_null) (sym c.remove-there.ensures.after) (
      filter_in_order (λ s. not (same_fact t s)) c.self.inside.all c.self.invariant.0,
      index_shrinks c.self.inside.all c.self.inside.relations.items c.drop_both.new.relations.items t c.self.invariant.1 c.drop_both.ensures.columns,
      nulls_shrink c.self.inside.all c.self.inside.by_null c.drop_both.new.by_null t c.self.invariant.2 c.drop_both.ensures.nulls,
    )
