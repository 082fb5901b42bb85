use Rattle.std.proofs.Common.{sym, subst, List}
use Rattle.def_chase.specs.Values.{Fact}
use Rattle.def_chase.specs.Repository.{IsRepository}
use Rattle.def_chase.proofs.Sets.{insert_in_order}
use Rattle.base_types.specs.Meanings.{fact_of}
use Rattle.base_types.specs.declared.tuples.Tuple.{Tuple}
use Rattle.set_facts.specs.ByNull.{IsNullIndex, IsNullIndexBut}
use Rattle.set_facts.specs.Indexes.{IsIndex, IsIndexBut}
use Rattle.set_facts.proofs.ByNull.{nulls_grow, nulls_but, added_at_most}
use Rattle.set_facts.proofs.Indexing.{index_grows}
use Rattle.set_facts.proofs.Refusals.{index_but}
use Rattle.set_facts.proofs.Related.{adds_at_most}
use Rattle.set_facts.proofs.indexed.IndexedFacts.insert.Goals as goal

pub take_back-requires-in-Err-insert : goal.take_back-requires-in-Err-insert
take_back-requires-in-Err-insert c =
    let t = fact_of c.args.tuple in
    let D = c.self.inside.all in
    let ls = c.self.inside.relations.items in
    let ms = c.keep_both.new.relations.items in
    let l = c.self.inside.by_null in
    let m = c.keep_both.new.by_null in
    subst (λ (x : Tuple). IsIndexBut c.insert.new.self (fact_of x) ms × IsNullIndexBut c.insert.new.self (fact_of x) m) (sym c.in-Err-insert.ensures.given_back)
    (subst (λ (E : List Fact). IsIndexBut E t ms × IsNullIndexBut E t m) (sym c.in-Err-insert.ensures.err) (
      index_but D ls ms t c.self.invariant.1 (adds_at_most t ls ms c.in-Ok.ensures.columns),
      nulls_but D l m t c.self.invariant.2 (added_at_most t l m c.in-Ok.ensures.nulls),
    ))

pub invariant_of-self-in-Ok-insert : goal.invariant_of-self-in-Ok-insert
invariant_of-self-in-Ok-insert c =
    let t = fact_of c.args.tuple in
    subst (λ (D : List Fact). IsRepository D × IsIndex D c.keep_both.new.relations.items × IsNullIndex D c.keep_both.new.by_null) (sym c.in-Ok-insert.ensures.ok) (
      insert_in_order c.self.inside.all t c.self.invariant.0,
      index_grows c.self.inside.all c.self.inside.relations.items c.keep_both.new.relations.items t c.self.invariant.1 c.in-Ok.ensures.columns,
      nulls_grow c.self.inside.all c.self.inside.by_null c.keep_both.new.by_null t c.self.invariant.2 c.in-Ok.ensures.nulls,
    )
