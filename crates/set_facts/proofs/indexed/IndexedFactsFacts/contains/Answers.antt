use Rattle.std.proofs.Common.{◌∙◌, ap, List}
use Rattle.def_chase.specs.Values.{Fact}
use Rattle.def_chase.specs.Repository.{has}
use Rattle.base_types.specs.Meanings.{fact_of, datum_of}
use Rattle.set_facts.proofs.Indexing.{has_first, kept_there}
use Rattle.set_facts.proofs.indexed.IndexedFactsFacts.contains.Goals as goal

pub returns-in-Some-clause-answer : goal.returns-in-Some-clause-answer
returns-in-Some-clause-answer c =
    let t = fact_of c.args.tuple.now in
    let first = has_first c.args.tuple.now.values.items c.in-Some.value.now c.in-Some.ensures.item in
    c.keeps.ensures.kept ∙ kept_there c.self.inside.all c.self.inside.relations.items 0 (datum_of c.in-Some.value.now) t c.self.invariant.1 first ∙ ap (λ (D : List Fact). has D t) c.self.view_is
