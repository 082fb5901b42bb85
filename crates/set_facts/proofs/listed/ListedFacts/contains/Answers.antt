use Rattle.std.proofs.Common.{◌∙◌, ap, map, subst, sym}
use Rattle.def_chase.specs.Repository.{IsRepository, has}
use Rattle.base_types.specs.Meanings.{fact_of}
use Rattle.set_facts.proofs.Sought.{told_there}
use Rattle.set_facts.proofs.listed.ListedFacts.contains.Goals as goal

pub returns : goal.returns
returns c =
    let D = c.deref.result.now in
    let same = ap (map fact_of) c.deref.ensures.value ∙ c.self.view_is in
    let sorted = subst IsRepository (sym (ap (map fact_of) c.deref.ensures.value)) c.self.invariant in
    record { answer = c.is_ok.ensures.value ∙ told_there D c.args.tuple.now c.binary_search.result sorted c.binary_search.ensures.bound c.binary_search.ensures.position ∙ ap (λ E. has E (fact_of c.args.tuple.now)) same; in_order = subst IsRepository c.self.view_is c.self.invariant }
