use Rattle.std.proofs.Common.{◌∙◌, ap, sym, map, subst, not, List}
use Rattle.def_chase.specs.Repository.{IsRepository, has}
use Rattle.base_types.specs.Meanings.{fact_of}
use Rattle.base_types.specs.declared.tuples.Tuple.{Tuple}
use Rattle.set_facts.specs.Places.{IsBetween}
use Rattle.set_facts.proofs.Sought.{there, put_there, parted}
use Rattle.set_facts.proofs.listed.ListedFacts.insert.Goals as goal

pub put_at-requires-clause-between : goal.put_at-requires-clause-between
put_at-requires-clause-between c =
    let sorted = subst IsRepository (sym (ap (map fact_of) c.deref.ensures.value)) c.self.invariant in
    subst (λ (D : List Tuple). IsBetween D c.args.tuple c.in-Err.place) c.deref.ensures.value (parted c.deref.result.now c.args.tuple c.in-Err.place sorted c.in-Err.ensures.position)

pub returns-in-Ok-clause-changed : goal.returns-in-Ok-clause-changed
returns-in-Ok-clause-changed c =
    let same = ap (map fact_of) c.deref.ensures.value ∙ c.self.view_is in
    sym (ap not (ap (λ D. has D (fact_of c.args.tuple)) (sym same) ∙ there c.deref.result.now c.args.tuple c.in-Ok.field-0 c.in-Ok.ensures.bound c.in-Ok.ensures.position))

pub returns-in-Ok-clause-ok : goal.returns-in-Ok-clause-ok
returns-in-Ok-clause-ok c =
    let same = ap (map fact_of) c.deref.ensures.value ∙ c.self.view_is in
    put_there c.args.self.now (fact_of c.args.tuple) (subst IsRepository c.self.view_is c.self.invariant)
    (ap (λ D. has D (fact_of c.args.tuple)) (sym same) ∙ there c.deref.result.now c.args.tuple c.in-Ok.field-0 c.in-Ok.ensures.bound c.in-Ok.ensures.position)
