use Rattle.std.proofs.Common.{◌∙◌, ◌<◌, ap, sym, length, map, subst, not, List}
use Rattle.def_chase.specs.Values.{same_fact}
use Rattle.def_chase.specs.Repository.{IsRepository, has, change, Delete}
use Rattle.def_chase.proofs.Sets.{filter_in_order}
use Rattle.base_types.specs.Meanings.{fact_of}
use Rattle.base_types.specs.declared.tuples.Tuple.{Tuple}
use Rattle.set_facts.specs.Places.{StandsAt}
use Rattle.set_facts.proofs.Sought.{there, taken_out, taken_absent, absent_between, parted}
use Rattle.set_facts.proofs.listed.ListedFacts.remove.Goals as goal

pub invariant_of-self : goal.invariant_of-self
invariant_of-self c =
    let t = c.args.tuple.now in
    let D = c.self.inside.tuples.items in
    let at = subst (λ (E : List Tuple). StandsAt E t c.in-Ok.place) c.deref.ensures.value c.in-Ok.ensures.position in
    subst IsRepository (sym (ap (map fact_of) c.take_at.ensures.items ∙ taken_out D t c.in-Ok.place c.self.invariant (subst (λ (E : List Tuple). c.in-Ok.place < length E) c.deref.ensures.value c.in-Ok.ensures.bound) at)) (filter_in_order (λ s. not (same_fact (fact_of t) s)) (map fact_of D) c.self.invariant)

pub returns-in-Ok-clause-in_order : goal.returns-in-Ok-clause-in_order
returns-in-Ok-clause-in_order c =
    let t = c.args.tuple.now in
    let D = c.self.inside.tuples.items in
    let at = subst (λ (E : List Tuple). StandsAt E t c.in-Ok.place) c.deref.ensures.value c.in-Ok.ensures.position in
    subst IsRepository (sym (ap (map fact_of) c.take_at.ensures.items ∙ taken_out D t c.in-Ok.place c.self.invariant (subst (λ (E : List Tuple). c.in-Ok.place < length E) c.deref.ensures.value c.in-Ok.ensures.bound) at)) (filter_in_order (λ s. not (same_fact (fact_of t) s)) (map fact_of D) c.self.invariant)

pub returns-in-Ok-clause-changed : goal.returns-in-Ok-clause-changed
returns-in-Ok-clause-changed c =
    let same = ap (map fact_of) c.deref.ensures.value ∙ c.self.view_is in
    sym (ap (λ D. has D (fact_of c.args.tuple.now)) (sym same) ∙ there c.deref.result.now c.args.tuple.now c.in-Ok.place c.in-Ok.ensures.bound c.in-Ok.ensures.position)

pub returns-in-Ok-clause-after : goal.returns-in-Ok-clause-after
returns-in-Ok-clause-after c =
    let t = c.args.tuple.now in
    let D = c.self.inside.tuples.items in
    let at = subst (λ (E : List Tuple). StandsAt E t c.in-Ok.place) c.deref.ensures.value c.in-Ok.ensures.position in
    ap (map fact_of) c.take_at.ensures.items ∙ taken_out D t c.in-Ok.place c.self.invariant (subst (λ (E : List Tuple). c.in-Ok.place < length E) c.deref.ensures.value c.in-Ok.ensures.bound) at ∙ ap (λ E. change E (Delete (fact_of t))) c.self.view_is

pub returns-in-Err-clause-changed : goal.returns-in-Err-clause-changed
returns-in-Err-clause-changed c =
    let same = ap (map fact_of) c.deref.ensures.value ∙ c.self.view_is in
    let sorted = subst IsRepository (sym (ap (map fact_of) c.deref.ensures.value)) c.self.invariant in
    sym (ap (λ D. has D (fact_of c.args.tuple.now)) (sym same) ∙ absent_between c.deref.result.now c.args.tuple.now c.in-Err.field-0 (parted c.deref.result.now c.args.tuple.now c.in-Err.field-0 sorted c.in-Err.ensures.position))

pub returns-in-Err-clause-after : goal.returns-in-Err-clause-after
returns-in-Err-clause-after c =
    let same = ap (map fact_of) c.deref.ensures.value ∙ c.self.view_is in
    let sorted = subst IsRepository (sym (ap (map fact_of) c.deref.ensures.value)) c.self.invariant in
    taken_absent c.args.self.now (fact_of c.args.tuple.now) (subst IsRepository c.self.view_is c.self.invariant)
    (ap (λ D. has D (fact_of c.args.tuple.now)) (sym same) ∙ absent_between c.deref.result.now c.args.tuple.now c.in-Err.field-0 (parted c.deref.result.now c.args.tuple.now c.in-Err.field-0 sorted c.in-Err.ensures.position))
