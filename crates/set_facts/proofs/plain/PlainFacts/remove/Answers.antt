use Rattle.std.proofs.Common.{◌∙◌, ap, map}
use Rattle.def_chase.specs.Repository.{has, change, Delete}
use Rattle.base_types.specs.Meanings.{fact_of}
use Rattle.set_facts.proofs.Held.{contains_mapped, delete_mapped, sorted_mapped}
use Rattle.set_facts.proofs.plain.PlainFacts.remove.Goals as goal

pub returns-clause-changed : goal.returns-clause-changed
returns-clause-changed c = c.remove.ensures.test ∙ contains_mapped c.args.tuple.now c.self.inside.tuples.keys ∙ ap (λ D. has D (fact_of c.args.tuple.now)) c.self.view_is

pub returns-clause-after : goal.returns-clause-after
returns-clause-after c =
    ap (map fact_of) c.remove.ensures.keys
    ∙ delete_mapped c.args.tuple.now c.self.inside.tuples.keys c.self.invariant
    ∙ ap (λ D. change D (Delete (fact_of c.args.tuple.now))) c.self.view_is

pub invariant_of-self : goal.invariant_of-self
invariant_of-self c = sorted_mapped _ c.remove.ensures.ordered

pub returns-clause-in_order : goal.returns-clause-in_order
returns-clause-in_order c = sorted_mapped _ c.remove.ensures.ordered
