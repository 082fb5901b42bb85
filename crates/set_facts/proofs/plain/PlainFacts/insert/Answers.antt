use Rattle.std.proofs.Common.{◌∙◌, ap, not, map}
use Rattle.def_chase.specs.Repository.{has, change, Insert}
use Rattle.base_types.specs.Meanings.{fact_of}
use Rattle.set_facts.proofs.Held.{contains_mapped, insert_mapped, sorted_mapped}
use Rattle.set_facts.proofs.plain.PlainFacts.insert.Goals as goal

pub invariant_of-self : goal.invariant_of-self
invariant_of-self c = sorted_mapped _ c.insert.ensures.ordered

pub returns-in-Ok-clause-changed : goal.returns-in-Ok-clause-changed
returns-in-Ok-clause-changed c =
    c.in-Ok.ensures.added
    ∙ ap not (contains_mapped c.args.tuple c.self.inside.tuples.keys ∙ ap (λ D. has D (fact_of c.args.tuple)) c.self.view_is)

pub returns-in-Ok-clause-ok : goal.returns-in-Ok-clause-ok
returns-in-Ok-clause-ok c =
    ap (map fact_of) c.in-Ok.ensures.keys
    ∙ insert_mapped c.args.tuple c.self.inside.tuples.keys
    ∙ ap (λ D. change D (Insert (fact_of c.args.tuple))) c.self.view_is

pub returns-in-Ok-clause-in_order : goal.returns-in-Ok-clause-in_order
returns-in-Ok-clause-in_order c = sorted_mapped _ c.insert.ensures.ordered
