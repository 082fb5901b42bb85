use Rattle.std.proofs.Common.{◌∙◌, ap}
use Rattle.def_chase.specs.Repository.{has}
use Rattle.base_types.specs.Meanings.{fact_of}
use Rattle.set_facts.proofs.Held.{contains_mapped}
use Rattle.set_facts.proofs.plain.PlainFactsFacts.contains.Goals as goal

pub returns-clause-answer : goal.returns-clause-answer
returns-clause-answer c = c.contains.ensures ∙ contains_mapped c.args.tuple.now c.self.inside.tuples.keys ∙ ap (λ D. has D (fact_of c.args.tuple.now)) c.self.view_is
