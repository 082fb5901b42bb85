use Rattle.std.proofs.Common.{map}
use Rattle.base_types.specs.Meanings.{fact_of}
use Rattle.set_facts.proofs.Taking.{same_listed}
use Rattle.set_facts.proofs.plain.PlainFacts.of_list.Goals as goal

pub returns-clause-same : goal.returns-clause-same
returns-clause-same c = same_listed c.of_owned.result (map fact_of c.args.tuples.now.items) (map fact_of c.in_ok-copy.field-0.items) c.of_owned.ensures.members c.of_owned.ensures.in_order c.in_ok-copy.ensures.same
