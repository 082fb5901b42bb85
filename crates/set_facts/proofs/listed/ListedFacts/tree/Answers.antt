use Rattle.std.proofs.Common.{map}
use Rattle.base_types.specs.Meanings.{fact_of}
use Rattle.set_facts.proofs.Taking.{same_listed, same_in_order}
use Rattle.set_facts.proofs.listed.ListedFacts.tree.Goals as goal

pub returns : goal.returns
returns c = record { same = same_in_order c.of_owned.result c.args.self.now (same_listed c.of_owned.result c.args.self.now (map fact_of c.in_ok-list.field-0.items) c.of_owned.ensures.members c.of_owned.ensures.in_order c.in_ok-list.ensures.tuples) c.list.ensures.in_order }
