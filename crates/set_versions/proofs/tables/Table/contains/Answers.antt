use Rattle.std.proofs.Common.{◌∙◌}
use Rattle.base_types.specs.Meanings.{fact_of}
use Rattle.set_versions.proofs.Holding.{held_as, held_stands}
use Rattle.set_versions.proofs.Seeing.{seen_in_order}
use Rattle.set_versions.proofs.tables.Table.contains.Goals as goal

pub returns-in-Some-clause-answer : goal.returns-in-Some-clause-answer
returns-in-Some-clause-answer c = c.stands.ensures ∙ held_stands c.args.number (fact_of c.args.tuple.now) c.self.view_is c.self.invariant.0 (held_as c.self.inside.rows c.new.ensures.tuple c.in-Some.ensures.found)

pub returns-in-Some-clause-in_order : goal.returns-in-Some-clause-in_order
returns-in-Some-clause-in_order c = seen_in_order c.args.number c.self.view_is c.in-Some.ensures.in_order

pub returns-in-None-clause-answer : goal.returns-in-None-clause-answer
returns-in-None-clause-answer c = held_stands c.args.number (fact_of c.args.tuple.now) c.self.view_is c.self.invariant.0 (held_as c.self.inside.rows c.new.ensures.tuple c.in-None.ensures.found)

pub returns-in-None-clause-in_order : goal.returns-in-None-clause-in_order
returns-in-None-clause-in_order c = seen_in_order c.args.number c.self.view_is c.in-None.ensures.in_order
