use Rattle.base_types.specs.Meanings.{fact_of}
use Rattle.set_versions.proofs.Holding.{held_as}
use Rattle.set_versions.proofs.Taking.{held_has}
use Rattle.set_versions.proofs.taken.Taken.contains.Goals as goal

pub returns-in-Some : goal.returns-in-Some
returns-in-Some c = record { answer = held_has (fact_of c.args.tuple.now) c.self.inside.tuples c.args.self.now _ c.self.view_is (held_as c.self.inside.tuples c.new.ensures.tuple c.in-Some.ensures.found) }

pub returns-in-None : goal.returns-in-None
returns-in-None c = record { answer = held_has (fact_of c.args.tuple.now) c.self.inside.tuples c.args.self.now _ c.self.view_is (held_as c.self.inside.tuples c.new.ensures.tuple c.in-None.ensures.found) }
