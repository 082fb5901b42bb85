use Rattle.std.proofs.Common.{ap, ◌∙◌}
use Rattle.base_types.specs.Meanings.{fact_of}
use Rattle.set_versions.proofs.Holding.{held_as, held_tuple, held_marks}
use Rattle.set_versions.proofs.tables.Table.entry.Goals as goal

pub returns-in-Some-clause-tuple : goal.returns-in-Some-clause-tuple
returns-in-Some-clause-tuple c = ap fact_of c.in_ok-key-in-Some.ensures.same ∙ held_tuple (fact_of c.args.tuple.now) c.self.inside.rows (held_as c.self.inside.rows c.new.ensures.tuple c.in-Some.ensures.found)

pub returns-in-Some-clause-marks : goal.returns-in-Some-clause-marks
returns-in-Some-clause-marks c = c.in_ok-marks-in-Some.ensures.same ∙ held_marks (fact_of c.args.tuple.now) c.self.view_is (held_as c.self.inside.rows c.new.ensures.tuple c.in-Some.ensures.found)

pub returns-in-None-clause-marks : goal.returns-in-None-clause-marks
returns-in-None-clause-marks c = c.new-in-None-2.ensures.none ∙ held_marks (fact_of c.args.tuple.now) c.self.view_is (held_as c.self.inside.rows c.new.ensures.tuple c.in-None.ensures.found)
