use Rattle.std.proofs.Common.{◌∙◌}
use Rattle.def_chase.proofs.Searches.{filter_all}
use Rattle.set_facts.proofs.indexed.IndexedFacts.run.Goals as goal

pub returns-clause-all : goal.returns-clause-all
returns-clause-all c = c.range.ensures.tuples ∙ filter_all c.self.inside.all ∙ c.self.view_is
