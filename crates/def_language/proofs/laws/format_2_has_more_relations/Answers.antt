use Rattle.def_language.proofs.Once.{few_relations, more_relations}
use Rattle.def_language.proofs.laws.format_2_has_more_relations.Goals as goal

pub returns-clause-in_1 : goal.returns-clause-in_1
returns-clause-in_1 c = few_relations

pub returns-clause-in_2 : goal.returns-clause-in_2
returns-clause-in_2 c = more_relations
