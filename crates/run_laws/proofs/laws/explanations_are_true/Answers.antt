use Rattle.run_laws.proofs.Numbered.{explains_truly}
use Rattle.run_laws.proofs.laws.explanations_are_true.Goals as goal

pub returns : goal.returns
returns c = explains_truly c.reasons_are_true.ensures
