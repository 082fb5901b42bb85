use Rattle.def_steps.proofs.Refusing.{refused_writes_nothing}
use Rattle.def_steps.proofs.laws.refused_writes_nothing.Goals as goal

pub returns : goal.returns
returns c = refused_writes_nothing
