use Rattle.def_steps.proofs.Lacks.{fits_decide}
use Rattle.def_steps.proofs.laws.fits_decide_lacks.Goals as goal

pub returns : goal.returns
returns c = fits_decide
