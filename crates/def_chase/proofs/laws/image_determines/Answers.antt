use Rattle.def_chase.proofs.Images.{image_determines}
use Rattle.def_chase.proofs.laws.image_determines.Goals as goal

pub returns : goal.returns
returns c = image_determines
