use Rattle.base_json.proofs.Adding.{adds_values}
use Rattle.base_json.proofs.laws.lines_add_values.Goals as goal

pub returns : goal.returns
returns c = adds_values
