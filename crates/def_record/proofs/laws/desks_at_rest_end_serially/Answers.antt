use Rattle.def_record.proofs.Told.{result_law}
use Rattle.def_record.proofs.laws.desks_at_rest_end_serially.Goals as goal

pub returns : goal.returns
returns c = result_law
