use Rattle.def_provenance.proofs.Noted.{notes_tell}
use Rattle.def_provenance.proofs.laws.notes_tell.Goals as goal

pub returns : goal.returns
returns c = notes_tell
