use Rattle.run_laws.proofs.SavedSessions.{saved_meets}
use Rattle.run_laws.proofs.laws.bases_meet_their_mappings.Goals as goal

pub returns : goal.returns
returns c = λ budget s v. saved_meets s v.session budget v.some v.most v.met
