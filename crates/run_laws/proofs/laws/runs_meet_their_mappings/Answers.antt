use Rattle.run_laws.proofs.SavedSessions.{left_hold}
use Rattle.run_laws.proofs.laws.runs_meet_their_mappings.Goals as goal

pub returns : goal.returns
returns c = λ B s v. left_hold s v.session B v.some v.most v.met
