use Rattle.audit_claims.proofs.Single.{one_event}
use Rattle.audit_claims.proofs.laws.lines_claim_one_event.Goals as goal

pub returns : goal.returns
returns c = one_event
