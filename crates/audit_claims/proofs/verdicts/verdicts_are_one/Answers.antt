use Rattle.audit_claims.proofs.One.{one_verdict}
use Rattle.audit_claims.proofs.verdicts.verdicts_are_one.Goals as goal

pub returns : goal.returns
returns c = one_verdict c.lines_claim_one_event.ensures c.entries_are_plain.ensures
