use Rattle.audit_claims.proofs.Having.{have}
use Rattle.audit_claims.proofs.verdicts.histories_have_their_verdict.Goals as goal

pub returns : goal.returns
returns c = have c.printed_entries_are_claimed.ensures
