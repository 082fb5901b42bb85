use Rattle.audit_claims.proofs.Entries.{entry_tells}
use Rattle.audit_claims.proofs.laws.printed_entries_are_claimed.Goals as goal

pub returns : goal.returns
returns c = entry_tells
