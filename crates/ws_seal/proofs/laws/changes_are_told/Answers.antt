use Rattle.ws_seal.proofs.Changed.{head_changed, records_changed}
use Rattle.ws_seal.proofs.laws.changes_are_told.Goals as goal

pub returns-clause-records : goal.returns-clause-records
returns-clause-records c = records_changed

pub returns-clause-head : goal.returns-clause-head
returns-clause-head c = head_changed
