use Rattle.run_ask.proofs.Computed.{members_decide}
use Rattle.run_ask.proofs.certainty.members_decide_answers.Goals as goal

pub returns : goal.returns
returns c = members_decide
