use Rattle.run_explain.proofs.Turning.{if_ok_weaker}
use Rattle.run_explain.proofs.runs.turn.Goals as goal

pub returns-clause-told : goal.returns-clause-told
returns-clause-told c = if_ok_weaker c.close.result (λ stop h. h c.args.chase.now.mappings.now c.args.chase.now.budget c.args.update.now c.in_ok-taken.ensures.taken) c.close.ensures.told

pub returns-clause-noted : goal.returns-clause-noted
returns-clause-noted c = if_ok_weaker c.close.result (λ stop h. h c.args.chase.now.mappings.now c.args.chase.now.budget c.args.update.now c.in_ok-taken.ensures.taken) c.close.ensures.noted
