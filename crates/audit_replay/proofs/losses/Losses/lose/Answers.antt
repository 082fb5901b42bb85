use Rattle.audit_replay.proofs.Losing.{lost_one}
use Rattle.audit_replay.proofs.losses.Losses.lose.Goals as goal

pub returns : goal.returns
returns c = record { lost = lost_one c.args.self.now _ (record { number = c.args.number; trail = c.args.trail }) c.in_ok-push.ensures.items c.in_ok-put_relations.ensures.more }
