use Rattle.std.proofs.Common.{refl}
use Rattle.chase_query.proofs.Entries.{with_last}
use Rattle.chase_update.proofs.settled.log_passage.Goals as goal

pub returns : goal.returns
returns c = record { logged = with_last c.push.new.self.items c.args.log.now.items _ _ c.in_ok-push.ensures.ok refl }
