use Rattle.set_versions.proofs.Taking.{put_in, taken_out}
use Rattle.set_versions.proofs.taken.Taken.set.Goals as goal

pub returns-in-Ok : goal.returns-in-Ok
returns-in-Ok c = record { set = λ t. put_in c.self.inside.tuples c.put.new.self c.in_ok-share.field-0 c.args.tuple.now c.args.self c.args.taken _ c.in_ok-share.ensures.same c.self.view_is c.in-Ok.ensures.ok c.if-taken.true t }

pub returns : goal.returns
returns c = record { set = λ t. taken_out c.self.inside.tuples c.remove.new.self c.args.tuple.now c.args.self c.args.taken c.self.view_is c.in_ok-remove.ensures.ok c.if-taken.false t }
