use Rattle.work_session.proofs.Serving.{ready_here, snapshot_is}
use Rattle.work_session.proofs.seated.SeatedCore.snapshot.Goals as goal

pub snapshot-requires : goal.snapshot-requires
snapshot-requires c = record { ready = ready_here c.self.inside.core c.args.self.now c.self.view_is c.args.update c.requires.ready }

pub returns : goal.returns
returns c = record {
  is = snapshot_is c.self.inside.core c.args.self.now c.self.view_is c.snapshot.result c.args.update c.requires.ready c.snapshot.ensures.update c.snapshot.ensures.step;
}
