use Rattle.core_engine.proofs.Resulting.{left_serially}
use Rattle.core_engine.proofs.cores.Core.repository.Goals as goal

pub returns : goal.returns
returns c = record {
  serial = left_serially _ c.self.inside.versions c.self.inside.queue.items _ c.args.self.now c.deref.result.now c.in_ok-tuples.tuples c.self.invariant.5 c.self.invariant.0 c.self.view_is c.deref.ensures.value c.in_ok-tuples.ensures.left;
}
