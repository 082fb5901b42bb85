use Rattle.core_engine.proofs.Resulting.{result_told}
use Rattle.core_engine.proofs.cores.Core.result.Goals as goal

pub returns : goal.returns
returns c = record {
  told = result_told _ c.self.inside.versions c.self.inside.queue.items _ c.args.self.now c.deref.result.now c.in_ok-told.told c.self.invariant.0 c.self.view_is c.deref.ensures.value c.in_ok-told.ensures.told;
}
