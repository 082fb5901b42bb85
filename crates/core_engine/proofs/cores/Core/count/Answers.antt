use Rattle.std.proofs.Common.{◌∙◌, ap, List, length}
use Rattle.core_queue.specs.declared.updates.QueuedUpdate.{QueuedUpdate}
use Rattle.core_engine.proofs.Telling.{count_told}
use Rattle.core_engine.proofs.cores.Core.count.Goals as goal

pub returns : goal.returns
returns c = record { count = ap (λ (rs : List QueuedUpdate). length rs) c.as_slice.ensures.value ∙ count_told _ _ c.self.inside.queue.items _ c.self.invariant.0.left c.self.view_is }
