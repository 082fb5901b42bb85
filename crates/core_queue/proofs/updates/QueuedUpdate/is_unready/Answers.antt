use Rattle.std.proofs.Common.{◌∙◌, sym}
use Rattle.core_queue.proofs.Skipping.{lacking_unready, over_unready}
use Rattle.core_queue.proofs.updates.QueuedUpdate.is_unready.Goals as goal

pub returns-then-is_over : goal.returns-then-is_over
returns-then-is_over c = record { unready = over_unready c.args.self.now c.is_over.result c.is_over.ensures.over }

pub returns-else-is_over : goal.returns-else-is_over
returns-else-is_over c = record { unready = λ e. lacking_unready c.args.self.now c.lack.result c.lack.ensures.lack (sym c.is_some.ensures ∙ e) }
