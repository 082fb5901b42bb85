use Rattle.std.proofs.Common.{◌∙◌, ap, ℕ}
use Rattle.std.specs.Prelude.{◌&&◌, not}
use Rattle.def_machine.specs.Cascade.{has_number}
use Rattle.def_machine.specs.Standings.{standing, is_ready, lowest_that}
use Rattle.def_steps.specs.Chase.{caused_chase}
use Rattle.core_queue.specs.Settings.{settings_of}
use Rattle.core_queue.specs.Queues.{updates_of}
use Rattle.core_queue.proofs.Skipping.{besides_past, unready_there}
use Rattle.core_queue.proofs.order.lowest_ready_besides.Goals as goal

pub first_besides-requires-clause-there : goal.first_besides-requires-clause-there
first_besides-requires-clause-there c = unready_there c.args.queue.now c.args.unready c.requires.unready

pub returns : goal.returns
returns c = record {
  lowest = λ ms B. besides_past c.args.numbers.now (settings_of c.args.settings) c.committed_from-committed.result c.args.queue.now c.args.unready c.first_besides.result c.requires.unready c.first_besides.ensures.first ms B
      ∙ ap (λ (k : ℕ). lowest_that {M = caused_chase ms B} (λ i u. is_ready (standing (caused_chase ms B) (settings_of c.args.settings) k i u) && not (has_number c.args.numbers.now i)) 1 (updates_of ms B c.args.queue.now)) (c.committed_from-committed.ensures.committed ms B);
}
