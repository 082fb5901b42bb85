use Rattle.core_result.proofs.Whole.{told_is}
use Rattle.core_result.proofs.results.told.Goals as goal

pub returns : goal.returns
returns c = record {
  told = told_is c.args.queue.now c.args.versions.now (record { finishes = c.in_ok-finishes.field-0; stop = c.in_ok-stop.field-0; repository = c.in_ok-left.field-0 })
      c.in_ok-finishes.ensures.told c.in_ok-stop.ensures.told c.in_ok-left.ensures.left;
}
