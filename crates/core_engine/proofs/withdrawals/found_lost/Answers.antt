use Rattle.std.proofs.Common.{refl, arith, length}
use Rattle.core_conflict.specs.declared.concerns.Sense.TheVariants.{Went}
use Rattle.core_queue.proofs.Unread.{all_may_read}
use Rattle.core_queue.specs.Settings.{settings_of}
use Rattle.core_engine.proofs.Placing.{if_ok}
use Rattle.core_engine.proofs.Preparing.{loss_found}
use Rattle.core_engine.proofs.withdrawals.found_lost.Goals as goal

pub returns-clause-found : goal.returns-clause-found
returns-clause-found c =
    if_ok c.causes_of_loss.result _ _
    (λ found are. loss_found (record { rules = c.args.mappings.now; deps = (settings_of c.args.settings).deps; committed = c.args.committed; update = c.number.result; sense = Went; whole = c.args.versions.now }) (settings_of c.args.settings) c.args.item.now c.args.upper.now c.trail.result.now found.items refl c.number.ensures.number c.trail.ensures.trail are)
    c.causes_of_loss.ensures.causes

pub causes_of_loss-requires-clause-read : goal.causes_of_loss-requires-clause-read
causes_of_loss-requires-clause-read c = all_may_read c.args.upper.now (length c.args.upper.now) (omega arith)
