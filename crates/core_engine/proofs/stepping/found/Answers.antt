use Rattle.std.proofs.Common.{refl}
use Rattle.core_queue.specs.Settings.{settings_of}
use Rattle.core_conflict.specs.declared.concerns.Sense.TheVariants.{Went}
use Rattle.core_engine.proofs.Placing.{if_ok}
use Rattle.core_engine.proofs.Preparing.{found_in_writes, found_in_loss}
use Rattle.core_engine.proofs.stepping.found.Goals as goal

pub returns-then-has_spent-clause-found : goal.returns-then-has_spent-clause-found
returns-then-has_spent-clause-found c =
    if_ok c.causes_of_loss.result _ _
    (λ found are. found_in_loss (record { rules = c.args.scene.now.mappings.now; deps = (settings_of c.args.scene.now.settings).deps; committed = c.args.committed; update = c.number.result; sense = Went; whole = c.args.versions.now }) (settings_of c.args.scene.now.settings) c.args.after.now c.args.spot.now.item.now c.args.spot.now.upper.now c.args.plan.now c.trail.result.now found.items c.has_spent.result refl c.number.ensures.number
    c.has_spent.ensures.spent c.if-has_spent.true c.trail.ensures.trail are)
    c.causes_of_loss.ensures.causes

pub returns-clause-found : goal.returns-clause-found
returns-clause-found c =
    if_ok c.causes_of_writes.result _ _
    (λ found are. found_in_writes (record { rules = c.args.scene.now.mappings.now; deps = (settings_of c.args.scene.now.settings).deps; committed = c.args.committed; update = c.number.result; sense = c.turned-sense.result.0; whole = c.args.after.now }) (settings_of c.args.scene.now.settings) c.args.versions.now c.args.spot.now.item.now c.args.spot.now.upper.now c.args.plan.now c.turned-sense.result.1.now found.items c.has_spent.result refl c.number.ensures.number
    c.has_spent.ensures.spent c.if-has_spent.false c.turned-sense.ensures.turned are)
    c.causes_of_writes.ensures.causes
