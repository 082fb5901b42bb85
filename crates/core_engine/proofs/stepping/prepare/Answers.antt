use Rattle.core_queue.specs.Settings.{settings_of}
use Rattle.core_engine.proofs.Placing.{all_between}
use Rattle.core_engine.proofs.Preparing.{step_prepared}
use Rattle.core_engine.proofs.stepping.prepare.Goals as goal

pub settled-requires-clause-between : goal.settled-requires-clause-between
settled-requires-clause-between c = all_between _ c.args.spot.now.upper.now c.requires.numbers

pub returns-clause-prepared : goal.returns-clause-prepared
returns-clause-prepared c =
    step_prepared c.args.scene.now.mappings.now (settings_of c.args.scene.now.settings) c.args.committed c.args.versions.now c.in_ok-after.after c.settled.new.versions c.args.spot.now.item.now c.args.spot.now.upper.now c.args.plan.now c.in_ok-found.found.items c.written.result.now _
    c.requires.numbers c.in_ok-after.ensures.shows c.in_ok-found.ensures.found c.in_ok-left.ensures.cleared c.in_ok-left.ensures.there c.in_ok-left.ensures.causes c.written.ensures.written c.in_ok-writes.ensures.same
