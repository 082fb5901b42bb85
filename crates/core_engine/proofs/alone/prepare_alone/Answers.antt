use Rattle.std.proofs.Common.{refl, false}
use Rattle.core_engine.proofs.Preparing.{step_alone, shows_more_by}
use Rattle.core_engine.proofs.alone.prepare_alone.Goals as goal

pub returns-clause-prepared : goal.returns-clause-prepared
returns-clause-prepared c =
    step_alone c.args.versions.now c.publish.new.self c.args.item.now c.args.plan.now c.written-written.result.now false false _ c.requires.shown refl c.requires.unspent refl c.written-written.ensures.written
    (shows_more_by c.args.item.now c.args.plan.now c.written-written.result.now false c.number.result c.args.versions.now c.args.versions.now c.publish.new.self c.requires.shown refl c.written-written.ensures.written c.number.ensures.number
    refl c.in_ok-publish.ensures.ok)
    c.new.ensures.items c.new-2.ensures.empty c.in_ok-writes.ensures.same
