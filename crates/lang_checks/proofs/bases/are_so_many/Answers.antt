use Rattle.std.proofs.Common.{◌-◌, length}
use Rattle.lang_checks.specs.Bases.{gathered}
use Rattle.lang_checks.proofs.Apart.{counted_next, all_counted}
use Rattle.lang_checks.proofs.bases.are_so_many.Goals as goal

pub loop-facts-preserved : goal.loop-facts-preserved
loop-facts-preserved c =
    counted_next c.args.relations.now c.loop-facts.facts-index c.loop-facts.left c.len.result c.saturating_sub-left.result (c.args.most - length (gathered c.args.relations.now)) c.facts-item.result
    c.loop-facts-test.true c.facts-item.is c.loop-facts.invariant c.len.ensures.length c.saturating_sub-left.ensures

pub returns : goal.returns
returns c = record { reached = all_counted c.args.relations.now c.loop-facts.facts-index c.loop-facts.left c.args.most c.loop-facts-test.false c.loop-facts.invariant }
