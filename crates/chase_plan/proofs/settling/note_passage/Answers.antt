use Rattle.std.proofs.Common.{◌∙◌, ◌+◌, ◌-◌, ap, arith, sym}
use Rattle.chase_query.specs.Meanings.{passing}
use Rattle.chase_query.proofs.Entries.{passage_ended, passage_from}
use Rattle.chase_plan.specs.Settled.{all_noted}
use Rattle.chase_plan.proofs.settling.note_passage.Goals as goal

pub loop-number-preserved : goal.loop-number-preserved
loop-number-preserved c =
    let passage = c.args.passage.now in
    let n = c.loop-number.number in
    c.loop-number.invariant ∙ ap (all_noted c.loop-number.settled) (passage_from n passage.end passage.own c.loop-number-test.true)
    ∙ ap (λ marks. all_noted marks (passing (n + 1) (passage.end - (n + 1)) passage.own)) (sym c.settle.ensures.set)

pub returns : goal.returns
returns c =
    let passage = c.args.passage.now in
    let n = c.loop-number.number in
    record { noted = sym (c.loop-number.invariant ∙ ap (all_noted c.loop-number.settled) (passage_ended n passage.end passage.own (omega (arith, c.loop-number-test.false)))) }
