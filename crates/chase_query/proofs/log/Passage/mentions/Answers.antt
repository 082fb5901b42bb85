use Rattle.std.proofs.Common.{◌∙◌, ◌||◌, ◌+◌, ◌-◌, ap, sym, arith}
use Rattle.std.specs.List.{list_any}
use Rattle.base_types.specs.Contents.{rules_in}
use Rattle.chase_query.specs.Meanings.{passing}
use Rattle.chase_query.specs.Mentioning.{mentioned}
use Rattle.chase_query.proofs.Entries.{passage_ended, passage_from}
use Rattle.chase_query.proofs.log.Passage.mentions.Goals as goal

pub loop-number-preserved : goal.loop-number-preserved
loop-number-preserved c =
    let passage = c.args.self in
    let n = c.loop-number.number in
    let test = mentioned (rules_in c.args.mappings.now) c.args.relation in
    c.loop-number.invariant ∙ ap (list_any test) (passage_from n passage.end passage.own c.loop-number-test.true)
    ∙ ap (λ b. b || list_any test (passing (n + 1) (passage.end - (n + 1)) passage.own)) (sym c.violation_mentions.ensures.answer ∙ c.if-violation_mentions.false)

pub returns-then-violation_mentions : goal.returns-then-violation_mentions
returns-then-violation_mentions c =
    let passage = c.args.self in
    let n = c.loop-number.number in
    let test = mentioned (rules_in c.args.mappings.now) c.args.relation in
    record {
      answer =
          sym (c.loop-number.invariant ∙ ap (list_any test) (passage_from n passage.end passage.own c.loop-number-test.true)
          ∙ ap (λ b. b || list_any test (passing (n + 1) (passage.end - (n + 1)) passage.own)) (sym c.violation_mentions.ensures.answer ∙ c.if-violation_mentions.true));
    }

pub returns : goal.returns
returns c =
    let passage = c.args.self in
    let n = c.loop-number.number in
    let test = mentioned (rules_in c.args.mappings.now) c.args.relation in
    record { answer = sym (c.loop-number.invariant ∙ ap (list_any test) (passage_ended n passage.end passage.own (omega (arith, c.loop-number-test.false)))) }
