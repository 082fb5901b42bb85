use Rattle.chase_query.proofs.Mentioned.{left_mentions, right_mentions, none_mentions}
use Rattle.chase_query.proofs.queries.violation_mentions.Goals as goal

pub returns-then-stands_in : goal.returns-then-stands_in
returns-then-stands_in c = record {
  answer = left_mentions c.args.mappings.now.items c.args.number c.args.relation c.in-Some.mapping.now c.as_slice.result.now c.stands_in.result c.in-Some.ensures.item c.as_slice.ensures.items c.stands_in.ensures.answer c.if-stands_in.true;
}

pub returns-else-stands_in : goal.returns-else-stands_in
returns-else-stands_in c = record {
  answer = right_mentions c.args.mappings.now.items c.args.number c.args.relation c.in-Some.mapping.now c.as_slice.result.now c.as_slice-else-stands_in.result.now c.stands_in.result c.stands_in-else-stands_in.result c.in-Some.ensures.item c.as_slice.ensures.items c.stands_in.ensures.answer c.if-stands_in.false c.as_slice-else-stands_in.ensures.items c.stands_in-else-stands_in.ensures.answer;
}

pub returns-in-None : goal.returns-in-None
returns-in-None c = record { answer = none_mentions c.args.mappings.now.items c.args.number c.args.relation c.in-None.ensures.item }
