use Rattle.chase_eval.proofs.Tuples.{says_force, says_nothing}
use Rattle.chase_eval.proofs.scopes.is_force.Goals as goal

pub returns-then-tuple : goal.returns-then-tuple
returns-then-tuple c = record {
  answer = says_force c.args.number c.args.tuple.now c.as_slice.result.now c.is_alone.result c.if-tuple.true c.as_slice.ensures.items c.is_alone.ensures.decides;
}

pub returns-else-tuple : goal.returns-else-tuple
returns-else-tuple c = record { answer = says_nothing c.args.number c.args.tuple.now c.if-tuple.false }
