use Rattle.std.proofs.Common.{arith, refl}
use Rattle.audit_verdict.proofs.Judged.{all_are, some_are_not}
use Rattle.audit_verdict.proofs.judging.when_whole.Goals as goal

pub returns-else-is_whole : goal.returns-else-is_whole
returns-else-is_whole c = record {
  event = λ g H stands more. let less = some_are_not g H c.args.replay.now stands c.is_whole.result c.is_whole.ensures.whole c.if-is_whole.false in omega (arith, less, more);
}

pub returns-then-is_whole : goal.returns-then-is_whole
returns-then-is_whole c = record {
  event = λ g H stands. (all_are g H c.args.replay.now stands c.is_whole.result c.is_whole.ensures.whole c.if-is_whole.true, refl);
}
