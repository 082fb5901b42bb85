use Rattle.std.specs.Prelude.{◌≡◌, length}
use Rattle.std.proofs.Common.{refl, arith}
use Rattle.audit_verdict.proofs.Judged.{all_are, some_are_not}
use Rattle.audit_verdict.proofs.judging.admission_of.Goals as goal

pub returns : goal.returns
returns c = record {
  event = λ g H stands.
      let less = some_are_not g H c.args.replay.now stands c.is_whole.result c.is_whole.ensures.whole c.if-is_whole.false in
      let here : c.count.result ≡ length H = omega (arith, c.count.ensures.count g H stands.replay, stands.admitted, less) in
      ((less, omega (arith, here)), refl);
}

pub returns-then-is_whole : goal.returns-then-is_whole
returns-then-is_whole c = record {
  event = λ g H stands due. let more = all_are g H c.args.replay.now stands c.is_whole.result c.is_whole.ensures.whole c.if-is_whole.true in omega (arith, more, due.0);
}
