use Rattle.std.proofs.Common.{arith}
use Rattle.lang_schema.proofs.Digits.{by_tens}
use Rattle.lang_schema.proofs.Starting.{both_added}
use Rattle.lang_schema.proofs.numerals.push_three.Goals as goal

pub returns-clause-ok : goal.returns-clause-ok
returns-clause-ok c =
    both_added c.push_one.result c.args.out.now.items _ c.push_one.new.out.items _ _ _ (by_tens c.args.number (omega (arith, c.requires.low)) (omega (arith, c.requires.high))) c.in_ok-push_two.ensures.ok c.push_one.ensures.ok
