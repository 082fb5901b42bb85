use Rattle.std.proofs.Common.{arith}
use Rattle.def_language.proofs.Digits.{next, ends}
use Rattle.lang_lex.proofs.numbers.magnitude.Goals as goal

pub loop-digit-preserved : goal.loop-digit-preserved
loop-digit-preserved c = (next c.args.digits.now c.loop-digit.digit-index c.loop-digit.value _ _ (omega arith) c.loop-digit.invariant.0 (omega arith), omega arith)

pub returns : goal.returns
returns c = ends c.args.digits.now c.loop-digit.digit-index c.loop-digit.value _ (omega arith) c.loop-digit.invariant.1 c.loop-digit.invariant.0
