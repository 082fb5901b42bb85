use Rattle.std.proofs.Common.{◌≡◌, bit_and, arith}
use Rattle.std.proofs.lemmas.Grind.{common_steps}
use Rattle.core_conflict.proofs.Bits.{apart_low, apart_high}
use Rattle.core_conflict.proofs.signatures.Signature.shares.Goals as goal

pub returns-then-self-other-eq0 : goal.returns-then-self-other-eq0
returns-then-self-other-eq0 c = record { apart = λ e. let low : bit_and c.args.self.low c.args.other.low ≡ 0 = grind (arith, common_steps) in apart_low c.args.self c.args.other low }

pub returns : goal.returns
returns c = record { apart = λ e. let high : bit_and c.args.self.high c.args.other.high ≡ 0 = grind (arith, common_steps, e) in apart_high c.args.self c.args.other high }
