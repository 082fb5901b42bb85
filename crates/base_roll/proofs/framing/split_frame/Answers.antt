use Rattle.std.proofs.Common.{arith}
use Rattle.base_roll.proofs.Frames.{frame_split, no_frame, too_short}
use Rattle.base_roll.proofs.framing.split_frame.Goals as goal

pub returns-then-bytes-lt4-clause-none : goal.returns-then-bytes-lt4-clause-none
returns-then-bytes-lt4-clause-none c = λ payload more small e. too_short c.args.bytes.now payload more (omega arith) e

pub returns-then-rest-count-clause-none : goal.returns-then-rest-count-clause-none
returns-then-rest-count-clause-none c = λ payload more small e. no_frame c.args.bytes.now _ _ c.from_be_bytes-count.result c.split_at.ensures.front c.split_at.ensures.back (omega arith) c.from_be_bytes-count.ensures (omega arith) payload more small e

pub returns-clause-some : goal.returns-clause-some
returns-clause-some c = frame_split c.args.bytes.now _ _ _ _ c.from_be_bytes-count.result c.split_at.ensures.front c.split_at.ensures.back (omega arith) (λ i. (c.type_inv.bytes i).fits) c.from_be_bytes-count.ensures (omega arith) c.split_at-2.ensures.front c.split_at-2.ensures.back
