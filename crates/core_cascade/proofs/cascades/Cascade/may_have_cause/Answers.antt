use Rattle.std.proofs.Common.{rules}
use Rattle.core_cascade.proofs.Reasons.{reads_some, not_live}
use Rattle.core_cascade.proofs.cascades.Cascade.may_have_cause.Goals as goal

pub returns-then-not-is_live : goal.returns-then-not-is_live
returns-then-not-is_live c = record { answer = not_live c.args.self.now.committed c.number.result c.args.reader.now c.is_live.result c.is_live.ensures.live c.number.ensures.number (search rules) }

pub returns : goal.returns
returns c = record { answer = reads_some c.args.self.now.committed c.number.result c.args.reader.now c.is_live.result c.is_empty.result c.is_live.ensures.live c.number.ensures.number c.is_empty.ensures.empty (search rules) }
