use Rattle.lang_checks.proofs.Bits.{bit_of_both}
use Rattle.lang_checks.proofs.relations.RelationSet.joined.Goals as goal

pub returns-clause-joined : goal.returns-clause-joined
returns-clause-joined c = bit_of_both c.args.self.bits c.args.other.bits
