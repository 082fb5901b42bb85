use Rattle.lang_checks.proofs.Bits.{bit_of_more}
use Rattle.lang_checks.proofs.relations.RelationSet.with.Goals as goal

pub returns : goal.returns
returns c = record { with = λ r lt. bit_of_more c.args.self.bits c.args.relation r c.if-relation-ge128.false }
