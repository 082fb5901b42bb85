use Rattle.std.proofs.Common.{◌+◌, arith, sym}
use Rattle.base_types.specs.Meanings.{rule_of}
use Rattle.chase_update.proofs.PassedBy.{passes_by, passes_end}
use Rattle.chase_update.proofs.passing.in_play.Goals as goal

pub returns-else-mapping-number-clause-passed : goal.returns-else-mapping-number-clause-passed
returns-else-mapping-number-clause-passed c =
    λ P e. passes_by P c.args.mappings.now c.args.place (c.args.place + 1) (rule_of c.in-Some.mapping.now) (omega arith) (sym c.in-Some.ensures.item) (omega arith)

pub returns-in-None-clause-passed : goal.returns-in-None-clause-passed
returns-in-None-clause-passed c = λ P e. passes_end P c.args.mappings.now c.args.place (c.args.place + 1) (omega arith) c.in-None.ensures.item
