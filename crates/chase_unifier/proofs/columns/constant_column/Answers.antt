use Rattle.std.proofs.Common.{◌∙◌, sym}
use Rattle.chase_unifier.proofs.Going.{constant_at}
use Rattle.chase_unifier.proofs.columns.constant_column.Goals as goal

pub returns-then-is_constant : goal.returns-then-is_constant
returns-then-is_constant c = record { constant = constant_at c.args.tuple.now c.loop-number.number c.in_ok-value.value.now (sym c.in_ok-value.ensures.item) (sym c.is_constant.ensures.answer ∙ c.if-is_constant.true) }
