use Rattle.std.proofs.Common.{sym, ◌∙◌}
use Rattle.lang_lex.proofs.Stepped.{blank}
use Rattle.lang_lex.proofs.steps.after_blanks.Goals as goal

pub loop-from-preserved : goal.loop-from-preserved
loop-from-preserved c = c.loop-from.invariant ∙ sym (blank c.loop-from.from c.args.line.now c.loop-from-test.true (sym c.if-not-is_blank.ensures))
