use Rattle.lang_schema.proofs.Starting.{still_starts}
use Rattle.lang_schema.proofs.printing.push_others.Goals as goal

pub returns-in_err-push_other-clause-err : goal.returns-in_err-push_other-clause-err
returns-in_err-push_other-clause-err c =
    still_starts c.from_residual.result c.args.out.now.items _ c.loop-value.out.items c.push_other.new.out.items c.loop-value.invariant c.in_err-push_other.ensures.err
