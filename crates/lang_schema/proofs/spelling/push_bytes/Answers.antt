use Rattle.lang_schema.proofs.Starting.{still_starts}
use Rattle.lang_schema.proofs.spelling.push_bytes.Goals as goal

pub returns-in_err-push_byte-clause-err : goal.returns-in_err-push_byte-clause-err
returns-in_err-push_byte-clause-err c =
    still_starts c.from_residual.result c.args.out.now.items _ c.loop-byte.out.items c.push_byte.new.out.items c.loop-byte.invariant c.in_err-push_byte.ensures.err
