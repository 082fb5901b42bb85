use Rattle.std.proofs.Common.{ap, length, arith}
use Rattle.std.proofs.lemmas.Result.{err_from_is_err_and}
use Rattle.lang_reader.specs.States.{state_of}
use Rattle.lang_reader.proofs.Loop.{took, few, further, goes_on, fails, ends}
use Rattle.lang_reader.proofs.lines.take_lines.Goals as goal

pub overflow_add-number : goal.overflow_add-number
overflow_add-number c =
    let left = took c.lines.rest c.in-Some.text _ _ c.in-Some.is c.first_line.ensures.lines in
    omega (arith, few c.args.bytes.now c.requires.few_lines, c.lines.invariant.number, ap length left)

pub returns-in_err-numbered_line-clause-failed : goal.returns-in_err-numbered_line-clause-failed
returns-in_err-numbered_line-clause-failed c =
    let p = err_from_is_err_and c.from_residual.result c.from_residual.ensures.1 in
    let left = took c.lines.rest c.in-Some.text _ _ c.in-Some.is c.first_line.ensures.lines in
    rw (p.1, p.2) (fails c.lines.number c.lines.start (state_of c.lines.reader) _ c.in_err-numbered_line.field-0.0 _ _ _ left c.lines.invariant.same c.in_err-numbered_line.ensures)

pub lines-preserved : goal.lines-preserved
lines-preserved c =
    let left = took c.lines.rest c.in-Some.text _ _ c.in-Some.is c.first_line.ensures.lines in
    record {
      same = goes_on c.lines.number c.lines.start (state_of c.lines.reader) _ _ _ _ _ left c.lines.invariant.same c.in_ok-numbered_line.ensures;
      number = omega (arith, c.lines.invariant.number, ap length left);
      place = further c.first_line.result.1 c.lines.start (length c.first_line.result.0.now) (length c.in-Some.text.now) (length c.args.bytes.now) c.first_line.ensures.rest (rw c.in-Some.is at c.lines.invariant.place);
    }

pub returns-clause-taken : goal.returns-clause-taken
returns-clause-taken c = ends c.lines.number c.lines.start (state_of c.lines.reader) _ c.lines.rest c.in_default.not-Some c.lines.invariant.same
