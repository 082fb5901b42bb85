use Rattle.std.proofs.Common.{◌≡◌, ◌+◌, suc, subst, arith, ℕ, take, map}
use Rattle.def_language.specs.Grammar.{statement_words}
use Rattle.lang_print.specs.Lines.{relation_statement, with_line, with_lines}
use Rattle.lang_print.proofs.Onward.{placed_more}
use Rattle.lang_print.proofs.lines.with_relations.Goals as goal

pub loop-number-preserved : goal.loop-number-preserved
loop-number-preserved c =
    let further : suc c.loop-number.number ≡ c.loop-number.number + 1 = omega arith in
    subst (λ (n : ℕ). c.in_ok-page.page ≡ with_lines statement_words c.args.page (map relation_statement (take n c.args.schema.now))) further
    (placed_more (λ page st. with_line page (statement_words st)) relation_statement c.args.page c.loop-number.page c.in_ok-page.page c.args.schema.now c.loop-number.number
    (rw (← c.len-number-end.ensures.length) c.loop-number-test.true) c.loop-number.invariant c.in_ok-page.ensures)
