use Rattle.std.proofs.Common.{◌∙◌, sym}
use Rattle.lang_checks.proofs.Rows.{no_round, none_more, one_round}
use Rattle.lang_checks.proofs.cycles.goes_round.Goals as goal

pub returns-then-has : goal.returns-then-has
returns-then-has c = record { round = λ edge table. sym (one_round edge c.args.rows.now (record { bits = 0 }) c.loop-place.place table c.requires c.loop-place-test.true (sym c.has.ensures.has ∙ c.if-has.true)) }

pub loop-place-preserved : goal.loop-place-preserved
loop-place-preserved c = none_more c.args.rows.now (record { bits = 0 }) c.loop-place.place c.loop-place.invariant (sym c.has.ensures.has ∙ c.if-has.false)

pub returns : goal.returns
returns c = record { round = λ edge table. sym (no_round edge c.args.rows.now (record { bits = 0 }) c.loop-place.place table c.requires c.loop-place-test.false c.loop-place.invariant) }
