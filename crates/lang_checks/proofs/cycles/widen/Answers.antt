use Rattle.std.specs.List.{slice_index_or}
use Rattle.lang_checks.specs.Tables.{widened}
use Rattle.lang_checks.proofs.Rows.{closed_further, one_changed}
use Rattle.lang_checks.proofs.cycles.widen.Goals as goal

pub loop-place-preserved : goal.loop-place-preserved
loop-place-preserved c = one_changed (widened (slice_index_or c.args.rows.now c.args.between (record { bits = 0 })) c.args.between) c.args.rows.now c.loop-place.rows (record { bits = 0 }) c.widened.result c.loop-place.place c.loop-place-test.true c.loop-place.invariant c.widened.ensures.widened

pub returns-clause-closed : goal.returns-clause-closed
returns-clause-closed c = λ edge table. closed_further edge c.args.between c.loop-place.place c.args.rows.now c.loop-place.rows (record { bits = 0 }) c.requires.few c.requires.there c.loop-place-test.false c.loop-place.invariant table
