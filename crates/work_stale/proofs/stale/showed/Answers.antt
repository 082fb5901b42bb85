use Rattle.std.proofs.Common.{map, take, ◌-◌, ◌||◌, arith, ap, sym, ◌∙◌}
use Rattle.core_entries.specs.Meanings.{entry_of}
use Rattle.work_stale.specs.Shown.{trail_by}
use Rattle.work_stale.specs.Stale.{mentioned_by, any_of}
use Rattle.work_stale.proofs.Walking.{taken_last, not_taken_last}
use Rattle.work_stale.proofs.stale.showed.Goals as goal

pub returns-then-takes_away : goal.returns-then-takes_away
returns-then-takes_away c =
    sym (c.loop-place.invariant ∙ taken_last (mentioned_by c.args.mappings.now c.args.reads.now) c.args.by c.loop-place.place c.args.before.now c.index-before-place.result (omega (arith, c.loop-place-test.true)) (omega (arith, c.loop-place.auto.place)) c.index-before-place.is (sym c.takes_away.ensures ∙ c.if-takes_away.true))

pub returns-then-any_read : goal.returns-then-any_read
returns-then-any_read c =
    sym (c.loop-place.invariant ∙ not_taken_last (mentioned_by c.args.mappings.now c.args.reads.now) c.args.by c.loop-place.place c.args.before.now c.index-before-place.result (omega (arith, c.loop-place-test.true)) (omega (arith, c.loop-place.auto.place)) c.index-before-place.is (sym c.takes_away.ensures ∙ c.if-takes_away.false)
    ∙ ap (λ b. b || any_of (mentioned_by c.args.mappings.now c.args.reads.now) (trail_by c.args.by (map entry_of (take (c.loop-place.place - 1) c.args.before.now)))) (ap (any_of (mentioned_by c.args.mappings.now c.args.reads.now)) (sym c.shown_by.ensures) ∙ sym c.any_read.ensures ∙ c.if-any_read.true))

pub loop-place-preserved : goal.loop-place-preserved
loop-place-preserved c =
    c.loop-place.invariant ∙ not_taken_last (mentioned_by c.args.mappings.now c.args.reads.now) c.args.by c.loop-place.place c.args.before.now c.index-before-place.result (omega (arith, c.loop-place-test.true)) (omega (arith, c.loop-place.auto.place)) c.index-before-place.is (sym c.takes_away.ensures ∙ c.if-takes_away.false)
    ∙ ap (λ b. b || any_of (mentioned_by c.args.mappings.now c.args.reads.now) (trail_by c.args.by (map entry_of (take (c.loop-place.place - 1) c.args.before.now)))) (ap (any_of (mentioned_by c.args.mappings.now c.args.reads.now)) (sym c.shown_by.ensures) ∙ sym c.any_read.ensures ∙ c.if-any_read.false)
