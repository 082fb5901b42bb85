use Rattle.std.proofs.Common.{refl, length}
use Rattle.std.proofs.lemmas.Option.{slice_get_read}
use Rattle.ws_state.proofs.Keeping.{one_kept, all_kept}
use Rattle.ws_state.proofs.folding.waits_kept.Goals as goal

pub loop-one-preserved : goal.loop-one-preserved
loop-one-preserved c =
    let there = slice_get_read c.args.held.now (length c.args.held.now) c.one-item.result.held c.in-Some.held.now refl c.in-Some.ensures.lookup.3.0 c.in-Some.ensures.lookup.1 in
    one_kept c.args.held.now c.args.waiting.now c.loop-one.one-index c.one-item.result c.in-Some.held.now c.loop-one.waits.items c.push.new.self.items c.in_ok-wait_kept.field-0
    c.loop-one-test.true c.one-item.is there c.in_ok-wait_kept.ensures.number c.in_ok-push.ensures.ok c.loop-one.invariant

pub returns : goal.returns
returns c = record { kept = all_kept c.args.held.now c.args.waiting.now c.loop-one.one-index c.loop-one.waits.items c.loop-one-test.false c.loop-one.invariant }
