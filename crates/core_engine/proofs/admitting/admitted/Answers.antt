use Rattle.std.proofs.Common.{◌∙◌, ap, sym, ◌++◌, List, append-nil}
use Rattle.std.proofs.Math.ListN.{drop_of_length-le}
use Rattle.core_queue.specs.Queues.{updates_of}
use Rattle.lang_session.specs.declared.sessions.SessionUpdate.{SessionUpdate}
use Rattle.def_steps.specs.Chase.{caused_chase}
use Rattle.core_engine.specs.Admitted.{admitted_from, handed_in}
use Rattle.core_engine.proofs.Entering.{number_more, long_more, all_from_more, done_more}
use Rattle.core_engine.proofs.admitting.admitted.Goals as goal

pub loop-update-preserved : goal.loop-update-preserved
loop-update-preserved c =
    let us = c.args.updates.now in
    let i = c.loop-update.update-index in
    let n = c.loop-update.number in
    let u = c.update-item.result in
    let qs = c.loop-update.queue.items in
    let qs' = c.push.new.self.items in
    let r = c.in_ok-admit.field-0 in
    let number = c.loop-update.invariant.number in
    let grew = c.in_ok-push.ensures.items in
    record {
      number = number_more us i n u qs qs' r number grew;
      long = long_more us i n u qs qs' r number grew c.loop-update.invariant.long;
      from = all_from_more us i n u qs qs' r number grew c.loop-update.invariant.from c.in_ok-admit.ensures.place;
      done = done_more us i n u qs qs' r number grew c.loop-update.invariant.done c.loop-update-test.true c.update-item.is c.in_ok-admit.ensures.admitted;
    }

pub returns-clause-admitted : goal.returns-clause-admitted
returns-clause-admitted c =
    λ ms B. sym (append-nil (updates_of ms B c.loop-update.queue.items))
    ∙ ap (λ (us : List SessionUpdate). updates_of ms B c.loop-update.queue.items ++ admitted_from (caused_chase ms B) c.loop-update.number (handed_in ms B us)) (sym (drop_of_length-le c.args.updates.now c.loop-update-test.false))
    ∙ c.loop-update.invariant.done ms B
