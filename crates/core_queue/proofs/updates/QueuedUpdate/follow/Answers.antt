use Rattle.std.proofs.Common.{◌∙◌, ◌++◌, ap, map, sym, subst, length, drop, List, rules}
use Rattle.std.proofs.lemmas.List.{length-map}
use Rattle.base_types.specs.Meanings.{change_of}
use Rattle.base_types.specs.declared.updates.Write.{Write}
use Rattle.core_conflict.specs.Footprints.{Covers}
use Rattle.def_chase.specs.Repository.{Change}
use Rattle.chase_query.specs.Meanings.{reads_in}
use Rattle.chase_query.specs.declared.log.Logged.{Logged}
use Rattle.core_queue.specs.Queues.{update_of}
use Rattle.core_queue.specs.declared.updates.QueuedUpdate.{QueuedUpdate}
use Rattle.core_queue.proofs.Following.{covers_by, own_by, stepped_by}
use Rattle.core_queue.proofs.updates.QueuedUpdate.follow.Goals as goal

pub returns-clause-stepped : goal.returns-clause-stepped
returns-clause-stepped c = λ ms B D p.
    let old : QueuedUpdate = c.args.self.now in
    ap (λ q. update_of ms B (record old { program = q; log = c.take_over.new.log })) c.renew.ensures.fresh
    ∙ stepped_by ms B D old c.args.plan _ p c.take_over.ensures.all

pub returns-clause-place : goal.returns-clause-place
returns-clause-place c = λ ms B D n p s.
    let old : QueuedUpdate = c.args.self.now in
    let writes : List Change = map change_of c.since-writes.result.now in
    record {
      number = search (rules, p);
      between = search (rules, p);
      covers =
          covers_by c.after-self.result (old.program.attempt.own ++ writes) c.renew.new.place.attempt.own old.log.items c.args.plan.reads.items c.take_over.new.log.items
          (subst (λ (es : List Logged). Covers c.after-self.result (old.program.attempt.own ++ writes) (reads_in old.log.items ++ reads_in es)) c.as_slice-2.ensures.items
          (c.after-self.ensures.covers old.program.attempt.own (reads_in old.log.items) s.covers))
          (own_by ms B D old c.args.plan writes c.len-made.result p
          (c.len-made.ensures.length ∙ (sym (length-map c.own.result.now.items change_of) ∙ ap length c.own.ensures.own))
          (c.since-writes.ensures.since ∙ (ap (λ (ws : List Write). drop c.len-made.result (map change_of ws)) c.as_slice.ensures.items ∙ ap (drop c.len-made.result) c.own-2.ensures.own))
          ∙ ap (λ q. q.attempt.own) (sym c.renew.ensures.fresh))
          c.take_over.ensures.all;
    }
