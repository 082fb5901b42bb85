use Rattle.std.proofs.Common.{refl, sym, ◌∙◌}
use Rattle.base_types.specs.Meanings.{fact_of}
use Rattle.audit_replay.proofs.Undone.{inserted_back, inserted_nowhere, deleted_back, deleted_nowhere}
use Rattle.audit_replay.proofs.levels.make.Goals as goal

pub returns-in_ok-push-in-Insert-clause-back : goal.returns-in_ok-push-in-Insert-clause-back
returns-in_ok-push-in-Insert-clause-back c =
    inserted_back c.args.facts.now c.insert.new.self c.args.back.now.items c.push.new.self.items (fact_of c.in_ok-copy-in-Insert.field-0) (fact_of c.in_ok-copy-in-Insert-2.field-0) c.in_ok-insert-in-Insert.field-0 _
    c.is_in_order.ensures.in_order c.in_ok-insert-in-Insert.ensures.changed c.if-branch.true c.in_ok-insert-in-Insert.ensures.ok c.in_ok-push-in-Insert.ensures.ok refl
    (c.in_ok-copy-in-Insert-2.ensures.same ∙ sym c.in_ok-copy-in-Insert.ensures.same)

pub returns-else-branch-clause-back : goal.returns-else-branch-clause-back
returns-else-branch-clause-back c =
    inserted_nowhere c.args.facts.now c.insert.new.self c.args.back.now.items (fact_of c.in_ok-copy-in-Insert.field-0) c.in_ok-insert-in-Insert.field-0
    c.is_in_order.ensures.in_order c.in_ok-insert-in-Insert.ensures.changed c.if-branch.false c.in_ok-insert-in-Insert.ensures.ok

pub returns-in_ok-push-in-Delete-clause-back : goal.returns-in_ok-push-in-Delete-clause-back
returns-in_ok-push-in-Delete-clause-back c =
    deleted_back c.args.facts.now c.remove.new.self c.args.back.now.items c.push-then-remove.new.self.items (fact_of c.in-Delete.tuple) (fact_of c.in_ok-copy-in-Delete.field-0) c.remove.result _
    c.is_in_order.ensures.in_order c.remove.ensures.changed c.if-remove.true c.remove.ensures.after c.in_ok-push-in-Delete.ensures.ok refl
    c.in_ok-copy-in-Delete.ensures.same

pub returns-else-remove-clause-back : goal.returns-else-remove-clause-back
returns-else-remove-clause-back c =
    deleted_nowhere c.args.facts.now c.remove.new.self c.args.back.now.items (fact_of c.in-Delete.tuple) c.remove.result
    c.is_in_order.ensures.in_order c.remove.ensures.changed c.if-remove.false c.remove.ensures.after
