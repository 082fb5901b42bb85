use Rattle.std.proofs.Common.{ap, map, refl, List}
use Rattle.base_types.specs.Meanings.{choice_of}
use Rattle.def_machine.specs.Effects.{with_answers}
use Rattle.def_chase.specs.Updates.{Choice}
use Rattle.def_steps.specs.Chase.{caused_chase}
use Rattle.audit_updates.proofs.Answering.{one_more_after}
use Rattle.audit_updates.specs.Updates.{update_of}
use Rattle.audit_updates.proofs.updates.AuditedUpdate.answer.Goals as goal

pub returns-clause-answered : goal.returns-clause-answered
returns-clause-answered c = λ ms B.
    ap (λ (answers : List Choice). with_answers (caused_chase ms B) (update_of ms B c.args.self.now) answers (map choice_of c.args.self.now.inbox.items))
    (one_more_after choice_of c.args.self.now.answers.items _ c.put_at.new.answers.items c.taken-taken.result _ c.args.choice c.taken-taken.ensures.taken refl c.in_ok-put_at.ensures.put)
