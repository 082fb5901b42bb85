use Rattle.std.specs.Prelude.{Result, Ok, Err, OnOk}
use Rattle.audit_updates.proofs.Following.{placed_roomy, stepped_roomy}
use Rattle.audit_updates.proofs.updates.AuditedUpdate.step.Goals as goal

-- What holds in any case holds where all went well.
held_ok : {T E P : Type 0} (r : Result T E) → P → OnOk r P
held_ok (Ok x) p = p
held_ok (Err e) p = tt

pub returns-in-Ok-clause-stepped : goal.returns-in-Ok-clause-stepped
returns-in-Ok-clause-stepped c = held_ok c.follow.result (stepped_roomy c.args.self.now c.reserve.new.self c.args.plan c.follow.new.self c.reserve.ensures.same c.follow.ensures.stepped)

pub returns-in-Ok-clause-place : goal.returns-in-Ok-clause-place
returns-in-Ok-clause-place c = held_ok c.follow.result (placed_roomy c.args.self.now c.reserve.new.self c.args.plan c.follow.new.self c.follow.ensures.place)
