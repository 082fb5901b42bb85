use Rattle.std.proofs.Common.{refl}
use Rattle.base_types.specs.Meanings.{null_of}
use Rattle.ws_names.specs.Meanings.{cause_of}
use Rattle.ws_run.proofs.Generated.{on_ok}
use Rattle.ws_run.proofs.Naming.{named}
use Rattle.ws_run.proofs.drawing.name_one.Goals as goal

-- The null has the name of its cause's place.
pub returns-clause-named : goal.returns-clause-named
returns-clause-named c =
    on_ok c.give-2.result
    (λ is_names gs. named c.args.names.now c.give-2.new.self c.args.thread.now record { places = c.give.new.places; given = c.push.new.self; taken = c.args.thread.now.taken; steps = c.args.thread.now.steps; ops = c.args.thread.now.ops; writes = c.args.thread.now.writes } gs (cause_of c.args.cause) c.args.number c.in_ok-place.place (null_of c.args.null)
    c.in_ok-place.ensures.number c.in_ok-place.ensures.table c.in_ok-push.ensures.ok refl refl is_names)
    c.give-2.ensures.ok
