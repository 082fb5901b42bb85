use Rattle.std.proofs.Common.{◌∙◌, sym, map}
use Rattle.base_types.specs.Meanings.{change_of}
use Rattle.chase_eval.proofs.Forces.{none_forced}
use Rattle.chase_eval.proofs.scopes.is_put_in_force.Goals as goal

pub returns-else-enacts : goal.returns-else-enacts
returns-else-enacts c = record { answer = c.if-enacts.false ∙ sym (none_forced c.args.number (map change_of c.args.writes.now.items) (c.requires c.if-enacts.false)) }
