use Rattle.set_versions.proofs.Both.{seen_ordered}
use Rattle.set_versions.proofs.versions.Versions.is_in_order.Goals as goal

pub returns : goal.returns
returns c = record { in_order = seen_ordered c.args.number c.args.self.now c.base.ensures.kept }
