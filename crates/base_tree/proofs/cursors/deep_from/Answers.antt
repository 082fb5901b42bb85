use Rattle.std.proofs.Common.{sym}
use Rattle.base_tree.specs.Orders.{is_reached}
use Rattle.base_tree.proofs.Passing.{from_found, none_passes}
use Rattle.base_tree.proofs.cursors.deep_from.Goals as goal

pub returns-in-Some-clause-rest : goal.returns-in-Some-clause-rest
returns-in-Some-clause-rest g c = from_found g.met.K.Ord.total (g.C.Cut.reaches c.args.cut.now) (g.met.C.Cut.rises c.args.cut.now) c.args.branch.now c.requires (sym c.in-Some.ensures)

pub returns-in-None-clause-rest : goal.returns-in-None-clause-rest
returns-in-None-clause-rest g c = none_passes (is_reached (g.C.Cut.reaches c.args.cut.now)) c.args.branch.now (sym c.in-None.ensures)
