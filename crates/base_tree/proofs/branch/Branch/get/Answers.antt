use Rattle.std.proofs.Common.{sym, ◌∙◌}
use Rattle.base_tree.proofs.Changes.{at_node, find_left, find_here, find_right}
use Rattle.base_tree.proofs.branch.Branch.get.Goals as goal

pub returns-in-Equal : goal.returns-in-Equal
returns-in-Equal g c =
    let a = at_node g.K.Ord.cmp c.here.view_is c.in-Some.is c.deref-node.ensures c.loop-here.invariant.0 in
    sym (c.loop-here.invariant.1 ∙ find_here g.met.K.Ord.total a.is a.sides (sym c.cmp.ensures ∙ c.in-Equal.is))

pub loop-here-preserved-in-Less : goal.loop-here-preserved-in-Less
loop-here-preserved-in-Less g c =
    let a = at_node g.K.Ord.cmp c.here.view_is c.in-Some.is c.deref-node.ensures c.loop-here.invariant.0 in
    (a.sides.left, c.loop-here.invariant.1 ∙ find_left g.met.K.Ord.total a.is a.sides (sym c.cmp.ensures ∙ c.in-Less.is))

pub loop-here-preserved : goal.loop-here-preserved
loop-here-preserved g c =
    let a = at_node g.K.Ord.cmp c.here.view_is c.in-Some.is c.deref-node.ensures c.loop-here.invariant.0 in
    (a.sides.right, c.loop-here.invariant.1 ∙ find_right g.met.K.Ord.total a.is a.sides (sym c.cmp.ensures ∙ c.in-Greater.is))
