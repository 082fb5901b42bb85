use Rattle.std.proofs.Common.{sym, ◌∙◌}
use Rattle.base_tree.proofs.Changes.{at_node}
use Rattle.base_tree.proofs.Passing.{went_left, went_right, path_pushed}
use Rattle.base_tree.proofs.cursors.descend.Goals as goal

pub loop-here-preserved-then-reaches : goal.loop-here-preserved-then-reaches
loop-here-preserved-then-reaches g c =
    let a = at_node g.K.Ord.cmp c.here.view_is c.in-Some.is c.deref-node.ensures c.loop-here.invariant.0 in (
      a.sides.left,
      path_pushed c.loop-here.path.items c.deref-node.result a c.loop-here.invariant.1 c.push.ensures.items,
      went_left (g.C.Cut.reaches c.args.cut.now) (g.met.C.Cut.rises c.args.cut.now) c.loop-here.path.items c.deref-node.result a c.loop-here.invariant.2 c.push.ensures.items (sym c.reaches.ensures ∙ c.if-reaches.true),
    )

pub loop-here-preserved : goal.loop-here-preserved
loop-here-preserved g c =
    let a = at_node g.K.Ord.cmp c.here.view_is c.in-Some.is c.deref-node.ensures c.loop-here.invariant.0 in (
      a.sides.right,
      c.loop-here.invariant.1,
      went_right (g.C.Cut.reaches c.args.cut.now) (g.met.C.Cut.rises c.args.cut.now) c.loop-here.path.items c.deref-node.result.now a c.loop-here.invariant.2 (sym c.reaches.ensures ∙ c.if-reaches.false),
    )
