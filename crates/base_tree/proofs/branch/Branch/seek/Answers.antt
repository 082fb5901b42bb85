use Rattle.std.proofs.Common.{ap, sym, ◌∙◌}
use Rattle.std.specs.Option.{option_copied, option_or}
use Rattle.base_tree.proofs.Changes.{at_node, seek_left, seek_right, or_some}
use Rattle.base_tree.proofs.branch.Branch.seek.Goals as goal

pub loop-here-preserved-then-reaches : goal.loop-here-preserved-then-reaches
loop-here-preserved-then-reaches g c =
    let a = at_node g.K.Ord.cmp c.here.view_is c.in-Some.is c.deref-node.ensures c.loop-here.invariant.0 in
    let p = g.C.Cut.reaches c.args.cut.now in (
      a.sides.left,
      c.loop-here.invariant.1
          ∙ ap (λ f. option_or f (option_copied c.loop-here.best)) (seek_left p (g.met.C.Cut.rises c.args.cut.now) a.is a.sides (sym c.reaches.ensures ∙ c.if-reaches.true)) ∙ or_some _ _ _,
    )

pub loop-here-preserved : goal.loop-here-preserved
loop-here-preserved g c =
    let a = at_node g.K.Ord.cmp c.here.view_is c.in-Some.is c.deref-node.ensures c.loop-here.invariant.0 in
    let p = g.C.Cut.reaches c.args.cut.now in (
      a.sides.right,
      c.loop-here.invariant.1
          ∙ ap (λ f. option_or f (option_copied c.loop-here.best)) (seek_right p (g.met.C.Cut.rises c.args.cut.now) a.is a.sides (sym c.reaches.ensures ∙ c.if-reaches.false)),
    )
