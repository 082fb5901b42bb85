use Rattle.base_tree.proofs.Keeping.{ordered_put}
use Rattle.base_tree.proofs.Lengths.{counted_new, counted_old}
use Rattle.base_tree.proofs.maps.TreeMap.put.Goals as goal

pub invariant_of-self-in-Some : goal.invariant_of-self-in-Some
invariant_of-self-in-Some g c = (
  ordered_put g.met.K.Ord.total _ _ _ c.in_ok-before.ensures.ok c.self.invariant.0,
  counted_old g.met.K.Ord.total c.args.key c.args.value c.self.inside.entries c.in_ok-before.ensures.ok c.self.inside.count c.self.invariant.1 c.in_ok-before.ensures.before c.in-Some.is c.self.invariant.0,
)

pub invariant_of-self-in-None : goal.invariant_of-self-in-None
invariant_of-self-in-None g c = (
  ordered_put g.met.K.Ord.total _ _ _ c.in_ok-before.ensures.ok c.self.invariant.0,
  counted_new g.met.K.Ord.total c.args.key c.args.value c.self.inside.entries c.in_ok-before.ensures.ok c.self.inside.count c.self.invariant.1 c.in_ok-before.ensures.before c.in-None.is,
)

pub returns-in-Some-clause-in_order : goal.returns-in-Some-clause-in_order
returns-in-Some-clause-in_order g c = ordered_put g.met.K.Ord.total _ _ _ c.in_ok-before.ensures.ok c.self.invariant.0

pub returns-in-None-clause-in_order : goal.returns-in-None-clause-in_order
returns-in-None-clause-in_order g c = ordered_put g.met.K.Ord.total _ _ _ c.in_ok-before.ensures.ok c.self.invariant.0
