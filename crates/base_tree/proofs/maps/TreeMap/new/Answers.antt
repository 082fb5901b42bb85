use Rattle.std.proofs.Common.{ap, length}
use Rattle.base_tree.proofs.Keeping.{ordered_empty}
use Rattle.base_tree.proofs.maps.TreeMap.new.Goals as goal

pub invariant_of-result : goal.invariant_of-result
invariant_of-result g c = (ordered_empty g.K.Ord.cmp c.new.ensures.empty, ap length c.new.ensures.empty)

pub returns-clause-in_order : goal.returns-clause-in_order
returns-clause-in_order g c = ordered_empty g.K.Ord.cmp c.new.ensures.empty
