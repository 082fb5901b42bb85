use Rattle.std.proofs.Common.{sym, subst}
use Rattle.def_chase.specs.Repository.{IsRepository}
use Rattle.set_facts.specs.Rising.{tuples_held}
use Rattle.set_facts.proofs.group.Group.remove.Goals as goal
use Rattle.set_facts.proofs.group.Group.remove.Goals.{in-Listed, in-Tree}

pub invariant_of-self : goal.invariant_of-self
invariant_of-self c = elim c.match-self.branch [
  | in-Listed w ↦ subst (λ g. IsRepository (tuples_held g.held)) (sym w.self-inside-is) w.remove.ensures.in_order
  | in-Tree w ↦ subst (λ g. IsRepository (tuples_held g.held)) (sym w.self-inside-is) w.remove-in-Tree.ensures.in_order
]
