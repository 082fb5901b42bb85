use Rattle.std.proofs.Common.{◌≡◌, ◌∙◌, suc, ap, length, List, sym, subst, arith}
use Rattle.base_tree.specs.Orders.{without}
use Rattle.base_tree.proofs.Keeping.{ordered_without, none_there}
use Rattle.base_tree.proofs.Lengths.{shorter}
use Rattle.base_tree.proofs.maps.TreeMap.remove.Goals as goal

pub invariant_of-self-in_default : goal.invariant_of-self-in_default
invariant_of-self-in_default g c =
    let less : suc (length c.remove.new.self) ≡ length c.self.inside.entries =
    ap (λ d. suc (length d)) c.in_ok-remove.ensures.ok ∙ shorter g.met.K.Ord.total c.args.key.now c.self.inside.entries c.self.invariant.0 (sym c.in_default.ensures) in
    let long = c.self.invariant.1 in
    (ordered_without g.K.Ord.cmp _ _ c.in_ok-remove.ensures.ok c.self.invariant.0, omega (arith, less, long))

pub returns-clause-ok : goal.returns-clause-ok
returns-clause-ok g c =
    let P = λ (d : List (g.row.K.Denot × g.row.V.Denot)). d ≡ without g.K.Ord.cmp c.args.key.now d in
    subst P c.self.view_is (none_there g.K.Ord.cmp c.args.key.now c.self.inside.entries (sym c.in-None.ensures))

pub returns-in_default-clause-in_order : goal.returns-in_default-clause-in_order
returns-in_default-clause-in_order g c = ordered_without g.K.Ord.cmp _ _ c.in_ok-remove.ensures.ok c.self.invariant.0
