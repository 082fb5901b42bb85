use Rattle.std.proofs.Common.{◌∙◌, ap, sym, subst, List, map}
use Rattle.def_chase.specs.Repository.{apply}
use Rattle.base_types.specs.Meanings.{change_of}
use Rattle.base_types.specs.declared.updates.Write.{Write}
use Rattle.chase_eval.specs.Watched.{AreForceless}
use Rattle.chase_eval.proofs.Forces.{forceless_on}
use Rattle.chase_eval.proofs.Written.{made_so}
use Rattle.chase_eval.proofs.view.View.write.Goals as goal

pub invariant_of-self-2 : goal.invariant_of-self-2
invariant_of-self-2 g c =
    let D = g.F.Facts.tuples c.self.inside.below.now in
    let same = sym c.reserve.ensures.same in (
      made_so D c.self.inside.overlay c.write.new.self c.reserve.new.self.items c.push.new.self.items c.args.write.now c.in_ok-copy.copy
          (c.self.invariant.0 ∙ ap (λ (ws : List Write). apply D (map change_of ws)) same)
          c.in_ok-write.ensures.ok c.in_ok-copy.ensures.same c.in_ok-push.ensures.ok,
      forceless_on c.self.inside.enacts c.enacts_with-self-inside.result c.reserve.new.self.items c.push.new.self.items c.args.write.now c.in_ok-copy.copy
          (subst (λ (ws : List Write). AreForceless c.self.inside.enacts (map change_of ws)) same c.self.invariant.1)
          c.enacts_with-self-inside.ensures.either c.in_ok-copy.ensures.same c.in_ok-push.ensures.ok,
    )
