use Rattle.std.proofs.Common.{◌≡◌, true, refl, sym, subst, List, map}
use Rattle.std.specs.List.{list_all}
use Rattle.base_types.specs.Contents.{rules_in}
use Rattle.base_types.specs.Meanings.{change_of}
use Rattle.def_chase.proofs.Bools.{both}
use Rattle.core_conflict.specs.Impacts.{has_change}
use Rattle.core_conflict.specs.declared.concerns.Sense.TheVariants.{Went}
use Rattle.core_conflict.specs.declared.concerns.Trail.{Trail}
use Rattle.core_cascade.specs.Walks.{has_own_impact}
use Rattle.core_cascade.proofs.Meeting.{all_and_one}
use Rattle.core_cascade.proofs.lost.Lost.lose.Goals as goal

pub returns-clause-impact : goal.returns-clause-impact
returns-clause-impact c =
    let ms = rules_in c.args.mappings.now in
    subst (λ (ts : List Trail). list_all (has_own_impact ms) ts ≡ true) (sym c.in_ok-push.ensures.items)
    (all_and_one (has_own_impact ms) c.args.self.now.members.items _ c.requires.impact
    (both (list_all (has_change c.with-impact.result ms Went) (map change_of c.args.trail.now)) true c.with-impact.ensures.has refl))
