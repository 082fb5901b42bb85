use Rattle.std.proofs.Common.{map, rules, subst, sym, true, false, Bool, ◌≡◌, arith}
use Rattle.std.proofs.lemmas.Grind.{common_steps}
use Rattle.base_types.specs.Meanings.{fact_of, pattern_of}
use Rattle.core_conflict.specs.Impacts.{has_right}
use Rattle.core_conflict.proofs.Within.{right_there, right_added}
use Rattle.core_conflict.proofs.impacts.Reach.with_right.Goals as goal

pub returns-then-adds-clause-has : goal.returns-then-adds-clause-has
returns-then-adds-clause-has c = right_added (map pattern_of c.args.atoms.now) c.args.adds (fact_of c.args.tuple.now) c.args.self c.if-adds.true

pub returns-clause-has : goal.returns-clause-has
returns-clause-has c =
    let m : c.args.adds ≡ false = grind (arith, common_steps) in
    subst (λ (b : Bool). has_right c.widened.result (map pattern_of c.args.atoms.now) b (fact_of c.args.tuple.now) ≡ true) (sym m)
    (right_there (map pattern_of c.args.atoms.now) (fact_of c.args.tuple.now) c.widened.result c.stands_in.result c.stands_in.ensures c.widened.ensures.every)
