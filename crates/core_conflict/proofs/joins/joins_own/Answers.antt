use Rattle.std.proofs.Common.{◌≡◌, ◌∙◌, sym, false, map, arith}
use Rattle.std.proofs.lemmas.Grind.{common_steps}
use Rattle.base_types.specs.Meanings.{change_of, fact_of, heading_of, pattern_of, rule_of}
use Rattle.core_conflict.proofs.Unmet.{unmentioned}
use Rattle.core_conflict.proofs.joins.joins_own.Goals as goal

pub returns-then-not-stands_in : goal.returns-then-not-stands_in
returns-then-not-stands_in c =
    let m : c.stands_in.result ≡ false = grind (arith, common_steps) in
    sym (unmentioned (heading_of c.args.direction) (map pattern_of c.args.atoms.now) (rule_of c.args.mapping.now) (fact_of c.args.tuple.now) (map change_of c.args.own.now) (sym c.stands_in.ensures ∙ m))
