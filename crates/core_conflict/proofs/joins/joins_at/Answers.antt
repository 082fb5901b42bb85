use Rattle.std.proofs.Common.{◌≡◌, ◌∙◌, sym, false, map, arith}
use Rattle.std.proofs.lemmas.Grind.{common_steps}
use Rattle.base_types.specs.Meanings.{fact_of, pattern_of}
use Rattle.core_conflict.proofs.Unmet.{elsewhere}
use Rattle.core_conflict.proofs.joins.joins_at.Goals as goal

pub returns-then-not-is_at : goal.returns-then-not-is_at
returns-then-not-is_at c =
    let m : c.is_at.result ≡ false = grind (arith, common_steps) in
    elsewhere (pattern_of c.args.atom.now) (fact_of c.args.own.now) (fact_of c.args.tuple.now) (map pattern_of c.args.others.now) (sym c.is_at.ensures ∙ m)
