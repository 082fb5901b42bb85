use Rattle.base_types.specs.Meanings.{rule_of}
use Rattle.chase_violation.proofs.Firsts.{holds_if_none}
use Rattle.chase_violation.proofs.first.holds.Goals as goal

pub returns : goal.returns
returns g c = record { decides = holds_if_none (rule_of c.args.mapping.now) (g.F.Facts.tuples c.args.facts.now) c.in_ok-first.first c.is_none.result c.is_none.ensures c.in_ok-first.ensures.image }
