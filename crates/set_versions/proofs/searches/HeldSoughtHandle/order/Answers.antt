use Rattle.std.proofs.Common.{ap, sym, ◌∙◌}
use Rattle.std.specs.declared.cmp.Ordering.TheVariants.{Less, Greater}
use Rattle.base_types.specs.Meanings.{fact_of}
use Rattle.set_versions.specs.Ranks.{rank_of}
use Rattle.set_versions.proofs.Ranking.{ranks_tell}
use Rattle.set_versions.proofs.searches.HeldSoughtHandle.order.Goals as goal

pub returns-in-Less : goal.returns-in-Less
returns-in-Less c =
    ranks_tell (fact_of c.args.self.now) (fact_of c.args.other.now) (c.self.invariant ∙ ap (λ t. rank_of (fact_of t)) c.self.view_is) c.rank.ensures.rank Less
    (sym c.cmp.ensures ∙ c.in-Less.is)

pub returns-in-Greater : goal.returns-in-Greater
returns-in-Greater c =
    ranks_tell (fact_of c.args.self.now) (fact_of c.args.other.now) (c.self.invariant ∙ ap (λ t. rank_of (fact_of t)) c.self.view_is) c.rank.ensures.rank Greater
    (sym c.cmp.ensures ∙ c.in-Greater.is)
