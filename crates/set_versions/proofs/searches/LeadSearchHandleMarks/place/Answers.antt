use Rattle.std.proofs.Common.{ap, sym, ◌∙◌, Some}
use Rattle.std.specs.declared.cmp.Ordering.TheVariants.{Less, Greater}
use Rattle.base_types.specs.Meanings.{fact_of}
use Rattle.set_versions.specs.Ranks.{rank_at}
use Rattle.set_versions.specs.Zones.{Leading}
use Rattle.set_versions.proofs.Ranking.{leads_tell}
use Rattle.set_versions.proofs.searches.LeadSearchHandleMarks.place.Goals as goal

pub returns-in-Less : goal.returns-in-Less
returns-in-Less c =
    let s = c.args.self.now in
    leads_tell s.relation s.value s.past (fact_of c.args.key.now) c.rank.ensures.rank (c.self.invariant ∙ ap (λ (q : Leading). rank_at q.relation (Some q.value)) c.self.view_is) Less
    (sym c.cmp.ensures ∙ c.in-Less.is)

pub returns-in-Greater : goal.returns-in-Greater
returns-in-Greater c =
    let s = c.args.self.now in
    leads_tell s.relation s.value s.past (fact_of c.args.key.now) c.rank.ensures.rank (c.self.invariant ∙ ap (λ (q : Leading). rank_at q.relation (Some q.value)) c.self.view_is) Greater
    (sym c.cmp.ensures ∙ c.in-Greater.is)
