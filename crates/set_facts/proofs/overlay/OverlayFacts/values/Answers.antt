use Rattle.std.proofs.Common.{subst, List}
use Rattle.def_chase.specs.Values.{Datum, Fact}
use Rattle.base_types.specs.Candidates.{AreAllInColumn}
use Rattle.set_facts.proofs.Spanning.{values_weaker, values_overlaid}
use Rattle.set_facts.proofs.overlay.OverlayFacts.values.Goals as goal

pub returns-then-is_beside : goal.returns-then-is_beside
returns-then-is_beside g c =
    let r = c.args.relation in
    let column = c.args.column in
    let D = g.F.Facts.tuples c.self.inside.facts.now in
    record {
      all = values_weaker (λ (ds : List Datum). AreAllInColumn ds D r column) (λ (ds : List Datum). AreAllInColumn ds c.args.self.now r column) c.values.result
          (λ ds h. subst (λ (E : List Fact). AreAllInColumn ds E r column) c.self.view_is (values_overlaid D c.self.inside.gone c.self.inside.added r column ds (c.is_beside.ensures.none c.if-is_beside.true) h))
          c.values.ensures.all;
    }
