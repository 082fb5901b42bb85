use Rattle.std.proofs.Common.{◌∙◌, ◌++◌, ap, sym, map, [], ◌∷◌}
use Rattle.base_types.specs.Meanings.{fact_of}
use Rattle.chase_unifier.proofs.Ground.{not_there, there_once}
use Rattle.chase_unifier.proofs.finding.itself.Goals as goal

pub returns-then-not-contains : goal.returns-then-not-contains
returns-then-not-contains g c =
    let D = g.F.Facts.tuples c.args.facts.now in
    record { same = ap (map fact_of) c.new-found.ensures.empty ∙ not_there (fact_of c.args.tuple.now) D (sym c.if-not-contains.ensures.answer) }

pub returns : goal.returns
returns g c =
    let D = g.F.Facts.tuples c.args.facts.now in
    record {
      same = ap (map fact_of) c.in_ok-push.ensures.ok
          ∙ (ap (λ l. map fact_of (l ++ c.in_ok-copy.field-0 ∷ [])) c.new-found.ensures.empty
          ∙ (ap (λ f. f ∷ []) c.in_ok-copy.ensures.same
          ∙ there_once (fact_of c.args.tuple.now) D c.contains.ensures.in_order (sym c.if-not-contains.ensures.answer)));
    }
