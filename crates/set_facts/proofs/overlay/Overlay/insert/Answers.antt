use Rattle.std.proofs.Common.{◌∙◌, ap}
use Rattle.def_chase.specs.Repository.{Insert, change}
use Rattle.def_chase.specs.Values.{Fact}
use Rattle.base_types.specs.Meanings.{fact_of}
use Rattle.set_facts.proofs.Overlays.{insert_added}
use Rattle.set_facts.proofs.overlay.Overlay.insert.Goals as goal

pub returns-clause-ok : goal.returns-clause-ok
returns-clause-ok g c =
    insert_added (g.F.Facts.tuples c.self.inside.facts.now) c.self.inside.gone c.self.inside.added (fact_of c.args.tuple.now) c.self.invariant c.insert.new.self
    (c.in_ok-insert.ensures.ok ∙ ap (λ (t : Fact). change c.self.inside.added (Insert t)) c.in_ok-copy.ensures.same)
    ∙ (λ i. change (c.self.view_is i) (Insert (fact_of c.args.tuple.now)))
