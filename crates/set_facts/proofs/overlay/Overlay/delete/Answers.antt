use Rattle.std.proofs.Common.{◌∙◌, ap, sym}
use Rattle.def_chase.specs.Repository.{Insert, Delete, change}
use Rattle.def_chase.specs.Values.{Fact}
use Rattle.base_types.specs.Meanings.{fact_of}
use Rattle.set_facts.proofs.Overlays.{delete_there, delete_new}
use Rattle.set_facts.proofs.overlay.Overlay.delete.Goals as goal

pub returns-in_ok-insert-clause-ok : goal.returns-in_ok-insert-clause-ok
returns-in_ok-insert-clause-ok g c =
    delete_there (g.F.Facts.tuples c.self.inside.facts.now) c.self.inside.gone c.self.inside.added (fact_of c.args.tuple.now) c.contains.ensures.in_order c.insert.new.self c.remove.new.self
    (c.in_ok-insert.ensures.ok ∙ ap (λ (t : Fact). change c.self.inside.gone (Insert t)) c.in_ok-copy.ensures.same)
    c.remove.ensures.after
    ∙ (λ i. change (c.self.view_is i) (Delete (fact_of c.args.tuple.now)))

pub returns-else-contains-clause-ok : goal.returns-else-contains-clause-ok
returns-else-contains-clause-ok g c =
    delete_new (g.F.Facts.tuples c.self.inside.facts.now) c.self.inside.gone c.self.inside.added (fact_of c.args.tuple.now) c.contains.ensures.in_order c.remove-else-contains.new.self c.remove-else-contains.ensures.after (sym c.if-contains.ensures.answer)
    ∙ (λ i. change (c.self.view_is i) (Delete (fact_of c.args.tuple.now)))
