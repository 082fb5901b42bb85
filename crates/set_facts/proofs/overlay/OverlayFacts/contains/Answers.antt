use Rattle.std.proofs.Common.{◌∙◌, sym, subst, true, false}
use Rattle.def_chase.specs.Repository.{IsRepository}
use Rattle.base_types.specs.Meanings.{fact_of}
use Rattle.set_facts.proofs.Overlays.{contained, overlaid_in_order}
use Rattle.set_facts.proofs.overlay.OverlayFacts.contains.Goals as goal

pub returns-then-is_left-clause-answer : goal.returns-then-is_left-clause-answer
returns-then-is_left-clause-answer g c =
    c.is_left.ensures.left ∙ sym c.if-is_left.ensures.left
    ∙ contained (g.F.Facts.tuples c.self.inside.facts.now) c.self.inside.gone c.self.inside.added c.args.self.now (fact_of c.args.tuple.now) true c.self.view_is c.if-is_left.ensures.left

pub returns-then-is_left-clause-in_order : goal.returns-then-is_left-clause-in_order
returns-then-is_left-clause-in_order g c = subst IsRepository c.self.view_is (overlaid_in_order (g.F.Facts.tuples c.self.inside.facts.now) c.self.inside.gone c.self.inside.added c.is_left.ensures.in_order)

pub returns-else-is_left-clause-answer : goal.returns-else-is_left-clause-answer
returns-else-is_left-clause-answer g c =
    c.contains.ensures.answer
    ∙ contained (g.F.Facts.tuples c.self.inside.facts.now) c.self.inside.gone c.self.inside.added c.args.self.now (fact_of c.args.tuple.now) false c.self.view_is c.if-is_left.ensures.left

pub returns-else-is_left-clause-in_order : goal.returns-else-is_left-clause-in_order
returns-else-is_left-clause-in_order g c = subst IsRepository c.self.view_is (overlaid_in_order (g.F.Facts.tuples c.self.inside.facts.now) c.self.inside.gone c.self.inside.added c.is_left.ensures.in_order)
