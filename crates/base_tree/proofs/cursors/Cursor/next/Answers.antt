use Rattle.base_tree.proofs.Passing.{stepped, no_gap}
use Rattle.base_tree.proofs.cursors.Cursor.next.Goals as goal

pub returns-in-Some-Some-clause-step : goal.returns-in-Some-Some-clause-step
returns-in-Some-Some-clause-step g c = stepped g.K.Ord.cmp c.descend-self-inside.result c.pop.new.self.items c.descend-self-inside.new.path.items c.in-Some-Some.node c.self.view_is c.in_default.is c.in-Some-Some.ensures.items c.in-Some-Some.field-0-is c.descend-self-inside.ensures.rest

pub returns-in-Some-None-clause-step : goal.returns-in-Some-None-clause-step
returns-in-Some-None-clause-step g c = absurd (no_gap g.K.Ord.cmp _ c.self.invariant.0 c.in-Some-None.ensures.items c.in-Some-None.field-0-is)

pub returns-in-Some-None-clause-end : goal.returns-in-Some-None-clause-end
returns-in-Some-None-clause-end g c = absurd (no_gap g.K.Ord.cmp _ c.self.invariant.0 c.in-Some-None.ensures.items c.in-Some-None.field-0-is)
