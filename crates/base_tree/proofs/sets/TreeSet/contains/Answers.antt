use Rattle.std.proofs.Common.{ap, ◌∙◌}
use Rattle.std.specs.List.{list_any}
use Rattle.std.specs.Option.{is_some}
use Rattle.std.specs.Ordering.{is_eq}
use Rattle.base_tree.proofs.Keeping.{any_keys}
use Rattle.base_tree.proofs.sets.TreeSet.contains.Goals as goal

pub returns-in-Some-clause-answer : goal.returns-in-Some-clause-answer
returns-in-Some-clause-answer g c =
    let p = λ (x : g.row.K.Denot). is_eq (g.K.Ord.cmp c.args.key.now x) in
    ap is_some c.in-Some.ensures.found ∙ any_keys p c.self.inside.map ∙ ap (list_any p) c.self.view_is

pub returns-in-None-clause-answer : goal.returns-in-None-clause-answer
returns-in-None-clause-answer g c =
    let p = λ (x : g.row.K.Denot). is_eq (g.K.Ord.cmp c.args.key.now x) in
    ap is_some c.in-None.ensures.found ∙ any_keys p c.self.inside.map ∙ ap (list_any p) c.self.view_is
