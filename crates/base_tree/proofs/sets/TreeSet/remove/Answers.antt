use Rattle.std.proofs.Common.{ap, ◌∙◌, not, filter}
use Rattle.std.specs.List.{list_any}
use Rattle.std.specs.Map.{keys_of}
use Rattle.std.specs.Ordering.{is_eq}
use Rattle.base_tree.proofs.Keeping.{any_keys, keys_filter}
use Rattle.base_tree.proofs.sets.TreeSet.remove.Goals as goal

pub returns-clause-ok : goal.returns-clause-ok
returns-clause-ok g c =
    let p = λ (x : g.row.K.Denot). not (is_eq (g.K.Ord.cmp c.args.key.now x)) in
    ap keys_of c.in_ok-changed.ensures.ok ∙ keys_filter p c.self.inside.map ∙ ap (filter p) c.self.view_is

pub returns-clause-changed : goal.returns-clause-changed
returns-clause-changed g c =
    let p = λ (x : g.row.K.Denot). is_eq (g.K.Ord.cmp c.args.key.now x) in
    c.in_ok-changed.ensures.changed ∙ any_keys p c.self.inside.map ∙ ap (list_any p) c.self.view_is
