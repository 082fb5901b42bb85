use Rattle.std.proofs.Common.{ap, ◌∙◌, not}
use Rattle.std.specs.BTreeSet.{insert_key}
use Rattle.std.specs.List.{list_any}
use Rattle.std.specs.Map.{keys_of}
use Rattle.std.specs.Option.{is_some}
use Rattle.std.specs.Ordering.{is_eq}
use Rattle.base_tree.proofs.Keeping.{any_keys, keys_insert, some_mapped, flipped}
use Rattle.base_tree.proofs.sets.TreeSet.insert.Goals as goal

pub returns-in-Ok-clause-ok : goal.returns-in-Ok-clause-ok
returns-in-Ok-clause-ok g c = ap keys_of c.in-Ok.ensures.ok ∙ keys_insert g.K.Ord.cmp c.self.inside.map _ _ ∙ ap (λ ks. insert_key g.K.Ord.cmp ks c.args.key) c.self.view_is

pub returns-in-Ok-clause-changed : goal.returns-in-Ok-clause-changed
returns-in-Ok-clause-changed g c =
    let p = λ (x : g.row.K.Denot). is_eq (g.K.Ord.cmp c.args.key x) in
    flipped _ _ c.is_none.ensures ∙ ap not (ap is_some c.in-Ok.ensures.before ∙ some_mapped _ _ ∙ any_keys p c.self.inside.map ∙ ap (list_any p) c.self.view_is)
