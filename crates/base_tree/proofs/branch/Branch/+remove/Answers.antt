use Rattle.std.proofs.Common.{ap, sym, ◌∙◌, ◌∷◌, ◌++◌, rules}
use Rattle.base_tree.specs.Nodes.{entries}
use Rattle.base_tree.proofs.Changes.{at_node, popped, none_popped, left_shorter, right_shorter, either, is_ok_from, without_left, without_here, without_right}
use Rattle.base_tree.proofs.branch.Branch.+remove.Goals as goal

pub remove-requires : goal.remove-requires
remove-requires g t c κs within =
    let a = at_node g.K.Ord.cmp c.self.view_is c.in-Some.is (either c.in_ok-node.ensures.value) c.requires in
    let short = left_shorter _ _ _ a.is in (search (rules, short), (within.0, (within.1, a.sides.left)))

pub remove-requires-in-Greater : goal.remove-requires-in-Greater
remove-requires-in-Greater g t c κs within =
    let a = at_node g.K.Ord.cmp c.self.view_is c.in-Some.is (either c.in_ok-node.ensures.value) c.requires in
    let short = right_shorter _ _ _ a.is in (search (rules, short), (within.0, (within.1, a.sides.right)))

pub returns-in_ok-remove-in-Less-clause-ok : goal.returns-in_ok-remove-in-Less-clause-ok
returns-in_ok-remove-in-Less-clause-ok g t c =
    let a = at_node g.K.Ord.cmp c.self.view_is c.in-Some.is (either c.in_ok-node.ensures.value) c.requires in
    ap entries (c.make_mut.follows.holds _ (is_ok_from c.in_ok-node.was)) ∙ c.settle.ensures.same ∙ ap (λ l. l ++ c.in_ok-node.node.now.entry ∷ c.in_ok-node.node.now.right) c.in_ok-remove-in-Less.ensures.ok
    ∙ without_left g.met.K.Ord.total a.is a.sides (sym c.cmp.ensures ∙ c.in-Less.is)

pub returns-in-Some-2-clause-ok : goal.returns-in-Some-2-clause-ok
returns-in-Some-2-clause-ok g t c =
    let a = at_node g.K.Ord.cmp c.self.view_is c.in-Some.is (either c.in_ok-node.ensures.value) c.requires in
    ap entries (c.make_mut.follows.holds _ (is_ok_from c.in_ok-node.was)) ∙ c.balance.ensures.same
    ∙ ap (λ r. c.in_ok-node.node.now.left ++ r) (sym (popped _ c.in_ok-next-in-Equal.ensures.ok c.in-Some-2.is))
    ∙ without_here g.met.K.Ord.total a.is a.sides (sym c.cmp.ensures ∙ c.in-Equal.is)

pub returns-in-None-clause-ok : goal.returns-in-None-clause-ok
returns-in-None-clause-ok g t c =
    let a = at_node g.K.Ord.cmp c.self.view_is c.in-Some.is (either c.in_ok-node.ensures.value) c.requires in
    c.replace-in-None.view_is ∙ c.replace.ensures.value ∙ none_popped _ c.in_ok-next-in-Equal.ensures.ok c.in_ok-next-in-Equal.ensures.none c.in-None.is
    ∙ without_here g.met.K.Ord.total a.is a.sides (sym c.cmp.ensures ∙ c.in-Equal.is)

pub returns-in_ok-remove-in-Greater-clause-ok : goal.returns-in_ok-remove-in-Greater-clause-ok
returns-in_ok-remove-in-Greater-clause-ok g t c =
    let a = at_node g.K.Ord.cmp c.self.view_is c.in-Some.is (either c.in_ok-node.ensures.value) c.requires in
    ap entries (c.make_mut.follows.holds _ (is_ok_from c.in_ok-node.was)) ∙ c.settle-in-Greater.ensures.same ∙ ap (λ r. c.in_ok-node.node.now.left ++ c.in_ok-node.node.now.entry ∷ r) c.in_ok-remove-in-Greater.ensures.ok
    ∙ without_right g.met.K.Ord.total a.is a.sides (sym c.cmp.ensures ∙ c.in-Greater.is)
