use Rattle.std.proofs.Common.{ap, sym, ◌∙◌, ◌∷◌, ◌++◌, Some, rules}
use Rattle.std.specs.Option.{option_map}
use Rattle.base_tree.specs.Nodes.{entries}
use Rattle.base_tree.proofs.Changes.{at_node, left_shorter, right_shorter, either, is_ok_from, put_left, put_here, put_right, find_left, find_here, find_right}
use Rattle.base_tree.proofs.branch.Branch.+put.Goals as goal

pub put-requires : goal.put-requires
put-requires g t c κs within =
    let a = at_node g.K.Ord.cmp c.self.view_is c.in-Some.is (either c.in-Ok.ensures.value) c.requires in
    let short = left_shorter _ _ _ a.is in (search (rules, short), (within.0, (within.1, a.sides.left)))

pub put-requires-in-Greater : goal.put-requires-in-Greater
put-requires-in-Greater g t c κs within =
    let a = at_node g.K.Ord.cmp c.self.view_is c.in-Some.is (either c.in-Ok.ensures.value) c.requires in
    let short = right_shorter _ _ _ a.is in (search (rules, short), (within.0, (within.1, a.sides.right)))

pub returns-in_ok-before-in-Less-clause-ok : goal.returns-in_ok-before-in-Less-clause-ok
returns-in_ok-before-in-Less-clause-ok g t c =
    let a = at_node g.K.Ord.cmp c.self.view_is c.in-Some.is (either c.in-Ok.ensures.value) c.requires in
    ap entries (c.make_mut.follows.holds _ (is_ok_from c.in-Ok.is)) ∙ c.settle.ensures.same ∙ ap (λ l. l ++ c.in-Ok.node.now.entry ∷ c.in-Ok.node.now.right) c.in_ok-before-in-Less.ensures.ok
    ∙ put_left g.met.K.Ord.total a.is a.sides c.args.value (sym c.cmp.ensures ∙ c.in-Less.is)

pub returns-in_ok-before-in-Less-clause-before : goal.returns-in_ok-before-in-Less-clause-before
returns-in_ok-before-in-Less-clause-before g t c =
    let a = at_node g.K.Ord.cmp c.self.view_is c.in-Some.is (either c.in-Ok.ensures.value) c.requires in
    cc (c.in_ok-before-in-Less.ensures.before, find_left g.met.K.Ord.total a.is a.sides (sym c.cmp.ensures ∙ c.in-Less.is))

pub returns-in-Equal-clause-ok : goal.returns-in-Equal-clause-ok
returns-in-Equal-clause-ok g t c =
    let a = at_node g.K.Ord.cmp c.self.view_is c.in-Some.is (either c.in-Ok.ensures.value) c.requires in
    ap entries (c.make_mut.follows.holds _ (is_ok_from c.in-Ok.is))
    ∙ ap (λ v. c.in-Ok.node.now.left ++ (c.in-Ok.node.now.entry.0, v) ∷ c.in-Ok.node.now.right) c.replace.ensures.after
    ∙ put_here g.met.K.Ord.total a.is a.sides c.args.value (sym c.cmp.ensures ∙ c.in-Equal.is)

pub returns-in-Equal-clause-before : goal.returns-in-Equal-clause-before
returns-in-Equal-clause-before g t c =
    let a = at_node g.K.Ord.cmp c.self.view_is c.in-Some.is (either c.in-Ok.ensures.value) c.requires in
    ap (λ v. Some v) c.replace.ensures.value ∙ sym (ap (option_map (λ e. e.1)) (find_here g.met.K.Ord.total a.is a.sides (sym c.cmp.ensures ∙ c.in-Equal.is)))

pub returns-in_ok-before-in-Greater-clause-ok : goal.returns-in_ok-before-in-Greater-clause-ok
returns-in_ok-before-in-Greater-clause-ok g t c =
    let a = at_node g.K.Ord.cmp c.self.view_is c.in-Some.is (either c.in-Ok.ensures.value) c.requires in
    ap entries (c.make_mut.follows.holds _ (is_ok_from c.in-Ok.is)) ∙ c.settle-in-Greater.ensures.same ∙ ap (λ r. c.in-Ok.node.now.left ++ c.in-Ok.node.now.entry ∷ r) c.in_ok-before-in-Greater.ensures.ok
    ∙ put_right g.met.K.Ord.total a.is a.sides c.args.value (sym c.cmp.ensures ∙ c.in-Greater.is)

pub returns-in_ok-before-in-Greater-clause-before : goal.returns-in_ok-before-in-Greater-clause-before
returns-in_ok-before-in-Greater-clause-before g t c =
    let a = at_node g.K.Ord.cmp c.self.view_is c.in-Some.is (either c.in-Ok.ensures.value) c.requires in
    cc (c.in_ok-before-in-Greater.ensures.before, find_right g.met.K.Ord.total a.is a.sides (sym c.cmp.ensures ∙ c.in-Greater.is))
