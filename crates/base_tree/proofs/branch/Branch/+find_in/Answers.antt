use Rattle.std.proofs.Common.{sym, ◌∙◌, rules}
use Rattle.base_tree.proofs.Changes.{at_node, left_shorter, right_shorter, sought_left, sought_right, sought_first, sought_entry, sought_later}
use Rattle.base_tree.proofs.branch.Branch.+find_in.Goals as goal

pub find_in-requires : goal.find_in-requires
find_in-requires g t c κs within =
    let a = at_node g.K.Ord.cmp c.self.view_is c.in-Some.is c.deref-node.ensures c.requires in
    let short = right_shorter _ _ _ a.is in (search (rules, short), (within.0, (within.1.0, (within.1.1, a.sides.right))))

pub find_in-requires-in-Equal : goal.find_in-requires-in-Equal
find_in-requires-in-Equal g t c κs within =
    let a = at_node g.K.Ord.cmp c.self.view_is c.in-Some.is c.deref-node.ensures c.requires in
    let short = left_shorter _ _ _ a.is in (search (rules, short), (within.0, (within.1.0, (within.1.1, a.sides.left))))

pub find_in-requires-in-Equal-2 : goal.find_in-requires-in-Equal-2
find_in-requires-in-Equal-2 g t c κs within =
    let a = at_node g.K.Ord.cmp c.self.view_is c.in-Some.is c.deref-node.ensures c.requires in
    let short = right_shorter _ _ _ a.is in (search (rules, short), (within.0, (within.1.0, (within.1.1, a.sides.right))))

pub find_in-requires-in-Greater : goal.find_in-requires-in-Greater
find_in-requires-in-Greater g t c κs within =
    let a = at_node g.K.Ord.cmp c.self.view_is c.in-Some.is c.deref-node.ensures c.requires in
    let short = left_shorter _ _ _ a.is in (search (rules, short), (within.0, (within.1.0, (within.1.1, a.sides.left))))

pub returns-in-Less : goal.returns-in-Less
returns-in-Less g t c =
    let a = at_node g.K.Ord.cmp c.self.view_is c.in-Some.is c.deref-node.ensures c.requires in
    c.find_in.ensures ∙ sym (sought_right (g.S.Search.place c.args.search.now) (g.S.Search.passes c.args.search.now) a.is a.sides (g.met.S.Search.stays_before c.args.search.now) (sym c.place.ensures ∙ c.in-Less.is))

pub returns-in-Greater : goal.returns-in-Greater
returns-in-Greater g t c =
    let a = at_node g.K.Ord.cmp c.self.view_is c.in-Some.is c.deref-node.ensures c.requires in
    c.find_in-in-Greater.ensures ∙ sym (sought_left (g.S.Search.place c.args.search.now) (g.S.Search.passes c.args.search.now) a.is a.sides (g.met.S.Search.stays_past c.args.search.now) (sym c.place.ensures ∙ c.in-Greater.is))

pub returns-in-Some-find_in : goal.returns-in-Some-find_in
returns-in-Some-find_in g t c =
    let a = at_node g.K.Ord.cmp c.self.view_is c.in-Some.is c.deref-node.ensures c.requires in
    sym (sought_first (g.S.Search.place c.args.search.now) (g.S.Search.passes c.args.search.now) a.is a.sides (sym c.place.ensures ∙ c.in-Equal.is) (sym c.in-Some-find_in.ensures))

pub returns-then-passes : goal.returns-then-passes
returns-then-passes g t c =
    let a = at_node g.K.Ord.cmp c.self.view_is c.in-Some.is c.deref-node.ensures c.requires in
    sym (sought_entry (g.S.Search.place c.args.search.now) (g.S.Search.passes c.args.search.now) a.is a.sides (sym c.place.ensures ∙ c.in-Equal.is) (sym c.in_default-find_in.ensures) (sym c.passes.ensures ∙ c.if-passes.true))

pub returns-else-passes : goal.returns-else-passes
returns-else-passes g t c =
    let a = at_node g.K.Ord.cmp c.self.view_is c.in-Some.is c.deref-node.ensures c.requires in
    c.find_in-in-Equal-2.ensures ∙ sym (sought_later (g.S.Search.place c.args.search.now) (g.S.Search.passes c.args.search.now) a.is a.sides (sym c.place.ensures ∙ c.in-Equal.is) (sym c.in_default-find_in.ensures) (sym c.passes.ensures ∙ c.if-passes.false))
