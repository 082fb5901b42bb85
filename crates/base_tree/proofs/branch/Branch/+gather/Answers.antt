use Rattle.std.proofs.Common.{arith, sym, ◌∙◌, ap, rules, [], ◌∷◌, ◌++◌, map, filter}
use Rattle.base_tree.specs.Few.{Batch, with_first, all_shown}
use Rattle.base_tree.proofs.Changes.{at_node, left_shorter, right_shorter}
use Rattle.base_tree.proofs.Gathering.{no_room, some_room, with_both, with_full, shown_left, shown_right, shown_here, within_left, within_here, within_right, within_below, within_above}
use Rattle.base_tree.proofs.branch.Branch.+gather.Goals as goal

pub place_within-requires : goal.place_within-requires
place_within-requires g t c =
    let a = at_node g.K.Ord.cmp c.self.view_is c.in-Some.is c.deref-node.ensures c.requires.in_order in
    record { within = within_here (g.S.Search.place c.args.search.now) c.args.bounds a.is a.sides c.requires.within }

pub gather-requires : goal.gather-requires
gather-requires g t c κs within =
    let a = at_node g.K.Ord.cmp c.self.view_is c.in-Some.is c.deref-node.ensures c.requires.in_order in
    let short = right_shorter _ _ _ a.is in
    (search (rules, short), (within.0, (within.1.0, (within.1.1.0, (within.1.1.1, (omega (arith), (a.sides.right, within_right (g.S.Search.place c.args.search.now) c.args.bounds a.is a.sides c.requires.within)))))))

pub gather-requires-in-Equal : goal.gather-requires-in-Equal
gather-requires-in-Equal g t c κs within =
    let a = at_node g.K.Ord.cmp c.self.view_is c.in-Some.is c.deref-node.ensures c.requires.in_order in
    let short = left_shorter _ _ _ a.is in
    (search (rules, short), (within.0, (within.1.0, (within.1.1.0, (within.1.1.1, (omega (arith), (a.sides.left, within_below (g.S.Search.place c.args.search.now) c.args.bounds a.is a.sides c.requires.within (g.met.S.Search.stays_past c.args.search.now) (sym c.place_within.ensures ∙ c.in-Equal.is) c.below.result c.below.ensures.low)))))))

pub gather-requires-in-Equal-2 : goal.gather-requires-in-Equal-2
gather-requires-in-Equal-2 g t c κs within =
    let a = at_node g.K.Ord.cmp c.self.view_is c.in-Some.is c.deref-node.ensures c.requires.in_order in
    let short = right_shorter _ _ _ a.is in
    (search (rules, short), (within.0, (within.1.0, (within.1.1.0, (within.1.1.1, (omega (arith), (a.sides.right, within_above (g.S.Search.place c.args.search.now) c.args.bounds a.is a.sides c.requires.within (g.met.S.Search.stays_before c.args.search.now) (sym c.place_within.ensures ∙ c.in-Equal.is) c.above.result c.above.ensures.high)))))))

pub gather-requires-in-Greater : goal.gather-requires-in-Greater
gather-requires-in-Greater g t c κs within =
    let a = at_node g.K.Ord.cmp c.self.view_is c.in-Some.is c.deref-node.ensures c.requires.in_order in
    let short = left_shorter _ _ _ a.is in
    (search (rules, short), (within.0, (within.1.0, (within.1.1.0, (within.1.1.1, (omega (arith), (a.sides.left, within_left (g.S.Search.place c.args.search.now) c.args.bounds a.is a.sides c.requires.within)))))))

pub returns-in-Less : goal.returns-in-Less
returns-in-Less g t c =
    let a = at_node g.K.Ord.cmp c.self.view_is c.in-Some.is c.deref-node.ensures c.requires.in_order in
    record { first = c.gather.ensures.first ∙ ap (with_first c.args.found.now) (sym (shown_right g.S.Show.shown (g.S.Search.place c.args.search.now) (g.S.Search.passes c.args.search.now) a.is a.sides (g.met.S.Search.stays_before c.args.search.now) (sym c.place_within.ensures ∙ c.in-Less.is))) }

pub returns-in-Greater : goal.returns-in-Greater
returns-in-Greater g t c =
    let a = at_node g.K.Ord.cmp c.self.view_is c.in-Some.is c.deref-node.ensures c.requires.in_order in
    record { first = c.gather-in-Greater.ensures.first ∙ ap (with_first c.args.found.now) (sym (shown_left g.S.Show.shown (g.S.Search.place c.args.search.now) (g.S.Search.passes c.args.search.now) a.is a.sides (g.met.S.Search.stays_past c.args.search.now) (sym c.place_within.ensures ∙ c.in-Greater.is))) }

pub returns-then-is_full : goal.returns-then-is_full
returns-then-is_full g t c =
    let a = at_node g.K.Ord.cmp c.self.view_is c.in-Some.is c.deref-node.ensures c.requires.in_order in
    let shown = all_shown g.S.Show.shown (g.S.Search.place c.args.search.now) (g.S.Search.passes c.args.search.now) in
    let rest = map g.S.Show.shown (filter (g.S.Search.passes c.args.search.now) (c.deref-node.result.now.entry ∷ [])) ++ shown c.deref-node.result.now.right in
    let full = no_room c.gather-in-Equal.new.found.room c.is_full.result c.if-is_full.true c.is_full.ensures.full in
    record {
      first =
          sym (with_full c.gather-in-Equal.new.found rest full)
          ∙ ap (λ (b : Batch g.row.T.Denot). with_first b rest) c.gather-in-Equal.ensures.first
          ∙ with_both c.args.found.now (shown c.deref-node.result.now.left) rest
          ∙ ap (with_first c.args.found.now) (sym (shown_here g.S.Show.shown (g.S.Search.place c.args.search.now) (g.S.Search.passes c.args.search.now) a.is a.sides (sym c.place_within.ensures ∙ c.in-Equal.is)));
    }

pub returns-else-is_full : goal.returns-else-is_full
returns-else-is_full g t c =
    let a = at_node g.K.Ord.cmp c.self.view_is c.in-Some.is c.deref-node.ensures c.requires.in_order in
    let shown = all_shown g.S.Show.shown (g.S.Search.place c.args.search.now) (g.S.Search.passes c.args.search.now) in
    let here = map g.S.Show.shown (filter (g.S.Search.passes c.args.search.now) (c.deref-node.result.now.entry ∷ [])) in
    let right = shown c.deref-node.result.now.right in
    record {
      first =
          c.gather-in-Equal-2.ensures.first
          ∙ ap (λ (b : Batch g.row.T.Denot). with_first b right) c.add_passing.ensures.added
          ∙ with_both c.gather-in-Equal.new.found here right
          ∙ ap (λ (b : Batch g.row.T.Denot). with_first b (here ++ right)) c.gather-in-Equal.ensures.first
          ∙ with_both c.args.found.now (shown c.deref-node.result.now.left) (here ++ right)
          ∙ ap (with_first c.args.found.now) (sym (shown_here g.S.Show.shown (g.S.Search.place c.args.search.now) (g.S.Search.passes c.args.search.now) a.is a.sides (sym c.place_within.ensures ∙ c.in-Equal.is)));
    }

pub add_passing-requires : goal.add_passing-requires
add_passing-requires g t c = (omega (arith), some_room c.gather-in-Equal.new.found.room c.is_full.result c.if-is_full.false c.is_full.ensures.full)
