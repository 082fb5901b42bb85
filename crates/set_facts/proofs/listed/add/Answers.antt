use Rattle.std.proofs.Common.{◌≡◌, ◌∙◌, ◌++◌, ◌∷◌, [], ap, sym, not, map, subst, List}
use Rattle.def_chase.specs.Repository.{IsRepository}
use Rattle.def_chase.proofs.Sets.{insert_in_order}
use Rattle.base_types.specs.Meanings.{fact_of}
use Rattle.base_types.specs.declared.tuples.Tuple.{Tuple}
use Rattle.set_facts.proofs.After.{absent_after, added_after}
use Rattle.set_facts.proofs.listed.add.Goals as goal
use Rattle.set_facts.proofs.listed.add.Goals.{then-is_empty+in-Ok, else-is_empty}

pub returns-in-Ok-push-clause-changed : goal.returns-in-Ok-push-clause-changed
returns-in-Ok-push-clause-changed c = sym (ap not (absent_after (fact_of c.args.tuple) (map fact_of c.args.tuples.now.items) c.requires.after))

pub returns-in-Ok-push-clause-ok : goal.returns-in-Ok-push-clause-ok
returns-in-Ok-push-clause-ok c =
    let same : c.if-is_empty.tuples.items ≡ c.args.tuples.now.items = elim c.if-is_empty.branch [
      | then-is_empty+in-Ok w ↦ ap (λ v. v.items) w.tuples-is ∙ w.reserve_exact.ensures.items
      | else-is_empty w ↦ ap (λ v. v.items) w.tuples-is
    ] in
    added_after c.args.tuple c.args.tuples.now.items c.push.new.self.items (c.in-Ok-push.ensures.items ∙ ap (λ (D : List Tuple). D ++ c.args.tuple ∷ []) same) c.requires.after

pub returns-in-Ok-push-clause-in_order : goal.returns-in-Ok-push-clause-in_order
returns-in-Ok-push-clause-in_order c =
    let same : c.if-is_empty.tuples.items ≡ c.args.tuples.now.items = elim c.if-is_empty.branch [
      | then-is_empty+in-Ok w ↦ ap (λ v. v.items) w.tuples-is ∙ w.reserve_exact.ensures.items
      | else-is_empty w ↦ ap (λ v. v.items) w.tuples-is
    ] in
    subst IsRepository
    (sym (added_after c.args.tuple c.args.tuples.now.items c.push.new.self.items (c.in-Ok-push.ensures.items ∙ ap (λ (D : List Tuple). D ++ c.args.tuple ∷ []) same) c.requires.after))
    (insert_in_order (map fact_of c.args.tuples.now.items) (fact_of c.args.tuple) c.requires.in_order)
