use Rattle.std.proofs.Common.{◌∙◌, ap, map, List, ◌==◌}
use Rattle.std.specs.List.{list_any}
use Rattle.base_types.specs.Meanings.{pattern_of}
use Rattle.base_types.specs.declared.mappings.Atom.{Atom}
use Rattle.core_conflict.proofs.Sides.{found_left, found_right}
use Rattle.core_conflict.proofs.joins.is_of.Goals as goal

pub returns-then-stands_in : goal.returns-then-stands_in
returns-then-stands_in c =
    found_left (λ a. a.relation == c.args.relation) (map pattern_of c.args.mapping.now.left.items) (map pattern_of c.args.mapping.now.right.items) c.stands_in.result
    (c.stands_in.ensures ∙ ap (λ (as' : List Atom). list_any (λ a. a.relation == c.args.relation) (map pattern_of as')) c.as_slice.ensures.items) c.if-stands_in.true

pub returns : goal.returns
returns c =
    found_right (λ a. a.relation == c.args.relation) (map pattern_of c.args.mapping.now.left.items) (map pattern_of c.args.mapping.now.right.items) c.stands_in.result c.stands_in-2.result
    (c.stands_in.ensures ∙ ap (λ (as' : List Atom). list_any (λ a. a.relation == c.args.relation) (map pattern_of as')) c.as_slice.ensures.items) c.if-stands_in.false
    (c.stands_in-2.ensures ∙ ap (λ (as' : List Atom). list_any (λ a. a.relation == c.args.relation) (map pattern_of as')) c.as_slice-2.ensures.items)
