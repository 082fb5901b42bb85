use Rattle.std.proofs.Common.{◌∙◌, ap, sym}
use Rattle.std.specs.List.{list_any}
use Rattle.def_chase.specs.Cursors.{is_of}
use Rattle.set_facts.specs.Rising.{tuples_held}
use Rattle.std.specs.Option.{option_map}
use Rattle.base_types.specs.Candidates.{column_of, is_candidate}
use Rattle.set_facts.proofs.AtHand.{none_of_relation}
use Rattle.set_facts.proofs.group.Group.lacks.Goals as goal

pub returns-in-Listed : goal.returns-in-Listed
returns-in-Listed c =
    let same = ap tuples_held (sym c.in-Listed.is) ∙ c.self.view_is in
    record { none = λ h. ap (list_any (is_candidate c.args.relation (option_map column_of c.args.column))) (sym same) ∙ c.lacks.ensures.none h }

pub returns-in-Tree : goal.returns-in-Tree
returns-in-Tree c =
    let same = ap tuples_held (sym c.in-Tree.is) ∙ c.self.view_is in
    record {
      none = λ h. none_of_relation c.args.relation (option_map column_of c.args.column) c.args.self.now (ap (list_any (is_of c.args.relation)) (sym same) ∙ c.lacks-in-Tree.ensures.none h);
    }
