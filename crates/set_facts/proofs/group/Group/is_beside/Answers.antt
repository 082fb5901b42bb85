use Rattle.std.proofs.Common.{◌∙◌, ap, sym}
use Rattle.std.specs.List.{list_any}
use Rattle.def_chase.specs.Cursors.{is_of}
use Rattle.set_facts.specs.Rising.{tuples_held}
use Rattle.set_facts.proofs.group.Group.is_beside.Goals as goal

pub returns-in-Listed : goal.returns-in-Listed
returns-in-Listed c =
    let same = ap tuples_held (sym c.in-Listed.is) ∙ c.self.view_is in
    record { none = λ h. ap (list_any (is_of c.args.relation)) (sym same) ∙ c.is_beside.ensures.none h }

pub returns-in-Tree : goal.returns-in-Tree
returns-in-Tree c =
    let same = ap tuples_held (sym c.in-Tree.is) ∙ c.self.view_is in
    record { none = λ h. ap (list_any (is_of c.args.relation)) (sym same) ∙ c.lacks.ensures.none h }
