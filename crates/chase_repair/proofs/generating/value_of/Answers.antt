use Rattle.std.proofs.Common.{◌∙◌, ap, sym, map}
use Rattle.def_chase.specs.Mappings.{value_under, listed}
use Rattle.base_types.specs.Meanings.{datum_of, slot_of}
use Rattle.chase_repair.proofs.Values.{listed_past}
use Rattle.chase_repair.proofs.generating.value_of.Goals as goal

pub returns-in-None : goal.returns-in-None
returns-in-None c =
    let b = listed (map datum_of c.args.binding.now.items) in
    record { value = listed_past c.args.binding.now.items c.in-Var.variable c.in-None.ensures.item ∙ ap (λ t. value_under b (slot_of t)) (sym c.in-Var.is) }
