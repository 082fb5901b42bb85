use Rattle.std.proofs.Common.{◌≡◌, ◌∙◌, ℕ, ◌≤◌, ap, sym, map, List, Option, Some, None, Bor}
use Rattle.std.specs.Prelude.{slice_get, IfSome}
use Rattle.std.specs.Option.{option_copied, option_map}
use Rattle.def_chase.specs.Mappings.{Rule}
use Rattle.def_chase.proofs.Maps.{get_map}
use Rattle.base_types.specs.Meanings.{rule_of}
use Rattle.base_types.specs.declared.mappings.Mapping.{Mapping}
use Rattle.base_limits.specs.Within.{AreWithin}
use Rattle.base_limits.proofs.rules.Mappings.get.Goals as goal

pub returns-clause-item : goal.returns-clause-item
returns-clause-item c =
    ap (option_map rule_of) c.get.ensures.item
    ∙ (sym (get_map rule_of c.self.inside.list.now.items c.args.number) ∙ ap (λ (ms : List Rule). slice_get ms c.args.number) c.self.view_is)

few_at : (ms : List Mapping) (n : ℕ) (o : Option (Bor Mapping)) → option_copied o ≡ slice_get ms n → AreWithin (map rule_of ms)
    → IfSome o (λ m. (rule_of m.now).existential ≤ 64)
few_at ms n None e within = tt
few_at ms n (Some m) e within = within.each n (rule_of m.now) (get_map rule_of ms n ∙ ap (option_map rule_of) (sym e))

pub returns-clause-few : goal.returns-clause-few
returns-clause-few c = few_at c.self.inside.list.now.items c.args.number c.get.result c.get.ensures.item c.self.invariant
