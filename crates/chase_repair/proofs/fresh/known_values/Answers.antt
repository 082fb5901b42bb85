use Rattle.std.proofs.Common.{◌∙◌, ap, map, [], ◌∷◌, unwrap_or, pos}
use Rattle.std.proofs.lemmas.List.{map-append}
use Rattle.def_chase.specs.Values.{Number}
use Rattle.base_types.specs.Meanings.{datum_of}
use Rattle.chase_match.specs.Partial.{known_at}
use Rattle.chase_repair.proofs.Values.{more_known}
use Rattle.chase_repair.proofs.fresh.known_values.Goals as goal

pub loop-variable-preserved : goal.loop-variable-preserved
loop-variable-preserved c =
    more_known (λ v. unwrap_or (known_at c.args.partial.now v) (Number (pos 0))) c.loop-variable.variable (map datum_of c.loop-variable.values.items) (map datum_of c.push.new.self.items) (datum_of c.in_ok-known_value.field-0)
    c.loop-variable.invariant (ap (map datum_of) c.in_ok-push.ensures.ok ∙ map-append datum_of c.loop-variable.values.items (c.in_ok-known_value.field-0 ∷ [])) c.in_ok-known_value.ensures.value
