use Rattle.std.proofs.Common.{◌∙◌, ◌+◌, ap, map, [], ◌∷◌, arith}
use Rattle.std.proofs.lemmas.List.{map-append}
use Rattle.base_types.specs.Meanings.{datum_of}
use Rattle.chase_repair.proofs.Values.{more_drawn}
use Rattle.chase_repair.proofs.fresh.draw.Goals as goal

pub loop-number-preserved : goal.loop-number-preserved
loop-number-preserved c =
    more_drawn c.args.fresh c.loop-number.number (c.args.fresh.drawn + 1 + c.loop-number.number) (map datum_of c.args.values.now.items) (map datum_of c.loop-number.values.items) (map datum_of c.push.new.self.items)
    (omega arith) c.loop-number.invariant (ap (map datum_of) c.in_ok-push.ensures.ok ∙ map-append datum_of c.loop-number.values.items (_ ∷ []))
