use Rattle.std.proofs.Common.{◌∙◌, ap, map, drop}
use Rattle.base_types.specs.Meanings.{change_of}
use Rattle.chase_plan.proofs.Noting.{settled_since}
use Rattle.chase_plan.proofs.settling.stir_since.Goals as goal

pub returns : goal.returns
returns c =
    record {
      settled =
          λ D settled. settled_since c.args.made _ D c.args.program.now.attempt c.args.settled.now c.stir.new.settled _
          (c.since.ensures.since ∙ ap (drop c.args.made) (ap (map change_of) c.as_slice.ensures.items ∙ c.own.ensures.own)) c.stir.ensures.left settled;
    }
