use Rattle.std.proofs.Common.{◌∙◌}
use Rattle.std.proofs.lemmas.Result.{IfOk-weaker}
use Rattle.base_types.specs.Meanings.{null_of}
use Rattle.chase_update.proofs.Lookups.{first_at, none_at}
use Rattle.chase_update.proofs.found.standing_for.Goals as goal

pub returns-in-Some : goal.returns-in-Some
returns-in-Some c =
    let first = first_at (null_of c.args.name) c.args.tuples.now.items c.in-Some.tuple.now c.as_slice.result.now c.in-Some.ensures.item c.as_slice.ensures.items in
    record { value = IfOk-weaker c.first_named.result _ _ (λ v h. h ∙ first) c.first_named.ensures.value }

pub returns-in-None : goal.returns-in-None
returns-in-None c = record { value = none_at (null_of c.args.name) c.args.tuples.now.items c.in-None.ensures.item }
