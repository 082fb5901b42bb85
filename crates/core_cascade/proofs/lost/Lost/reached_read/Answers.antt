use Rattle.std.proofs.Common.{◌≡◌, ◌∙◌, ap, arith, false, true, Some}
use Rattle.std.proofs.lemmas.Grind.{common_steps}
use Rattle.base_types.specs.Contents.{rules_in}
use Rattle.core_conflict.specs.Trails.{trails_of}
use Rattle.chase_query.specs.Meanings.{Read, read_of}
use Rattle.core_cascade.specs.Reached.{any_reached}
use Rattle.core_cascade.proofs.Firsts.{one_by}
use Rattle.core_cascade.proofs.lost.Lost.reached_read.Goals as goal

pub returns-then-not-reaches_any : goal.returns-then-not-reaches_any
returns-then-not-reaches_any c =
    let p = any_reached (rules_in c.args.mappings.now) (trails_of c.args.self.now.members.items) in
    let unmet : p (read_of c.args.read.now) ≡ false = grind (arith, common_steps) in
    record { first = one_by p c.args.number (read_of c.args.read.now) false unmet }

pub returns : goal.returns
returns c =
    let p = any_reached (rules_in c.args.mappings.now) (trails_of c.args.self.now.members.items) in
    let met : p (read_of c.args.read.now) ≡ true = grind (arith, common_steps) in
    record { first = ap (λ (r : Read). Some (record { number = c.args.number; read = r })) c.in_ok-copy.ensures.same ∙ one_by p c.args.number (read_of c.args.read.now) true met }
