use Rattle.std.proofs.Common.{◌≡◌, false, map, arith}
use Rattle.std.proofs.lemmas.Grind.{common_steps}
use Rattle.base_types.specs.Contents.{rules_in}
use Rattle.base_types.specs.Meanings.{change_of, heading_of}
use Rattle.chase_query.specs.Meanings.{reads_in}
use Rattle.core_conflict.specs.Trails.{trails_of}
use Rattle.core_conflict.proofs.Unmet.{none_changed}
use Rattle.core_conflict.proofs.changes.first_changed.Goals as goal

pub returns-then-not-may_be_met : goal.returns-then-not-may_be_met
returns-then-not-may_be_met g c =
    let ms = rules_in c.args.reader.now.mappings.now in
    let h = heading_of c.args.reader.now.direction in
    let D = g.F.Facts.tuples c.args.below.now in
    let own = map change_of c.args.reader.now.own.now in
    let ts = trails_of c.args.trails.now in
    let m : c.may_be_met.result ≡ false = grind (arith, common_steps) in
    record { first = none_changed ms h D own c.args.reader.now.sense ts (reads_in c.args.log.now) (c.may_be_met.ensures.unmet m) }
