use Rattle.std.proofs.Common.{◌≡◌, true, map, arith}
use Rattle.std.proofs.lemmas.Grind.{common_steps}
use Rattle.base_types.specs.Contents.{rules_in}
use Rattle.base_types.specs.Meanings.{change_of, heading_of}
use Rattle.chase_query.specs.Meanings.{reply_of}
use Rattle.core_conflict.specs.Trails.{trails_of}
use Rattle.core_conflict.proofs.Firsts.{one_changed, one_still, seen_then}
use Rattle.core_conflict.proofs.changes.changed_read.Goals as goal

pub returns-then-is_same-clause-first : goal.returns-then-is_same-clause-first
returns-then-is_same-clause-first g c =
    let r = c.args.reader.now in
    let ms = rules_in r.mappings.now in
    let h = heading_of r.direction in
    let D = g.F.Facts.tuples c.args.below.now in
    let own = map change_of r.own.now in
    let ts = trails_of c.args.trails.now in
    let m : c.is_met.result ≡ true = grind (arith, common_steps) in
    let v = seen_then ms h D own c.args.read.now c.see.new.view c.standing_then-count.result (reply_of c.in_ok-now.now) c.in_ok-see.ensures.seen c.standing_then-count.ensures.same c.in_ok-now.ensures.value in
    one_still ms h D own r.sense ts c.args.number c.args.read.now c.is_same.result (reply_of c.in_ok-now.now) (cc) v c.is_same.ensures.same c.if-is_same.true

pub returns-clause-first : goal.returns-clause-first
returns-clause-first g c =
    let r = c.args.reader.now in
    let ms = rules_in r.mappings.now in
    let h = heading_of r.direction in
    let D = g.F.Facts.tuples c.args.below.now in
    let own = map change_of r.own.now in
    let ts = trails_of c.args.trails.now in
    let m : c.is_met.result ≡ true = grind (arith, common_steps) in
    let v = seen_then ms h D own c.args.read.now c.see.new.view c.standing_then-count.result (reply_of c.in_ok-now.now) c.in_ok-see.ensures.seen c.standing_then-count.ensures.same c.in_ok-now.ensures.value in
    one_changed ms h D own r.sense ts c.args.number c.args.read.now c.in_ok-copy.field-0 c.is_same.result (reply_of c.in_ok-now.now) c.in_ok-copy.ensures.same (cc) v c.is_same.ensures.same c.if-is_same.false
