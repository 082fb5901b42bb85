use Rattle.std.proofs.Common.{◌≡◌, ◌∙◌, ◌+◌, ap, sym, true, false, Some, map, arith}
use Rattle.std.proofs.lemmas.Grind.{common_steps}
use Rattle.base_types.specs.Contents.{rules_in}
use Rattle.base_types.specs.Meanings.{change_of, heading_of}
use Rattle.chase_query.specs.Meanings.{Read, read_of, reply_of}
use Rattle.audit_replay.proofs.Numbered.{change_is, no_change, test_tells, unmet_tells}
use Rattle.audit_replay.proofs.changes.changed_at.Goals as goal

pub returns-then-not-is_met : goal.returns-then-not-is_met
returns-then-not-is_met c =
    let ms = rules_in c.args.reader.now.mappings.now in
    let h = heading_of c.args.reader.now.direction in
    let D = c.args.reader.now.below.now in
    let own = map change_of c.args.reader.now.own.now in
    let ks = c.args.relations.now in
    let m : c.is_met.result ≡ false = grind (arith, common_steps) in
    record { first = no_change ms ks h D own c.args.before (read_of c.args.read.now) (unmet_tells ms ks h D own c.args.read.now (sym c.is_met.ensures.met ∙ m)) }

pub returns-then-is_same : goal.returns-then-is_same
returns-then-is_same c =
    let ms = rules_in c.args.reader.now.mappings.now in
    let h = heading_of c.args.reader.now.direction in
    let D = c.args.reader.now.below.now in
    let own = map change_of c.args.reader.now.own.now in
    let ks = c.args.relations.now in
    let m : c.is_met.result ≡ true = grind (arith, common_steps) in
    record { first = no_change ms ks h D own c.args.before (read_of c.args.read.now) (test_tells ms ks h D own c.args.read.now c.is_same.result false (reply_of c.in_ok-now.now) (sym c.is_met.ensures.met ∙ m) c.in_ok-now.ensures.value c.is_same.ensures.same c.if-is_same.true) }

pub returns : goal.returns
returns c =
    let ms = rules_in c.args.reader.now.mappings.now in
    let h = heading_of c.args.reader.now.direction in
    let D = c.args.reader.now.below.now in
    let own = map change_of c.args.reader.now.own.now in
    let ks = c.args.relations.now in
    let a = reply_of c.in_ok-now.now in
    let m : c.is_met.result ≡ true = grind (arith, common_steps) in
    record {
      first =
          ap (λ (r : Read). Some (record { number = c.args.before + 1; read = r; now = a })) c.in_ok-copy.ensures.same
          ∙ change_is ms ks h D own c.args.before (read_of c.args.read.now) a c.in_ok-now.ensures.value (test_tells ms ks h D own c.args.read.now c.is_same.result true a (sym c.is_met.ensures.met ∙ m) c.in_ok-now.ensures.value c.is_same.ensures.same c.if-is_same.false);
    }
