use Rattle.std.proofs.Common.{sym}
use Rattle.base_types.specs.Meanings.{fact_of, datum_of}
use Rattle.set_facts.proofs.Groups.{vacant_drops, drops_twice}
use Rattle.set_facts.proofs.columns.take_out.Goals as goal

pub returns-then-empties-clause-dropped : goal.returns-then-empties-clause-dropped
returns-then-empties-clause-dropped c =
    let t = fact_of c.args.tuple.now in
    let m = c.empties.new.groups in
    drops_twice (datum_of c.args.value.now) t c.args.groups.now m c.swap_remove.new.self c.empties.ensures.dropped
    (vacant_drops m c.swap_remove.new.self c.args.value.now t (c.swap_remove.ensures.updates).0 (sym (c.empties.ensures.vacant.0 c.if-empties.true)))
