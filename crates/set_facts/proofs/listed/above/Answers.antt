use Rattle.std.proofs.Common.{◌∙◌, ap, map, arith, ◌+◌}
use Rattle.base_types.specs.Meanings.{fact_of}
use Rattle.set_facts.proofs.Ahead.{above_there, above_between, slice_from}
use Rattle.set_facts.proofs.Sought.{parted}
use Rattle.set_facts.proofs.listed.above.Goals as goal

pub returns-in-Ok : goal.returns-in-Ok
returns-in-Ok c =
    let D = c.args.tuples.now in
    record { rest = ap (map fact_of) (slice_from D (c.in-Ok.place + 1)) ∙ above_there D c.args.tuple.now c.in-Ok.place (c.in-Ok.place + 1) (omega arith) c.requires.in_order c.in-Ok.ensures.bound c.in-Ok.ensures.position }

pub returns-in-Err : goal.returns-in-Err
returns-in-Err c =
    let D = c.args.tuples.now in
    let t = c.args.tuple.now in
    record { rest = ap (map fact_of) (slice_from D c.in-Err.place) ∙ above_between D t c.in-Err.place c.in-Err.ensures.bound (parted D t c.in-Err.place c.requires.in_order c.in-Err.ensures.position) }
