use Rattle.std.proofs.Common.{◌∙◌, ap, map}
use Rattle.base_types.specs.Meanings.{fact_of}
use Rattle.set_facts.proofs.Ahead.{from_there, from_between, slice_from}
use Rattle.set_facts.proofs.Sought.{parted}
use Rattle.set_facts.proofs.listed.from.Goals as goal

pub returns-in-Ok : goal.returns-in-Ok
returns-in-Ok c =
    let D = c.args.tuples.now in
    record { rest = ap (map fact_of) (slice_from D c.in-Ok.place) ∙ from_there D c.args.tuple.now c.in-Ok.place c.requires.in_order c.in-Ok.ensures.bound c.in-Ok.ensures.position }

pub returns-in-Err : goal.returns-in-Err
returns-in-Err c =
    let D = c.args.tuples.now in
    let t = c.args.tuple.now in
    record { rest = ap (map fact_of) (slice_from D c.in-Err.place) ∙ from_between D t c.in-Err.place c.in-Err.ensures.bound (parted D t c.in-Err.place c.requires.in_order c.in-Err.ensures.position) }
