use Rattle.run_note.proofs.Writing.{latest_all}
use Rattle.run_note.proofs.writes.latest.Goals as goal

pub returns : goal.returns
returns c = record { latest = latest_all c.args.seen c.args.own.now.items c.as_slice.result.now c.as_slice.ensures.items }
