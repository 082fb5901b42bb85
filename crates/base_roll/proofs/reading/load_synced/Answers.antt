use Rattle.std.proofs.Common.{◌∙◌, arith}
use Rattle.base_roll.specs.Histories.{IsReading}
use Rattle.base_roll.proofs.Leaving.{failed_later}
use Rattle.base_roll.proofs.Onwards.{on_ok, if_ok_weaker}
use Rattle.base_roll.proofs.Openings.{reads_on, stays_settled}
use Rattle.base_roll.proofs.reading.load_synced.Goals as goal

pub returns-clause-bytes : goal.returns-clause-bytes
returns-clause-bytes g c = if_ok_weaker c.load.result (λ all e. e ∙ c.sync.ensures.same) c.load.ensures.bytes

pub returns-clause-reads : goal.returns-clause-reads
returns-clause-reads g c =
    let first : IsReading (g.D.Disk.state c.args.disk.now) (g.D.Disk.state c.sync.new.self) = record { goes = c.sync.ensures.time; images = c.sync.ensures.images; same = c.sync.ensures.same; read = c.sync.ensures.read } in
    let second : IsReading (g.D.Disk.state c.sync.new.self) (g.D.Disk.state c.load.new.self) = record { goes = c.load.ensures.time; images = c.load.ensures.images; same = c.load.ensures.same; read = c.load.ensures.read } in
    reads_on (g.D.Disk.state c.args.disk.now) (g.D.Disk.state c.sync.new.self) (g.D.Disk.state c.load.new.self) first second

pub returns-clause-lasts : goal.returns-clause-lasts
returns-clause-lasts g c =
    let second : IsReading (g.D.Disk.state c.sync.new.self) (g.D.Disk.state c.load.new.self) = record { goes = c.load.ensures.time; images = c.load.ensures.images; same = c.load.ensures.same; read = c.load.ensures.read } in
    on_ok c.load.result (stays_settled (g.D.Disk.state c.sync.new.self) (g.D.Disk.state c.load.new.self) c.in_ok-sync.ensures.settled second)

pub returns-clause-later : goal.returns-clause-later
returns-clause-later g c = omega (arith, c.sync.ensures.cause.later, c.load.ensures.cause.later)

pub returns-clause-reliable : goal.returns-clause-reliable
returns-clause-reliable g c = c.load.ensures.cause.reliable ∙ c.sync.ensures.cause.reliable

pub returns-clause-failed : goal.returns-clause-failed
returns-clause-failed g c = λ h. failed_later (g.D.Disk.state c.args.disk.now) (g.D.Disk.state c.sync.new.self) (g.D.Disk.state c.load.new.self) c.sync.ensures.cause.later c.sync.ensures.cause.reliable (c.load.ensures.cause.failed h)
