use Rattle.std.proofs.Common.{◌∙◌, subst, List, ℕ, arith}
use Rattle.base_devices.specs.States.{LeavesOnly, IsLeftTorn}
use Rattle.base_devices.specs.Torn.{IsTorn, range_of}
use Rattle.base_roll.proofs.Leaving.{goes_on, leaves_on, weaker, failed_later}
use Rattle.base_roll.proofs.Onwards.{on_ok}
use Rattle.base_roll.proofs.logging.write_synced.Goals as goal

pub returns-in_err-write_at-clause-images : goal.returns-in_err-write_at-clause-images
returns-in_err-write_at-clause-images g c =
    weaker (IsLeftTorn (g.D.Disk.state c.args.disk.now) (range_of c.args.at c.args.bytes.now)) (IsTorn (range_of c.args.at c.args.bytes.now) (g.D.Disk.state c.args.disk.now).bytes) (g.D.Disk.state c.args.disk.now) (g.D.Disk.state c.write_at.new.self)
    (λ bytes t. subst (λ b. IsTorn (range_of c.args.at c.args.bytes.now) b bytes) (c.requires.settled t.0 t.1) t.2) c.write_at.ensures.images

pub returns-clause-images : goal.returns-clause-images
returns-clause-images g c =
    let P : List ℕ → Type 0 = IsTorn (range_of c.args.at c.args.bytes.now) (g.D.Disk.state c.args.disk.now).bytes in
    let first : LeavesOnly (g.D.Disk.state c.args.disk.now) (g.D.Disk.state c.write_at.new.self) P =
    weaker (IsLeftTorn (g.D.Disk.state c.args.disk.now) (range_of c.args.at c.args.bytes.now)) P (g.D.Disk.state c.args.disk.now) (g.D.Disk.state c.write_at.new.self)
    (λ bytes t. subst (λ b. IsTorn (range_of c.args.at c.args.bytes.now) b bytes) (c.requires.settled t.0 t.1) t.2) c.write_at.ensures.images in
    leaves_on P (g.D.Disk.state c.args.disk.now) (g.D.Disk.state c.write_at.new.self) (g.D.Disk.state c.sync.new.self) first c.sync.ensures.time
    (λ k bytes l m i. first (g.D.Disk.state c.write_at.new.self).now bytes c.write_at.ensures.time.later (omega arith) (c.sync.ensures.images k bytes l m i))

pub returns-clause-written : goal.returns-clause-written
returns-clause-written g c = on_ok c.sync.result (c.sync.ensures.same ∙ c.in_ok-write_at.ensures.bytes)

pub returns-clause-time : goal.returns-clause-time
returns-clause-time g c = goes_on (g.D.Disk.state c.args.disk.now) (g.D.Disk.state c.write_at.new.self) (g.D.Disk.state c.sync.new.self) c.write_at.ensures.time c.sync.ensures.time

pub returns-clause-later : goal.returns-clause-later
returns-clause-later g c = omega (arith, c.write_at.ensures.cause.later, c.sync.ensures.cause.later)

pub returns-clause-reliable : goal.returns-clause-reliable
returns-clause-reliable g c = c.sync.ensures.cause.reliable ∙ c.write_at.ensures.cause.reliable

pub returns-clause-failed : goal.returns-clause-failed
returns-clause-failed g c = λ h. failed_later (g.D.Disk.state c.args.disk.now) (g.D.Disk.state c.write_at.new.self) (g.D.Disk.state c.sync.new.self) c.write_at.ensures.cause.later c.write_at.ensures.cause.reliable (c.sync.ensures.cause.failed h)
