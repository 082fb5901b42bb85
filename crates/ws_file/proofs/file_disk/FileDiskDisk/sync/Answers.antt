use Rattle.base_devices.specs.States.{IsLeft}
use Rattle.base_devices.specs.Logs.{Sync}
use Rattle.base_devices.proofs.Moments.{settled, time, images, cause, still, still_sync, read_now, now_left, sync_left}
use Rattle.std.proofs.Common.{refl}
use Rattle.ws_file.specs.Files.{state_of, trace_of}
use Rattle.ws_file.proofs.Counting.{made, failing}
use Rattle.ws_file.proofs.file_disk.FileDiskDisk.sync.Goals as goal

pub returns-clause-same : goal.returns-clause-same
returns-clause-same c = still Sync (trace_of c.args.self.now) (trace_of c.make_sync.new.self) still_sync c.make_sync.result (made Sync c.args.self.now c.make_sync.new.self c.make_sync.ensures.made_of c.make_sync.result c.make_sync.ensures.counted)

pub returns-clause-time : goal.returns-clause-time
returns-clause-time c = time _ _ _ _ Sync (trace_of c.args.self.now) (trace_of c.make_sync.new.self) c.make_sync.result (made Sync c.args.self.now c.make_sync.new.self c.make_sync.ensures.made_of c.make_sync.result c.make_sync.ensures.counted)

pub returns-clause-images : goal.returns-clause-images
returns-clause-images c =
    images Sync (trace_of c.args.self.now) (trace_of c.make_sync.new.self) (IsLeft (state_of c.args.self.now)) (now_left (trace_of c.args.self.now)) (sync_left (trace_of c.args.self.now)) c.make_sync.result (made Sync c.args.self.now c.make_sync.new.self c.make_sync.ensures.made_of c.make_sync.result c.make_sync.ensures.counted)

pub returns-clause-read : goal.returns-clause-read
returns-clause-read c = read_now (trace_of c.make_sync.new.self)

pub returns-clause-cause : goal.returns-clause-cause
returns-clause-cause c =
    cause _ _ _ _ Sync (trace_of c.args.self.now) (trace_of c.make_sync.new.self) c.make_sync.ensures.later refl c.make_sync.result
    (failing Sync c.args.self.now c.make_sync.new.self c.make_sync.result c.make_sync.ensures.counted) (made Sync c.args.self.now c.make_sync.new.self c.make_sync.ensures.made_of c.make_sync.result c.make_sync.ensures.counted)

pub returns-clause-settled : goal.returns-clause-settled
returns-clause-settled c = settled (trace_of c.args.self.now) (trace_of c.make_sync.new.self) c.make_sync.result (made Sync c.args.self.now c.make_sync.new.self c.make_sync.ensures.made_of c.make_sync.result c.make_sync.ensures.counted)
