use Rattle.base_devices.specs.States.{IsLeft}
use Rattle.base_devices.specs.Logs.{Load}
use Rattle.base_devices.proofs.Moments.{time, images, cause, still, still_load, read_now, now_left, load_left}
use Rattle.std.proofs.Common.{refl}
use Rattle.ws_file.specs.Files.{state_of, trace_of}
use Rattle.ws_file.proofs.Counting.{made, failing}
use Rattle.ws_file.proofs.file_disk.FileDiskDisk.load.Goals as goal

pub returns-clause-same : goal.returns-clause-same
returns-clause-same c = still Load (trace_of c.args.self.now) (trace_of c.make_load.new.self) still_load c.make_load.result (made Load c.args.self.now c.make_load.new.self c.make_load.ensures.made_of c.make_load.result c.make_load.ensures.counted)

pub returns-clause-time : goal.returns-clause-time
returns-clause-time c = time _ _ _ _ Load (trace_of c.args.self.now) (trace_of c.make_load.new.self) c.make_load.result (made Load c.args.self.now c.make_load.new.self c.make_load.ensures.made_of c.make_load.result c.make_load.ensures.counted)

pub returns-clause-images : goal.returns-clause-images
returns-clause-images c =
    images Load (trace_of c.args.self.now) (trace_of c.make_load.new.self) (IsLeft (state_of c.args.self.now)) (now_left (trace_of c.args.self.now)) (load_left (trace_of c.args.self.now)) c.make_load.result (made Load c.args.self.now c.make_load.new.self c.make_load.ensures.made_of c.make_load.result c.make_load.ensures.counted)

pub returns-clause-read : goal.returns-clause-read
returns-clause-read c = read_now (trace_of c.make_load.new.self)

pub returns-clause-cause : goal.returns-clause-cause
returns-clause-cause c =
    cause _ _ _ _ Load (trace_of c.args.self.now) (trace_of c.make_load.new.self) c.make_load.ensures.later refl c.make_load.result
    (failing Load c.args.self.now c.make_load.new.self c.make_load.result c.make_load.ensures.counted) (made Load c.args.self.now c.make_load.new.self c.make_load.ensures.made_of c.make_load.result c.make_load.ensures.counted)
