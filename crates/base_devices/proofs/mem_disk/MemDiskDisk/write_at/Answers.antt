use Rattle.base_devices.specs.States.{IsLeftTorn}
use Rattle.base_devices.specs.Torn.{range_of}
use Rattle.base_devices.specs.Logs.{Write}
use Rattle.base_devices.proofs.Moments.{time, images, cause, wrote, read_now, unwritten_left, write_left}
use Rattle.base_devices.specs.InMemory.{state_of, trace_of}
use Rattle.base_devices.proofs.Counting.{made, as_reliable, failing}
use Rattle.base_devices.proofs.mem_disk.MemDiskDisk.write_at.Goals as goal

pub returns-clause-bytes : goal.returns-clause-bytes
returns-clause-bytes c = wrote c.args.at c.args.bytes.now (trace_of c.args.self.now) (trace_of c.make_write.new.self) c.make_write.result (made (Write c.args.at c.args.bytes.now) c.args.self.now c.make_write.new.self c.make_write.ensures.made_of c.make_write.result c.make_write.ensures.counted)

pub returns-clause-time : goal.returns-clause-time
returns-clause-time c = time _ _ _ _ (Write c.args.at c.args.bytes.now) (trace_of c.args.self.now) (trace_of c.make_write.new.self) c.make_write.result (made (Write c.args.at c.args.bytes.now) c.args.self.now c.make_write.new.self c.make_write.ensures.made_of c.make_write.result c.make_write.ensures.counted)

pub returns-clause-images : goal.returns-clause-images
returns-clause-images c =
    images (Write c.args.at c.args.bytes.now) (trace_of c.args.self.now) (trace_of c.make_write.new.self) (IsLeftTorn (state_of c.args.self.now) (range_of c.args.at c.args.bytes.now))
    (unwritten_left (trace_of c.args.self.now) (range_of c.args.at c.args.bytes.now)) (write_left (trace_of c.args.self.now) c.args.at c.args.bytes.now) c.make_write.result (made (Write c.args.at c.args.bytes.now) c.args.self.now c.make_write.new.self c.make_write.ensures.made_of c.make_write.result c.make_write.ensures.counted)

pub returns-clause-read : goal.returns-clause-read
returns-clause-read c = read_now (trace_of c.make_write.new.self)

pub returns-clause-cause : goal.returns-clause-cause
returns-clause-cause c =
    cause _ _ _ _ (Write c.args.at c.args.bytes.now) (trace_of c.args.self.now) (trace_of c.make_write.new.self) c.make_write.ensures.later (as_reliable (Write c.args.at c.args.bytes.now) c.args.self.now c.make_write.new.self c.make_write.result c.make_write.ensures.counted) c.make_write.result
    (failing (Write c.args.at c.args.bytes.now) c.args.self.now c.make_write.new.self c.make_write.result c.make_write.ensures.counted) (made (Write c.args.at c.args.bytes.now) c.args.self.now c.make_write.new.self c.make_write.ensures.made_of c.make_write.result c.make_write.ensures.counted)
