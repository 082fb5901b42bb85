use Rattle.std.proofs.Common.{refl, sym, ◌∙◌}
use Rattle.base_devices.specs.Logs.{Load}
use Rattle.base_devices.proofs.Moments.{still, still_load}
use Rattle.base_devices.specs.InMemory.{MemState, trace_of}
use Rattle.base_devices.proofs.Counting.{made}
use Rattle.base_devices.proofs.mem_disk.MemDisk.make_load.Goals as goal

pub invariant_of-self : goal.invariant_of-self
invariant_of-self c =
    let old : MemState = record { made_of = c.self.inside.made_of.items; log = c.self.inside.log } in
    let new : MemState = record { made_of = c.self.inside.made_of.items; log = c.count.new.self } in
    c.self.invariant ∙ sym (still Load (trace_of old) (trace_of new) still_load c.count.result (made Load old new refl c.count.result c.count.ensures.counted))

pub invariant_of-self-2 : goal.invariant_of-self-2
invariant_of-self-2 c =
    let old : MemState = record { made_of = c.self.inside.made_of.items; log = c.self.inside.log } in
    let new : MemState = record { made_of = c.self.inside.made_of.items; log = c.count.new.self } in
    c.self.invariant ∙ sym (still Load (trace_of old) (trace_of new) still_load c.count.result (made Load old new refl c.count.result c.count.ensures.counted))
