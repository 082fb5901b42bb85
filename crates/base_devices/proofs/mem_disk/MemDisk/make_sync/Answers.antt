use Rattle.std.proofs.Common.{refl, sym, ◌∙◌}
use Rattle.base_devices.specs.Logs.{Sync}
use Rattle.base_devices.proofs.Moments.{still, still_sync}
use Rattle.base_devices.specs.InMemory.{MemState, trace_of}
use Rattle.base_devices.proofs.Counting.{made}
use Rattle.base_devices.proofs.mem_disk.MemDisk.make_sync.Goals as goal

pub invariant_of-self : goal.invariant_of-self
invariant_of-self c =
    let old : MemState = record { made_of = c.self.inside.made_of.items; log = c.self.inside.log } in
    let new : MemState = record { made_of = c.self.inside.made_of.items; log = c.count.new.self } in
    c.self.invariant ∙ sym (still Sync (trace_of old) (trace_of new) still_sync c.count.result (made Sync old new refl c.count.result c.count.ensures.counted))
