use Rattle.std.proofs.Common.{refl, sym, ◌∙◌}
use Rattle.base_devices.specs.Logs.{Sync}
use Rattle.base_devices.proofs.Moments.{still, still_sync}
use Rattle.ws_file.specs.Files.{FileState, trace_of}
use Rattle.ws_file.proofs.Counting.{made}
use Rattle.ws_file.proofs.file_disk.FileDisk.make_sync.Goals as goal

pub invariant_of-self : goal.invariant_of-self
invariant_of-self c =
    let old : FileState = record { base = c.self.inside.base; made_of = c.self.inside.made_of.items; log = c.self.inside.log } in
    let new : FileState = record { base = c.self.inside.base; made_of = c.self.inside.made_of.items; log = c.make.new.self } in
    c.self.invariant ∙ sym (still Sync (trace_of old) (trace_of new) still_sync c.make.result (made Sync old new refl c.make.result c.make.ensures.counted))
