use Rattle.std.proofs.Common.{◌≡◌, refl, sym, ap, ◌∙◌, rules}
use Rattle.base_devices.specs.Torn.{written}
use Rattle.base_devices.specs.Logs.{Write}
use Rattle.base_devices.proofs.Moments.{failed_bytes, made_bytes}
use Rattle.ws_file.specs.Files.{FileState, bytes_of, trace_of}
use Rattle.ws_file.proofs.Counting.{made}
use Rattle.ws_file.proofs.file_disk.FileDisk.make_write.Goals as goal

pub invariant_of-self-in_err-make : goal.invariant_of-self-in_err-make
invariant_of-self-in_err-make c =
    let old : FileState = record { base = c.self.inside.base; made_of = c.self.inside.made_of.items; log = c.self.inside.log } in
    let new : FileState = record { base = c.self.inside.base; made_of = c.self.inside.made_of.items; log = c.make.new.self } in
    let kept : c.reserve.new.self.items ≡ c.self.inside.bytes.items = c.in_ok-reserve.ensures.items in
    let call = Write c.args.at c.in_ok-copy.copy.items in
    kept ∙ c.self.invariant ∙ sym (failed_bytes call (trace_of old) (trace_of new) (λ h. refl) c.make.result c.in_err-make.field-0.0 c.in_err-make.was (made call old new refl c.make.result c.make.ensures.counted))

pub invariant_of-self-2 : goal.invariant_of-self-2
invariant_of-self-2 c =
    let old : FileState = record { base = c.self.inside.base; made_of = c.self.inside.made_of.items; log = c.self.inside.log } in
    let new : FileState = record { base = c.self.inside.base; made_of = c.self.inside.made_of.items; log = c.make.new.self } in
    let kept : c.reserve.new.self.items ≡ c.self.inside.bytes.items = c.in_ok-reserve.ensures.items in
    let copied : c.in_ok-copy.copy.items ≡ c.args.bytes.now = search rules in
    let call = Write c.args.at c.in_ok-copy.copy.items in
    c.overwrite.ensures
    ∙ ap (λ bs. written c.args.at c.args.bytes.now bs) (kept ∙ c.self.invariant)
    ∙ ap (λ bs. written c.args.at bs (bytes_of old)) (sym copied)
    ∙ sym (made_bytes call (trace_of old) (trace_of new) c.make.result c.in_ok-make.field-0 c.in_ok-make.was (made call old new refl c.make.result c.make.ensures.counted))
