use Rattle.std.proofs.Common.{◌≡◌, refl, sym, ap, ◌∙◌, rules}
use Rattle.base_devices.specs.Torn.{written}
use Rattle.base_devices.specs.Logs.{Write}
use Rattle.base_devices.proofs.Moments.{failed_bytes, made_bytes}
use Rattle.base_devices.specs.InMemory.{MemState, bytes_of, trace_of}
use Rattle.base_devices.proofs.Counting.{made}
use Rattle.base_devices.proofs.mem_disk.MemDisk.make_write.Goals as goal

pub invariant_of-self-in_err-count : goal.invariant_of-self-in_err-count
invariant_of-self-in_err-count c =
    let old : MemState = record { made_of = c.self.inside.made_of.items; log = c.self.inside.log } in
    let new : MemState = record { made_of = c.self.inside.made_of.items; log = c.count.new.self } in
    let kept : c.reserve.new.self.items ≡ c.self.inside.bytes.items = c.in_ok-reserve.ensures.items in
    let call = Write c.args.at c.in_ok-copy.copy.items in
    kept ∙ c.self.invariant ∙ sym (failed_bytes call (trace_of old) (trace_of new) (λ h. refl) c.count.result c.in_err-count.field-0.0 c.in_err-count.was (made call old new refl c.count.result c.count.ensures.counted))

pub invariant_of-self-2 : goal.invariant_of-self-2
invariant_of-self-2 c =
    let old : MemState = record { made_of = c.self.inside.made_of.items; log = c.self.inside.log } in
    let new : MemState = record { made_of = c.self.inside.made_of.items; log = c.count.new.self } in
    let kept : c.reserve.new.self.items ≡ c.self.inside.bytes.items = c.in_ok-reserve.ensures.items in
    let copied : c.in_ok-copy.copy.items ≡ c.args.bytes.now = search rules in
    let call = Write c.args.at c.in_ok-copy.copy.items in
    c.overwrite.ensures
    ∙ ap (λ bs. written c.args.at c.args.bytes.now bs) (kept ∙ c.self.invariant)
    ∙ ap (λ bs. written c.args.at bs (bytes_of old)) (sym copied)
    ∙ sym (made_bytes call (trace_of old) (trace_of new) c.count.result c.in_ok-count.field-0 c.in_ok-count.was (made call old new refl c.count.result c.count.ensures.counted))
