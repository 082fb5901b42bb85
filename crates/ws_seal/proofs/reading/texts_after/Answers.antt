use Rattle.std.proofs.Common.{◌≡◌, length, rules, ◌∙◌, sym, refl, arith}
use Rattle.std.proofs.lemmas.List.{length-map}
use Rattle.base_roll.proofs.Gates.{first_byte, split_byte}
use Rattle.ws_seal.proofs.SoFar.{at_closed, forged, more_read}
use Rattle.ws_seal.proofs.reading.texts_after.Goals as goal

pub returns-then-byte-ne1 : goal.returns-then-byte-ne1
returns-then-byte-ne1 c =
    at_closed _ _ _ _ c.args.bytes.now c.records.rest.now c.records.mark.digits c.records.invariant _ _ _ (first_byte c.records.rest.now c.in-len1-up.len_at_least) c.if-byte-ne1.true refl c.at_gate.result c.at_gate.ensures

pub returns-in_default-unseal : goal.returns-in_default-unseal
returns-in_default-unseal c =
    forged _ _ _ _ c.args.bytes.now c.records.rest.now c.records.mark.digits c.records.invariant _ _ c.in-Some.payload.now c.in-Some.more.now (let n : c.len.result ≡ length c.records.texts.items = search rules in n ∙ sym (length-map c.records.texts.items (λ v. v.items)))
    (split_byte c.records.rest.now c.in-len1-up.len_at_least c.if-byte-ne1.false) c.in-Some.ensures.some c.in-Some.ensures.short c.in_default-unseal.ensures.none

pub records-preserved : goal.records-preserved
records-preserved c =
    more_read _ _ _ _ c.args.bytes.now c.records.rest.now c.records.mark.digits c.records.invariant _ c.in-Some.payload.now c.in-Some-unseal.text.now c.in-Some-unseal.next.digits c.in-Some.more.now _
    (split_byte c.records.rest.now c.in-len1-up.len_at_least c.if-byte-ne1.false) c.in-Some.ensures.some c.in-Some.ensures.short c.in-Some-unseal.ensures.payload c.in-Some-unseal.ensures.marked c.in_ok-keep.ensures
