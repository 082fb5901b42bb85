use Rattle.std.proofs.Common.{arith}
use Rattle.base_roll.proofs.Gates.{split_byte}
use Rattle.ws_seal.proofs.Hiding.{both, no_gate, no_next, no_seal, other_gate}
use Rattle.ws_seal.proofs.reading.hides.Goals as goal

pub returns-in_default-more-clause-not_hidden : goal.returns-in_default-more-clause-not_hidden
returns-in_default-more-clause-not_hidden c = λ e. no_gate c.args.mark.now.digits c.args.after.now c.in-Some.payload.now c.in-Some.more.now c.in-Some.ensures.some c.in-Some.ensures.short (omega arith)

pub returns-then-byte-ne1-clause-not_hidden : goal.returns-then-byte-ne1-clause-not_hidden
returns-then-byte-ne1-clause-not_hidden c = λ e. other_gate c.args.mark.now.digits c.args.after.now c.in-Some.payload.now c.in-Some.more.now c.in-Some.ensures.some c.in-Some.ensures.short c.if-byte-ne1.true

pub returns-in_default-unseal-clause-not_hidden : goal.returns-in_default-unseal-clause-not_hidden
returns-in_default-unseal-clause-not_hidden c = λ e. no_seal c.args.mark.now.digits c.args.after.now c.in-Some.payload.now c.in-Some.more.now c.in-Some.ensures.some c.in-Some.ensures.short c.in_default-unseal.ensures.none

pub returns-clause-hidden : goal.returns-clause-hidden
returns-clause-hidden c = λ e. both c.args.mark.now.digits c.args.after.now c.in-Some.payload.now c.in-Some.more.now c.in-Some.ensures.some c.in-Some.ensures.short c.in-Some-unseal._text.now c.in-Some-unseal.found.digits _
    c.in-Some-unseal.ensures.payload c.in-Some-unseal.ensures.marked (split_byte c.in-Some.more.now c.in-len1-up.len_at_least c.if-byte-ne1.false) (c.begins_sealed.ensures.yes e)

pub returns-clause-not_hidden : goal.returns-clause-not_hidden
returns-clause-not_hidden c = λ e. no_next c.args.mark.now.digits c.args.after.now c.in-Some.payload.now c.in-Some.more.now c.in-Some.ensures.some c.in-Some.ensures.short c.in-Some-unseal._text.now c.in-Some-unseal.found.digits _
    c.in-Some-unseal.ensures.payload c.in-Some-unseal.ensures.marked (split_byte c.in-Some.more.now c.in-len1-up.len_at_least c.if-byte-ne1.false) (c.begins_sealed.ensures.no e)
