use Rattle.ws_seal.proofs.Hiding.{not_sealed}
use Rattle.ws_seal.proofs.reading.begins_sealed.Goals as goal

pub returns-in_default-unseal-clause-no : goal.returns-in_default-unseal-clause-no
returns-in_default-unseal-clause-no c = λ e. not_sealed c.args.mark.now.digits c.args.bytes.now c.in-Some.payload.now c.in-Some._more.now c.in-Some.ensures.some c.in-Some.ensures.short c.in_default-unseal.ensures.none
