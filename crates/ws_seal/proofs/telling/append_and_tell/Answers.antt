use Rattle.std.proofs.Common.{inl, inr, refl}
use Rattle.ws_seal.proofs.telling.append_and_tell.Goals as goal

pub returns-in_err-append-clause-lasts : goal.returns-in_err-append-clause-lasts
returns-in_err-append-clause-lasts g c = λ before m texts held. inl refl

pub returns-in-Ok-clause-lasts : goal.returns-in-Ok-clause-lasts
returns-in-Ok-clause-lasts g c = λ before m texts held. inr (c.in_ok-append.ensures.acknowledged before m texts held)

pub returns-in-Err-clause-lasts : goal.returns-in-Err-clause-lasts
returns-in-Err-clause-lasts g c = λ before m texts held. inr (c.in_ok-append.ensures.acknowledged before m texts held)
