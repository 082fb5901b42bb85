use Rattle.std.proofs.Common.{length, take, map}
use Rattle.ws_seal.proofs.SoFar.{IsSoFar}
use Rattle.ws_seal.proofs.reading.texts_after.Given as goal

abbrev pub invariant-records : goal.invariant-records
invariant-records l = IsSoFar (take l.fn.start l.bytes) l.fn.mark.digits (map (λ v. v.items) l.fn.texts.items) (map (λ v. v.items) l.texts.items) l.bytes l.rest l.mark.digits

abbrev pub decreases-records : goal.decreases-records
decreases-records l = length l.rest
