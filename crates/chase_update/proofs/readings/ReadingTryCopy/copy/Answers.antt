use Rattle.std.proofs.Common.{◌∙◌, sym, Some}
use Rattle.chase_update.specs.Rows.{asked}
use Rattle.chase_update.proofs.readings.ReadingTryCopy.copy.Goals as goal

pub invariant_of-result : goal.invariant_of-result
invariant_of-result c =
    let q = c.in_ok-copy.ensures.same in
    let r = c.in_ok-copy-2.ensures.same in
    record { asks = (λ i. asked (r i (q i))) ∙ (c.args.self.now.asks ∙ (λ i. Some (sym q i))) }

pub returns : goal.returns
returns c = record { same = λ i. c.in_ok-copy-2.ensures.same i (c.in_ok-copy.ensures.same i) }
