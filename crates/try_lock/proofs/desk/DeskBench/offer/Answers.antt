use Rattle.std.proofs.Common.{◌+◌, ◌∙◌, ap, arith}
use Rattle.work_lock.specs.Seats.{Place}
use Rattle.work_lock.proofs.Histories.{sum_made_by-turn}
use Rattle.work_loop.specs.Offers.{tickets_in}
use Rattle.try_lock.specs.Events.{tickets_out, tickets_back}
use Rattle.try_lock.proofs.desk.DeskBench.offer.Goals as goal

pub returns-clause-held : goal.returns-clause-held
returns-clause-held g c =
    let opened = ap (λ (z : Place). z.number) c.open-turn.ensures.place in
    let closed = ap (λ (z : Place). z.number) c.close_turn.ensures.place ∙ opened in
    let given = sum_made_by-turn tickets_out (λ n. n + tickets_in c.offer-offer.result) _ _ _ _ _ _ _ (c.number.ensures ∙ opened) closed c.open-turn.ensures.follows c.offer-offer.ensures.given c.close_turn.ensures.seen in
    let back = sum_made_by-turn tickets_back (λ n. n) _ _ _ _ _ _ _ (c.number.ensures ∙ opened) closed c.open-turn.ensures.follows c.offer-offer.ensures.returned c.close_turn.ensures.seen in
    omega (arith, given, back)
