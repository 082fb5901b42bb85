use Rattle.std.proofs.Common.{◌+◌, ◌∙◌, ap}
use Rattle.work_lock.specs.Seats.{Place}
use Rattle.work_lock.proofs.Histories.{sum_made_by-turn}
use Rattle.try_lock.specs.Events.{tickets_out, tickets_back}
use Rattle.try_lock.proofs.Boards.{still_held}
use Rattle.try_lock.proofs.desk.DeskBench.give_back.Goals as goal

pub take_back-requires : goal.take_back-requires
take_back-requires g c = record { held = still_held _ _ _ _ (c.number.ensures ∙ ap (λ (z : Place). z.number) c.open-turn.ensures.place) c.open-turn.ensures.follows c.requires.out }

pub returns-clause-given : goal.returns-clause-given
returns-clause-given g c =
    let opened = ap (λ (z : Place). z.number) c.open-turn.ensures.place in
    sum_made_by-turn tickets_out (λ n. n) _ _ _ _ _ _ _ (c.number.ensures ∙ opened) (ap (λ (z : Place). z.number) c.close_turn.ensures.place ∙ opened) c.open-turn.ensures.follows c.take_back.ensures.given c.close_turn.ensures.seen

pub returns-clause-spent : goal.returns-clause-spent
returns-clause-spent g c =
    let opened = ap (λ (z : Place). z.number) c.open-turn.ensures.place in
    sum_made_by-turn tickets_back (λ n. n + 1) _ _ _ _ _ _ _ (c.number.ensures ∙ opened) (ap (λ (z : Place). z.number) c.close_turn.ensures.place ∙ opened) c.open-turn.ensures.follows c.take_back.ensures.returned c.close_turn.ensures.seen
