use Rattle.std.proofs.Common.{◌∙◌, ap, map}
use Rattle.work_lock.specs.Seats.{place_of}
use Rattle.work_desk.proofs.Dealing.{dealt_own, back_own, back_all}
use Rattle.try_desk.proofs.plays.play.Goals as goal

pub of-requires-clause-own : goal.of-requires-clause-own
of-requires-clause-own g c =
    dealt_own g.C.Core.over g.C.Core.history c.in-Ok-new.opened.0 c.args.core 3 c.in-Ok-new.opened.1.items c.in-Ok-new.ensures.core c.in-Ok-new.ensures.seats c.in-Ok-new.ensures.saw

pub close-requires-clause-seats : goal.close-requires-clause-seats
close-requires-clause-seats g c =
    let places = c.into_seats-seats.ensures.places ∙ (c.led-table.ensures.places ∙ ap (map place_of) c.of.ensures.seats) in
    (back_all g.C.Core.over g.C.Core.history c.in-Ok-new.opened.0 3 c.in-Ok-new.opened.1.items c.into_seats-seats.result.items c.in-Ok-new.ensures.seats places c.into_seats-seats.ensures.own).1

pub close-requires-clause-own : goal.close-requires-clause-own
close-requires-clause-own g c = back_own g.C.Core.over g.C.Core.history c.in-Ok-new.opened.0 c.into_seats-seats.result.items c.into_seats-seats.ensures.own
