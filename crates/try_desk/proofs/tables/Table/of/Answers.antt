use Rattle.work_desk.specs.Seats.{IsSeatOf}
use Rattle.try_desk.proofs.Seating.{three_of, all_three}
use Rattle.try_desk.proofs.tables.Table.of.Goals as goal

pub returns-clause-own : goal.returns-clause-own
returns-clause-own g c =
    let same = three_of c.args.seats.items c.remove-third.new.self.items c.remove-second.new.self.items c.remove-first.result c.remove-second.result c.remove-third.result
    c.requires.three c.remove-third.ensures.value c.remove-third.ensures.items c.remove-second.ensures.value c.remove-second.ensures.items c.remove-first.ensures.value in
    let each = all_three (IsSeatOf g.C.Core.over g.C.Core.history c.args._desk.now) _ _ _ _ same c.requires.own in
    ((each.0, tt), (each.1, tt), (each.2, tt))

pub returns-clause-seats : goal.returns-clause-seats
returns-clause-seats g c =
    three_of c.args.seats.items c.remove-third.new.self.items c.remove-second.new.self.items c.remove-first.result c.remove-second.result c.remove-third.result
    c.requires.three c.remove-third.ensures.value c.remove-third.ensures.items c.remove-second.ensures.value c.remove-second.ensures.items c.remove-first.ensures.value
