use Rattle.std.proofs.Common.{◌∙◌, sym, subst, List}
use Rattle.work_lock.proofs.Lists.{there_is}
use Rattle.def_history.specs.PlainEntries.{PlainEntry}
use Rattle.work_desk.specs.Seats.{core_of}
use Rattle.work_desk.specs.Closing.{HasClosed}
use Rattle.work_desk.proofs.Closing.{closes, ends}
use Rattle.work_desk.proofs.desk.Desk.close.Goals as goal

pub returns-clause-over : goal.returns-clause-over
returns-clause-over g c =
    let d = core_of c.args.self in
    let first = there_is c.args.seats.items 0 c.requires.some in
    let own = c.requires.own 0 first.0 first.1 in
    c.into_core.ensures.over ∙ (closes (g.C.Core.over d) (g.C.Core.history d) c.into_value.result c.args.seats.items first.0 own.later c.into_core.ensures.shared c.into_value.ensures.within first.1 own.saw).0

pub returns-clause-closed : goal.returns-clause-closed
returns-clause-closed g c =
    let d = core_of c.args.self in
    let first = there_is c.args.seats.items 0 c.requires.some in
    let own = c.requires.own 0 first.0 first.1 in
    subst (λ (K : List PlainEntry). HasClosed (g.C.Core.over d) (g.C.Core.history d) K c.args.seats.items) (sym c.into_core.ensures.history)
    (closes (g.C.Core.over d) (g.C.Core.history d) c.into_value.result c.args.seats.items first.0 own.later c.into_core.ensures.shared c.into_value.ensures.within first.1 own.saw).1

pub returns-clause-rest : goal.returns-clause-rest
returns-clause-rest g c =
    let d = core_of c.args.self in
    let first = there_is c.args.seats.items 0 c.requires.some in
    let own = c.requires.own 0 first.0 first.1 in
    let closed = subst (λ (K : List PlainEntry). HasClosed (g.C.Core.over d) (g.C.Core.history d) K c.args.seats.items) (sym c.into_core.ensures.history)
    (closes (g.C.Core.over d) (g.C.Core.history d) c.into_value.result c.args.seats.items first.0 own.later c.into_core.ensures.shared c.into_value.ensures.within first.1 own.saw).1 in
    λ legal whole rests. ends (g.C.Core.over d) (g.C.Core.history d) (g.C.Core.history c.into_core.result) c.args.seats.items c.requires.some closed legal whole (λ k s at. (let o = c.requires.own k s at in (o.later, o.saw))) rests
