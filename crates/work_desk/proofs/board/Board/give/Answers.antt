use Rattle.std.proofs.Common.{◌≡◌, ◌∙◌, ◌+◌, ap, sym, refl, subst, arith, [], ◌∷◌, ◌++◌, Some}
use Rattle.std.proofs.lemmas.Result.{err_from_is_err_and}
use Rattle.def_record.specs.declared.item.Mark.TheVariants.{Giving}
use Rattle.def_memory.specs.declared.Memory.{Memory}
use Rattle.def_record.specs.Items.{made}
use Rattle.work_desk.specs.declared.tickets.Ticket.{Ticket}
use Rattle.work_desk.specs.Shared.{Shared}
use Rattle.work_desk.specs.Cores.{lowest_idle}
use Rattle.work_desk.proofs.Flights.{ready_is}
use Rattle.work_desk.proofs.Joining.{more}
use Rattle.work_desk.specs.Marks.{shared}
use Rattle.work_desk.proofs.Boards.{shared_more, shared_same, next_none, next_gives}
use Rattle.work_desk.proofs.board.Board.give.Goals as goal

pub returns-in_err-reserve-clause-next : goal.returns-in_err-reserve-clause-next
returns-in_err-reserve-clause-next g c =
    let i = c.self.inside in
    let p = err_from_is_err_and c.from_residual.result c.from_residual.ensures.1 in
    next_none _ _ _ _ _ p.0 c.self.invariant.0
    (shared_same (g.C.Core.over i.core) _ (g.C.Core.history i.core) _ i.opened i.marks.items _ i.busy.items _ i.given refl refl c.in_err-reserve.ensures.items refl) c.self.view_is p.1

pub returns-in_err-reserve-2-clause-next : goal.returns-in_err-reserve-2-clause-next
returns-in_err-reserve-2-clause-next g c =
    let i = c.self.inside in
    let p = err_from_is_err_and c.from_residual-in_err-reserve-2.result c.from_residual-in_err-reserve-2.ensures.1 in
    next_none _ _ _ _ _ p.0 c.self.invariant.0
    (shared_same (g.C.Core.over i.core) _ (g.C.Core.history i.core) _ i.opened i.marks.items _ i.busy.items _ i.given refl refl c.in_ok-reserve.ensures.items c.in_err-reserve-2.ensures.items) c.self.view_is p.1

pub snapshot-requires : goal.snapshot-requires
snapshot-requires g c =
    let i = c.self.inside in
    record { ready = ready_is (g.C.Core.over i.core) (g.C.Core.history i.core) i.busy.items c.args.update (subst (λ (b : Shared). lowest_idle b.over b.history b.busy ≡ Some c.args.update) (sym c.self.view_is) c.requires.idle) }

pub returns-in_err-snapshot-clause-next : goal.returns-in_err-snapshot-clause-next
returns-in_err-snapshot-clause-next g c =
    let i = c.self.inside in
    let p = err_from_is_err_and c.from_residual-in_err-snapshot.result c.from_residual-in_err-snapshot.ensures.1 in
    next_none _ _ _ _ _ p.0 c.self.invariant.0
    (shared_same (g.C.Core.over i.core) _ (g.C.Core.history i.core) _ i.opened i.marks.items _ i.busy.items _ i.given refl refl c.in_ok-reserve.ensures.items c.in_ok-reserve-2.ensures.items) c.self.view_is p.1

pub invariant_of-self-2 : goal.invariant_of-self-2
invariant_of-self-2 g c =
    let i = c.self.inside in
    let o = g.C.Core.over i.core in
    let H = g.C.Core.history i.core in
    let t : Ticket g.row.C-Snapshot.Denot = record { number = i.given + 1; update = c.args.update; stamp = c.length-stamp.result; snapshot = c.in_ok-snapshot.snapshot } in
    let marks = c.push_reserved.ensures.items ∙ ap (λ l. l ++ record { mark = Giving t.number t.update; maker = c.args.seat } ∷ []) c.in_ok-reserve.ensures.items in
    let busy = c.push_reserved-2.ensures.items ∙ ap (λ l. l ++ t.update ∷ []) c.in_ok-reserve-2.ensures.items in
    let same = shared_more o o H H i.opened i.marks.items _ (record { mark = Giving t.number t.update; maker = c.args.seat } ∷ []) i.busy.items _ i.given t.number refl marks ∙ (λ k. more (shared o H i.opened i.marks.items i.busy.items i.given) (made (Giving t.number t.update) (Some c.args.seat) ∷ []) H (busy k) t.number) in
    let p = next_gives {E = Memory} g.C.Core.is_snapshot (shared o H i.opened i.marks.items i.busy.items i.given) _ _ c.args.seat t c.self.invariant.0 c.self.view_is
    (subst (λ (b : Shared). lowest_idle b.over b.history b.busy ≡ Some c.args.update) (sym c.self.view_is) c.requires.idle) refl c.length-stamp.ensures.length c.in_ok-snapshot.ensures.is same in
    (p.0, omega (arith, c.in_ok-reserve.ensures.ok, c.in_ok-reserve.ensures.len, c.in_ok-reserve-2.ensures.len, c.push_reserved.ensures.len, c.push_reserved.ensures.capacity, c.push_reserved-2.ensures.len, c.len.ensures))

pub returns-clause-next : goal.returns-clause-next
returns-clause-next g c =
    let i = c.self.inside in
    let o = g.C.Core.over i.core in
    let H = g.C.Core.history i.core in
    let t : Ticket g.row.C-Snapshot.Denot = record { number = i.given + 1; update = c.args.update; stamp = c.length-stamp.result; snapshot = c.in_ok-snapshot.snapshot } in
    let marks = c.push_reserved.ensures.items ∙ ap (λ l. l ++ record { mark = Giving t.number t.update; maker = c.args.seat } ∷ []) c.in_ok-reserve.ensures.items in
    let busy = c.push_reserved-2.ensures.items ∙ ap (λ l. l ++ t.update ∷ []) c.in_ok-reserve-2.ensures.items in
    let same = shared_more o o H H i.opened i.marks.items _ (record { mark = Giving t.number t.update; maker = c.args.seat } ∷ []) i.busy.items _ i.given t.number refl marks ∙ (λ k. more (shared o H i.opened i.marks.items i.busy.items i.given) (made (Giving t.number t.update) (Some c.args.seat) ∷ []) H (busy k) t.number) in
    (next_gives {E = Memory} g.C.Core.is_snapshot (shared o H i.opened i.marks.items i.busy.items i.given) _ _ c.args.seat t c.self.invariant.0 c.self.view_is
    (subst (λ (b : Shared). lowest_idle b.over b.history b.busy ≡ Some c.args.update) (sym c.self.view_is) c.requires.idle) refl c.length-stamp.ensures.length c.in_ok-snapshot.ensures.is same).1

pub returns-clause-ticket : goal.returns-clause-ticket
returns-clause-ticket g c =
    let i = c.self.inside in
    let o = g.C.Core.over i.core in
    let H = g.C.Core.history i.core in
    let t : Ticket g.row.C-Snapshot.Denot = record { number = i.given + 1; update = c.args.update; stamp = c.length-stamp.result; snapshot = c.in_ok-snapshot.snapshot } in
    let marks = c.push_reserved.ensures.items ∙ ap (λ l. l ++ record { mark = Giving t.number t.update; maker = c.args.seat } ∷ []) c.in_ok-reserve.ensures.items in
    let busy = c.push_reserved-2.ensures.items ∙ ap (λ l. l ++ t.update ∷ []) c.in_ok-reserve-2.ensures.items in
    let same = shared_more o o H H i.opened i.marks.items _ (record { mark = Giving t.number t.update; maker = c.args.seat } ∷ []) i.busy.items _ i.given t.number refl marks ∙ (λ k. more (shared o H i.opened i.marks.items i.busy.items i.given) (made (Giving t.number t.update) (Some c.args.seat) ∷ []) H (busy k) t.number) in
    (next_gives {E = Memory} g.C.Core.is_snapshot (shared o H i.opened i.marks.items i.busy.items i.given) _ _ c.args.seat t c.self.invariant.0 c.self.view_is
    (subst (λ (b : Shared). lowest_idle b.over b.history b.busy ≡ Some c.args.update) (sym c.self.view_is) c.requires.idle) refl c.length-stamp.ensures.length c.in_ok-snapshot.ensures.is same).2
