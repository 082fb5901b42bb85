use Rattle.std.proofs.Common.{◌≡◌, ◌∙◌, ap, sym, refl, subst, arith, [], ◌∷◌, ◌++◌, Some, None}
use Rattle.std.proofs.lemmas.Result.{err_from_is_err_and}
use Rattle.def_memory.specs.declared.Memory.{Memory}
use Rattle.def_record.specs.declared.item.Mark.TheVariants.{Next}
use Rattle.work_desk.specs.Shared.{Shared}
use Rattle.work_desk.specs.Cores.{lowest_idle, lowest_waiting}
use Rattle.work_desk.specs.Marks.{shared}
use Rattle.work_desk.proofs.Boards.{shared_more, shared_same, next_none, next_delivers}
use Rattle.work_desk.proofs.board.Board.deliver.Goals as goal

pub returns-in_err-reserve-clause-next : goal.returns-in_err-reserve-clause-next
returns-in_err-reserve-clause-next g c =
    let i = c.self.inside in
    let p = err_from_is_err_and c.from_residual.result c.from_residual.ensures.1 in
    next_none _ _ _ _ _ p.0 c.self.invariant.0
    (shared_same (g.C.Core.over i.core) _ (g.C.Core.history i.core) _ i.opened i.marks.items _ i.busy.items _ i.given refl refl c.in_err-reserve.ensures.items refl) c.self.view_is p.1

pub deliver-requires : goal.deliver-requires
deliver-requires g c = record { waiting = subst (λ (b : Shared). lowest_waiting b.over b.history ≡ Some c.args.update) (sym c.self.view_is) c.requires.waiting }

pub returns-in_err-deliver-clause-next : goal.returns-in_err-deliver-clause-next
returns-in_err-deliver-clause-next g c =
    let i = c.self.inside in
    let p = err_from_is_err_and c.from_residual-in_err-deliver.result c.from_residual-in_err-deliver.ensures.1 in
    next_none _ _ _ _ _ p.0 c.self.invariant.0
    (shared_same (g.C.Core.over i.core) _ (g.C.Core.history i.core) _ i.opened i.marks.items _ i.busy.items _ i.given c.in_err-deliver.ensures.over c.in_err-deliver.ensures.kept c.in_ok-reserve.ensures.items refl) c.self.view_is p.1

pub invariant_of-self-2 : goal.invariant_of-self-2
invariant_of-self-2 g c =
    let i = c.self.inside in
    let o = g.C.Core.over i.core in
    let H = g.C.Core.history i.core in
    let marks = c.push_reserved.ensures.items ∙ ap (λ l. l ++ record { mark = Next; maker = c.args.seat } ∷ []) c.in_ok-reserve.ensures.items in
    let same = shared_more o _ H (g.C.Core.history c.deliver.new.self) i.opened i.marks.items _ (record { mark = Next; maker = c.args.seat } ∷ []) i.busy.items i.busy.items i.given i.given c.in_ok-deliver.ensures.over marks in
    let p = next_delivers {S = g.row.C-Snapshot.Denot} {E = Memory} (shared o H i.opened i.marks.items i.busy.items i.given) _ _ c.args.seat c.args.update (g.C.Core.history c.deliver.new.self) c.self.invariant.0 c.self.view_is
    (subst (λ (b : Shared). lowest_idle b.over b.history b.busy ≡ None) (sym c.self.view_is) c.requires.none)
    (subst (λ (b : Shared). lowest_waiting b.over b.history ≡ Some c.args.update) (sym c.self.view_is) c.requires.waiting)
    c.in_ok-deliver.ensures.made same in
    (p.0, omega (arith, c.in_ok-reserve.ensures.ok, c.in_ok-reserve.ensures.len, c.push_reserved.ensures.len, c.push_reserved.ensures.capacity, c.len.ensures))

pub returns-clause-next : goal.returns-clause-next
returns-clause-next g c =
    let i = c.self.inside in
    let o = g.C.Core.over i.core in
    let H = g.C.Core.history i.core in
    let marks = c.push_reserved.ensures.items ∙ ap (λ l. l ++ record { mark = Next; maker = c.args.seat } ∷ []) c.in_ok-reserve.ensures.items in
    let same = shared_more o _ H (g.C.Core.history c.deliver.new.self) i.opened i.marks.items _ (record { mark = Next; maker = c.args.seat } ∷ []) i.busy.items i.busy.items i.given i.given c.in_ok-deliver.ensures.over marks in
    (next_delivers {S = g.row.C-Snapshot.Denot} {E = Memory} (shared o H i.opened i.marks.items i.busy.items i.given) _ _ c.args.seat c.args.update (g.C.Core.history c.deliver.new.self) c.self.invariant.0 c.self.view_is
    (subst (λ (b : Shared). lowest_idle b.over b.history b.busy ≡ None) (sym c.self.view_is) c.requires.none)
    (subst (λ (b : Shared). lowest_waiting b.over b.history ≡ Some c.args.update) (sym c.self.view_is) c.requires.waiting)
    c.in_ok-deliver.ensures.made same).1
