use Rattle.std.proofs.Common.{◌≡◌, ap, subst, ◌∙◌, length}
use Rattle.work_lock.specs.Seats.{Place, AllWithin}
use Rattle.work_lock.proofs.SeatLists.{split_first, parted}
use Rattle.work_lock.proofs.Finishes.{finishes}
use Rattle.work_lock.proofs.lock.StampLock.into_value.Goals as goal

pub gather-requires-clause-lock : goal.gather-requires-clause-lock
gather-requires-clause-lock g c =
    let e = split_first _ _ _ c.requires.some c.remove-first.ensures.value c.remove-first.ensures.by_index.2 in
    ap (λ (z : Place). z.lock) (parted _ _ _ _ _ e c.requires.seats).place

pub gather-requires-clause-first : goal.gather-requires-clause-first
gather-requires-clause-first g c =
    let e = split_first _ _ _ c.requires.some c.remove-first.ensures.value c.remove-first.ensures.by_index.2 in
    (parted _ _ _ _ _ e c.requires.seats).resting

pub gather-requires-clause-alone : goal.gather-requires-clause-alone
gather-requires-clause-alone g c =
    let e = split_first _ _ _ c.requires.some c.remove-first.ensures.value c.remove-first.ensures.by_index.2 in
    (parted _ _ _ _ _ e c.requires.seats).alone

pub gather-requires-clause-others : goal.gather-requires-clause-others
gather-requires-clause-others g c =
    let e = split_first _ _ _ c.requires.some c.remove-first.ensures.value c.remove-first.ensures.by_index.2 in
    (parted _ _ _ _ _ e c.requires.seats).others

pub close_with-closed-requires : goal.close_with-closed-requires
close_with-closed-requires g c =
    let e = split_first _ _ _ c.requires.some c.remove-first.ensures.value c.remove-first.ensures.by_index.2 in
    ap (λ z. z.table_id) c.into_inner-at.ensures ∙ (c.gather.ensures.same.0 ∙ ap (λ (z : Place). z.lock) (parted _ _ _ _ _ e c.requires.seats).place)

pub unreachable-requires : goal.unreachable-requires
unreachable-requires g c =
    let e = split_first _ _ _ c.requires.some c.remove-first.ensures.value c.remove-first.ensures.by_index.2 in
    let h = finishes g.V.Grows.entries _ _ _ _ _ _ _ _ _ e c.requires.seats (ap (λ z. z.me.0) c.into_inner-at.ensures ∙ ap (λ m. m.0) c.gather.ensures.gathered) c.close_with-closed.ensures.values.2 c.take-found.ensures.value in
    c.in_default.not-Some h.0 h.1

pub returns : goal.returns
returns g c =
    let e = split_first _ _ _ c.requires.some c.remove-first.ensures.value c.remove-first.ensures.by_index.2 in
    let h = finishes g.V.Grows.entries _ _ _ _ _ _ _ _ _ e c.requires.seats (ap (λ z. z.me.0) c.into_inner-at.ensures ∙ ap (λ m. m.0) c.gather.ensures.gathered) c.close_with-closed.ensures.values.2 c.take-found.ensures.value in
    let same : h.0 ≡ c.in-Some.value = cc (h.1, c.in-Some.is) in
    record { within = subst (λ x. AllWithin (length c.args.seats.items) (g.V.Grows.entries x) c.args.seats.items) same h.2 }
