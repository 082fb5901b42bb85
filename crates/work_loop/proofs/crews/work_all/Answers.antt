use Rattle.std.proofs.Common.{◌≡◌, ◌∙◌, sym, ap, subst, List, map, length}
use Rattle.std.specs.Prelude.{All}
use Rattle.work_loop.specs.Crews.{seats_of, all_ok}
use Rattle.work_loop.proofs.Crewed.{of_each, own_after, places_after, rest_after, rested, whole}
use Rattle.work_loop.proofs.crews.work_all.Goals as goal

pub attend-requires-clause-own : goal.attend-requires-clause-own
attend-requires-clause-own g c κs within = of_each (g.B.Bench.owns c.args.bench.now) _ _ (ap seats_of c.as_mut_slice.ensures.value ∙ c.hire.ensures) c.requires.own

pub returns-clause-own : goal.returns-clause-own
returns-clause-own g c =
    let v = c.as_mut_slice.ensures in
    let same : length c.attend.new.workers ≡ length c.as_mut_slice.result.now = c.attend.auto.workers in
    let items : c.dismiss-result.new.seats.items ≡ seats_of c.attend.new.workers = c.dismiss-result.ensures.seats ∙ ap seats_of (whole c.attend.new.workers c.hire.new.workers.items c.hire.new.workers.len (same ∙ ap length v.value) (sym v.len ∙ ap length v.value)) in
    subst (λ (l : List g.row.S.Denot). All (g.B.Bench.owns c.args.bench.now) l) (sym items)
    (own_after (g.B.Bench.owns c.args.bench.now) g.B.Bench.lock g.B.Bench.seat_number g.B.Bench.rests c.as_mut_slice.result.now c.attend.new.workers same c.attend.ensures.left)

pub returns-clause-lock : goal.returns-clause-lock
returns-clause-lock g c =
    let v = c.as_mut_slice.ensures in
    let same : length c.attend.new.workers ≡ length c.as_mut_slice.result.now = c.attend.auto.workers in
    let items : c.dismiss-result.new.seats.items ≡ seats_of c.attend.new.workers = c.dismiss-result.ensures.seats ∙ ap seats_of (whole c.attend.new.workers c.hire.new.workers.items c.hire.new.workers.len (same ∙ ap length v.value) (sym v.len ∙ ap length v.value)) in
    ap (map g.B.Bench.lock) items
    ∙ ((places_after (g.B.Bench.owns c.args.bench.now) g.B.Bench.lock g.B.Bench.seat_number g.B.Bench.rests c.as_mut_slice.result.now c.attend.new.workers same c.attend.ensures.left).0
    ∙ ap (map g.B.Bench.lock) (ap seats_of v.value ∙ c.hire.ensures))

pub returns-clause-number : goal.returns-clause-number
returns-clause-number g c =
    let v = c.as_mut_slice.ensures in
    let same : length c.attend.new.workers ≡ length c.as_mut_slice.result.now = c.attend.auto.workers in
    let items : c.dismiss-result.new.seats.items ≡ seats_of c.attend.new.workers = c.dismiss-result.ensures.seats ∙ ap seats_of (whole c.attend.new.workers c.hire.new.workers.items c.hire.new.workers.len (same ∙ ap length v.value) (sym v.len ∙ ap length v.value)) in
    ap (map g.B.Bench.seat_number) items
    ∙ ((places_after (g.B.Bench.owns c.args.bench.now) g.B.Bench.lock g.B.Bench.seat_number g.B.Bench.rests c.as_mut_slice.result.now c.attend.new.workers same c.attend.ensures.left).1
    ∙ ap (map g.B.Bench.seat_number) (ap seats_of v.value ∙ c.hire.ensures))

pub returns-clause-rests : goal.returns-clause-rests
returns-clause-rests g c =
    let v = c.as_mut_slice.ensures in
    let same : length c.attend.new.workers ≡ length c.as_mut_slice.result.now = c.attend.auto.workers in
    let all = whole c.attend.new.workers c.hire.new.workers.items c.hire.new.workers.len (same ∙ ap length v.value) (sym v.len ∙ ap length v.value) in
    let items : c.dismiss-result.new.seats.items ≡ seats_of c.attend.new.workers = c.dismiss-result.ensures.seats ∙ ap seats_of all in
    rested c.dismiss-result.result _ _ c.dismiss-result.ensures.all
    (λ ok. subst (λ (l : List g.row.S.Denot). All g.B.Bench.rests l) (sym items)
    (rest_after (g.B.Bench.owns c.args.bench.now) g.B.Bench.lock g.B.Bench.seat_number g.B.Bench.rests c.as_mut_slice.result.now c.attend.new.workers same c.attend.ensures.left (sym (ap all_ok all) ∙ ok)))
