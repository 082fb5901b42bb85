use Rattle.std.proofs.Common.{◌≡◌, ◌∙◌, sym, ap, length}
use Rattle.try_lock.specs.Workers.{seats_of}
use Rattle.try_lock.proofs.Crews.{own_all, still_all, whole}
use Rattle.try_lock.proofs.crew.run.Goals as goal

pub attend_all-requires-clause-own : goal.attend_all-requires-clause-own
attend_all-requires-clause-own g c κs within = own_all (record { lock = c.in-Ok.lock }) c.args.seats _ _ (ap seats_of c.as_mut_slice.ensures.value ∙ c.hire.ensures) c.in-Ok.ensures.seats

pub into_value-board-requires-clause-seats : goal.into_value-board-requires-clause-seats
into_value-board-requires-clause-seats g c =
    let v = c.as_mut_slice.ensures in
    let same : length c.attend_all.new.workers ≡ length c.as_mut_slice.result.now = c.attend_all.auto.workers in
    let items : c.dismiss-all_ok.new.seats.items ≡ seats_of c.attend_all.new.workers = c.dismiss-all_ok.ensures ∙ ap seats_of (whole c.attend_all.new.workers c.hire.new.workers.items c.hire.new.workers.len (same ∙ ap length v.value) (sym v.len ∙ ap length v.value)) in
    still_all (record { lock = c.in-Ok.lock }) c.args.seats c.as_mut_slice.result.now c.attend_all.new.workers _ items same
    (rw (v.value, c.hire.ensures) c.in-Ok.ensures.seats) c.attend_all.ensures.attended
