use Rattle.std.proofs.Common.{subst, slice_index_or}
use Rattle.try_lock.specs.Workers.{HasAttended}
use Rattle.try_lock.proofs.crew.attend_all.Goals as goal

pub returns : goal.returns
returns g c = record {
  attended = λ i d h. let e = (c.for_each_mut.ensures i d h).1 in
      let k = e.call in
      let x : HasAttended c.args.desk.now e.argument.now e.after_call.now = k in
      subst (λ z. HasAttended c.args.desk.now z (slice_index_or c.for_each_mut.new.s i d)) e.argument_is (subst (λ z. HasAttended c.args.desk.now e.argument.now z) e.left x);
}
