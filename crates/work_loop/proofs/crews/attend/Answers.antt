use Rattle.std.proofs.Common.{subst, slice_index_or}
use Rattle.work_loop.specs.Crews.{Leaves}
use Rattle.work_loop.proofs.crews.attend.Goals as goal

pub returns : goal.returns
returns g c = record {
  left = λ i d h. let e = (c.for_each_mut.ensures i d h).1 in
      let k = e.call in
      let x : Leaves (g.B.Bench.owns c.args.bench.now) g.B.Bench.lock g.B.Bench.seat_number g.B.Bench.rests e.argument.now e.after_call.now = k in
      subst (λ z. Leaves (g.B.Bench.owns c.args.bench.now) g.B.Bench.lock g.B.Bench.seat_number g.B.Bench.rests z (slice_index_or c.for_each_mut.new.s i d)) e.argument_is
      (subst (λ z. Leaves (g.B.Bench.owns c.args.bench.now) g.B.Bench.lock g.B.Bench.seat_number g.B.Bench.rests e.argument.now z) e.left x);
}
