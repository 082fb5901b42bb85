use Rattle.std.proofs.Common.{◌∙◌}
use Rattle.ws_run.specs.Meanings.{thread_of}
use Rattle.ws_run.proofs.Naming.{drawn_on}
use Rattle.ws_run.proofs.drawing.name_all.Goals as goal

-- One more null gets its name.
pub loop-place-preserved : goal.loop-place-preserved
loop-place-preserved c = record {
  named = λ gs. drawn_on c.loop-place.drawn c.name.new.self c.args.nulls c.loop-place.place (thread_of c.loop-place.names c.loop-place.thread gs) (thread_of c.name.new.names c.name.new.thread gs) _
      c.loop-place-test.true (c.in_ok-name.ensures.named gs) c.in_ok-name.ensures.next (c.loop-place.invariant.named gs);
  ops = c.in_ok-name.ensures.ops ∙ c.loop-place.invariant.ops;
}
