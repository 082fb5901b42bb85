use Rattle.std.proofs.Common.{◌∙◌}
use Rattle.chase_repair.proofs.Copied.{gathering_same}
use Rattle.chase_repair.proofs.copying.GatheringTryCopy.copy.Goals as goal

pub returns : goal.returns
returns c = record {
  same = gathering_same record { sub = c.in_ok-copy.field-0; query = c.in_ok-copy-2.field-0; later = c.in_ok-from_slice.field-0; found = c.in_ok-copy-3.field-0 } c.args.self.now c.in_ok-copy.ensures.same c.in_ok-copy-2.ensures.same
      (c.in_ok-from_slice.ensures.items ∙ c.as_slice.ensures.value) c.in_ok-copy-3.ensures.same;
}
