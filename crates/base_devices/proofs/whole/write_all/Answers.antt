-- A put takes the front of the bytes from `at` on, so what was taken stays a prefix.
use Rattle.std.proofs.Common.{subst, arith}
use Rattle.std.specs.Io.KnownBytes.{Appends}
use Rattle.std.proofs.KnownBytes.{Appends-trans}
use Rattle.base_devices.proofs.Pieces.{take-slice, within-slice}
use Rattle.base_devices.proofs.whole.write_all.Goals as goal

pub loop-at-preserved : goal.loop-at-preserved
loop-at-preserved g c = (
  subst (Appends _ _) (take-slice c.loop-at.at c.in_ok-at.field-0 c.args.bytes.now)
      (Appends-trans _ _ _ _ _ c.loop-at.invariant.0 c.in_ok-at.ensures.bytes),
  within-slice _ _ _ c.loop-at.invariant.1 c.in_ok-at.ensures.bound,
  omega (arith, c.in_ok-at.ensures.cause.later, c.loop-at.invariant.2),
)
