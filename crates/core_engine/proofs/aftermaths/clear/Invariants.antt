use Rattle.std.proofs.Common.{drop}
use Rattle.set_versions.specs.Standing.{Kept}
use Rattle.core_engine.specs.Aftermaths.{AllBetween, Cleared}
use Rattle.core_engine.proofs.aftermaths.clear.Given as goal

abbrev pub invariant-loop-i : goal.invariant-loop-i
invariant-loop-i l = record {
  between : AllBetween (drop l.i l.upper);
  done : (w : Kept) → Cleared (drop l.i l.upper) (drop l.i l.found) l.versions w → Cleared l.upper l.found l.fn.versions w;
}
