use Rattle.std.proofs.Common.{◌≡◌, ◌++◌, List, map, drop, Option}
use Rattle.std.specs.Prelude.{is_some}
use Rattle.chase_update.specs.Courses.{State}
use Rattle.core_queue.specs.Renewals.{AllHaveOneMore, AreFresh}
use Rattle.core_queue.proofs.renewals.fresh_programs.Given as goal

abbrev pub invariant-loop-i : goal.invariant-loop-i
invariant-loop-i l = record {
  more : AllHaveOneMore (drop l.i l.upper);
  fresh : (fs : List (Option State)) → AreFresh (drop l.i l.upper) fs → AreFresh l.upper (l.fresh.items ++ fs);
  there : (fs : List (Option State)) → map is_some fs ≡ map is_some (drop l.i l.causes) → map is_some (l.fresh.items ++ fs) ≡ map is_some l.causes;
}
