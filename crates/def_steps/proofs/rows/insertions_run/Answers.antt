use Rattle.std.proofs.Common.{refl}
use Rattle.def_steps.proofs.rows.insertions_run.Goals as goal

pub returns : goal.returns
returns c =
    record {
      one_repair = refl;
      fresh_null = refl;
      stuck_missing = refl;
      unify_answer = refl;
      expand_answer = refl;
      unifier_cycle = refl;
      already_there = refl;
      null_nowhere = refl;
    }
