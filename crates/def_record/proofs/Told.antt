-- At the chase, the record of a desk at rest tells the serial machine's result.
use Rattle.std.proofs.Common.{suc, ◌≤◌, arith, List, [], ◌∷◌, ◌++◌, length, Bool, true, false}
use Rattle.std.specs.Prelude.{if◌then◌else◌}
use Rattle.def_machine.specs.Machine.{Machine}
use Rattle.def_machine.specs.Updates.{Update, is_over, committed}
use Rattle.def_steps.specs.Chase.{caused, caused_chase}
use Rattle.def_steps.proofs.ChaseLaws.{chase_laws}
use Rattle.def_history.proofs.Theorem.{any_order}
use Rattle.def_history.proofs.Nulls.{nulls_are_present}
use Rattle.def_record.specs.Items.{entries_in}
use Rattle.def_record.specs.Openings.{opening}
use Rattle.def_record.specs.Results.{ResultLaw}
use Rattle.def_record.proofs.Ending.{headline_law}

committed_few : (M : Machine) (us : List (Update M)) → committed M us ≤ length us
committed_few M [] = omega arith
committed_few M (u ∷ us) = by (is_over M u) (committed_few M us)
  where
    by : (b : Bool) → committed M us ≤ length us → (if b then suc (committed M us) else 0) ≤ suc (length us)
    by true h = omega (arith, h)
    by false h = omega arith

pub result_law : ResultLaw
result_law ms B s S H us later seen fit legal recorded all rec some_seat saw rests =
    let ends = headline_law (caused_chase ms B) (chase_laws caused ms B fit.some_step) s S H us later seen fit.in_order legal recorded all rec some_seat saw rests in
    let serial = any_order ms B s S (entries_in (opening s S H ++ later)) ends.updates fit ends.legal in
    let present = nulls_are_present ms B s S (entries_in (opening s S H ++ later)) ends.updates fit ends.legal in
    record {
      ends = ends;
      result = serial.session ends.recorded ends.admitted ends.quiet;
      hold = serial.hold;
      apart = λ x y a b e. present.apart (committed (caused_chase ms B) ends.updates) x y (committed_few (caused_chase ms B) ends.updates) a b e;
    }
