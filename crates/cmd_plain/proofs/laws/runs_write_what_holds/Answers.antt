use Rattle.std.proofs.Common.{◌≡◌, ◌⊎◌, ap, refl, inl, inr, subst, sym, Option, Some, None}
use Rattle.cmd_frame.specs.Outputs.{OutputView}
use Rattle.cmd_frame.specs.Statuses.{status_of, status_of_ending}
use Rattle.cmd_frame.specs.declared.statuses.Status.TheVariants.{Ended, Stuck}
use Rattle.chase_update.specs.Results.{StopTold}
use Rattle.lang_report.specs.Results.{serial_told}
use Rattle.cmd_plain.specs.Commands.{unless_violated}
use Rattle.cmd_plain.specs.Runs.{ending_by, result_output}
use Rattle.cmd_plain.proofs.laws.runs_write_what_holds.Goals as goal

pub returns-clause-written : goal.returns-clause-written
returns-clause-written c = λ steps s v.
    record {
      written = ap (unless_violated s (result_output s (serial_told steps s))) v.met;
      hold = c.runs_meet_their_mappings.ensures steps s v;
    }

-- A run ends or stops.
one_of : (stop : Option StopTold) → (status_of_ending (ending_by stop) ≡ Ended) ⊎ (status_of_ending (ending_by stop) ≡ Stuck)
one_of None = inl refl
one_of (Some stop) = inr refl

pub returns-clause-status : goal.returns-clause-status
returns-clause-status c = λ steps s v.
    subst (λ (output : OutputView). (status_of output ≡ Ended) ⊎ (status_of output ≡ Stuck))
    (sym (ap (unless_violated s (result_output s (serial_told steps s))) v.met)) (one_of (serial_told steps s).stop)
